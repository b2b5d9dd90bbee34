-- The three ways out: a refusal of the count of states, one of a step, and the model.
use Rattle.reading.proofs.Basics.Results.{passed_up}
use Rattle.reading.proofs.RecordLists.RecordsRead.{begun_none}
use Rattle.models.specs.Phone.{no_step, step_format}
use Rattle.models.proofs.Files.FileWays.{states_refused, model_loaded, model_not_loaded}
use Rattle.models.proofs.read_model.Goals as goal

pub returns-in_err-states : goal.returns-in_err-states
returns-in_err-states c = passed_up _ _ c.from_residual.ensures.1 (states_refused _ c.in_err-states.ensures)

pub read_steps-requires : goal.read_steps-requires
read_steps-requires c = begun_none (step_format c.args.bytes.now c.in_ok-states.states) no_step 512 2

pub returns-in_err-nsteps : goal.returns-in_err-nsteps
returns-in_err-nsteps c =
    passed_up _ _ c.from_residual-in_err-nsteps.ensures.1 (model_not_loaded _ c.in_ok-states.ensures _ _ c.in_err-nsteps.ensures)

pub returns : goal.returns
returns c = model_loaded _ c.in_ok-states.ensures _ c.in_ok-nsteps.ensures
