-- The programs' limit: it is under the library's, so the smaller of the two is itself, and the answers under the two limits are known. Under it a listing has
-- few lines, since each leads to a later position and none is behind the last.
use Prim.Native.Nat.{ℕ, ◌≤◌}
use mathlib.Core.Path.{◌≡◌, refl, sym}
use mathlib.Core.Bool.{Bool, true, false, cond}
use native.Mathlib.Omega.{arith}
use Rattle.reading.specs.File.{rule_of, Outcome, accepted, refused}
use Rattle.reading.specs.Numbered.{reading_of}
use Rattle.reading.specs.Refusals.{as_outcome}
use Rattle.synthesis.specs.Monitor.{mark, most}
use Rattle.synthesis.specs.Building.{synthesis_of, counted_of, table_after}
use Rattle.synthesis.proofs.Tables.SynthesisOutcomes.{filling_within_lem}
use Rattle.synthesis.proofs.Tables.Equations.{answers_count}
use Rattle.synthesis.proofs.Quotients.TwoLimits.{old_rules_stay}
use Rattle.commands.specs.Printing.{program_limit, Stops}
use Rattle.commands.specs.Promises.{ProgramsKeep128, FewLines, EquationsHandsBack}
use Rattle.commands.proofs.Leading.{lead_leads}

pub programs_keep_128 : ProgramsKeep128
programs_keep_128 s = record {
  limit = refl;
  counting = refl;
  filling = λ capacity. refl;
  judging = λ capacity f. refl;
  never_ten = filling_within_lem 128 s;
  answers = old_rules_stay 128 most s (omega arith);
}

pub equations_hands_back : EquationsHandsBack
equations_hands_back s table r shows = shows.answer

one_line : (written : Bool) → cond written 1 0 ≤ 32802
one_line true = omega arith
one_line false = omega arith

pub few_lines : FewLines
few_lines s table r shows = on (as_outcome r.answer) (sym shows.answer) shows.stops
  where
    on : (a : Outcome ℕ) → counted_of (synthesis_of program_limit s) ≡ a
        → Stops a (reading_of (rule_of s)) (table_after mark (synthesis_of program_limit s) table) r.lines r.written → r.lines ≤ 32802
    on (accepted n) e stops =
        let leads = lead_leads stops.2.lead in
        omega (arith, leads.fewer, leads.inside, (answers_count program_limit s n e).few)
    on (refused number place) e stops = rw stops (one_line r.written)
