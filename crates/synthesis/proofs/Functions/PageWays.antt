-- What the rule page answers and leaves: renumbering an answer is renumbering its outcome, and the table is the same.
use Prim.Native.Nat.{ℕ}
use mathlib.Core.Path.{◌≡◌, refl, ap, ap₂, ◌∙◌}
use mathlib.Core.List.{List}
use borrow.Author.Tests.{ne_eqb}
use Rattle.std.specs.Prelude.{Result, Ok, Err, MatchResult, IsErrAnd}
use Rattle.std.proofs.lemmas.Result.{err_from_is_err_and}
use Rattle.reading.specs.File.{Outcome, accepted, refused}
use Rattle.reading.specs.Refusals.{number, as_outcome}
use Rattle.reading.specs.declared.refusals.Fault.{Fault}
use Rattle.reading.specs.declared.refusals.Fault.TheVariants.{TooManyEquations}
use Rattle.reading.specs.declared.refusals.Refusal.{Refusal}
use Rattle.reading.proofs.Basics.Outcomes.{accepted_is, never_accepted, never_refused}
use Rattle.reading.proofs.Basics.Results.{number_tells}
use Rattle.synthesis.specs.Monitor.{mark}
use Rattle.synthesis.specs.Building.{Synthesis, synthesis_of, filling_of, counted_of, table_after, preview_limit, page_number, on_page, preview_of, preview_filling_of}

-- ---- a refusal

pub other_on_page : (fault : Fault) → (fault ≡ TooManyEquations → ⊥) → number fault ≡ page_number (number fault)
other_on_page fault other = rw (ne_eqb (number fault) 9 (λ e. other (number_tells fault TooManyEquations e)))

-- ---- outcomes

-- a result with its refusal as the page gives it
abbrev pub PagedBy : (before after : Result ℕ Refusal) → Type 0
PagedBy before after =
    MatchResult before (λ n. after ≡ Ok n)
    (λ r. IsErrAnd after (λ r'. (number r'.fault ≡ page_number (number r.fault)) × (r'.place ≡ r.place)))

paged : (o : Outcome Synthesis) (before after : Result ℕ Refusal) → as_outcome before ≡ counted_of o → PagedBy before after
    → as_outcome after ≡ counted_of (on_page o)
paged (accepted y) (Ok n) after e by = rw by e
paged (accepted y) (Err r) after e by = absurd (never_accepted e)
paged (refused m at) (Ok n) after e by = absurd (never_refused e)
paged (refused m at) (Err r) after e by =
    let (r', is, (numbered, same)) = err_from_is_err_and after by in
    let fault : number r.fault ≡ m = cc in
    let place : r.place ≡ at = cc in
    rw is (ap₂ refused (numbered ∙ ap page_number fault) (same ∙ place))

page_table : (table : List ℕ) (o : Outcome Synthesis) → table_after mark o table ≡ table_after mark (on_page o) table
page_table table (accepted y) = refl
page_table table (refused number place) = refl

pub preview_counted : (s : List ℕ) (before after : Result ℕ Refusal) → as_outcome before ≡ counted_of (synthesis_of preview_limit s)
    → PagedBy before after → as_outcome after ≡ counted_of (preview_of s)
unfolding preview_of
preview_counted s before after e by = paged (synthesis_of preview_limit s) before after e by

pub preview_filled : (s : List ℕ) (capacity : ℕ) (before after : Result ℕ Refusal) → as_outcome before ≡ counted_of (filling_of preview_limit s capacity)
    → PagedBy before after → as_outcome after ≡ counted_of (preview_filling_of s capacity)
unfolding preview_filling_of
preview_filled s capacity before after e by = paged (filling_of preview_limit s capacity) before after e by

pub preview_left : (s : List ℕ) (capacity : ℕ) (table : List ℕ)
    → table_after mark (filling_of preview_limit s capacity) table ≡ table_after mark (preview_filling_of s capacity) table
unfolding preview_filling_of
preview_left s capacity table = page_table table (filling_of preview_limit s capacity)
