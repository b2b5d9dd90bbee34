-- The order of refusals in judging. Judging is filling and then reading the model, and filling is counting and then the check of the table; so the
-- refusal is that of the first that refuses.
use Prim.Native.Nat.{ℕ, ◌*◌, ◌≤◌}
use mathlib.Core.Path.{◌≡◌, refl}
use mathlib.Core.Logic.{◌⊎◌, inl, inr}
use mathlib.Core.List.{List}
use lib.ListN.{length}
use Rattle.reading.specs.File.{accepted, refused, and_then, Outcome}
use Rattle.reading.proofs.Basics.Outcomes.{and_then-accepts}
use Rattle.synthesis.specs.Building.{Synthesis, synthesis_of, filling_of, counted_of}
use Rattle.synthesis.specs.Promises.{FillsAsCounted}
use Rattle.synthesis.proofs.Tables.SynthesisOutcomes.{counted_accepts, counted_refuses, filling_within_lem, fills_as_counted}
use Rattle.models.specs.Phone.{Phone, phone_of}
use Rattle.models.specs.Judging.{RuleAndModel, with_model, judging_of, JudgedAs}
use Rattle.models.specs.Promises.{JudgesInOrder}
use Rattle.models.proofs.Files.Encoding.{phone_accepted}
use Rattle.models.proofs.Files.FileFaults.{model_refused}
use Rattle.models.specs.declared.Judgment.{Judgment}
use Rattle.models.specs.declared.Judgment.TheVariants.{Meets, Breaks}

module _ (limit : ℕ) (s : List ℕ) (capacity : ℕ) where
  pub judging_refused : {number place : ℕ} → filling_of limit s capacity ≡ refused number place → (f : List ℕ)
      → judging_of limit s capacity f ≡ refused number place
  unfolding judging_of
  judging_refused e f = rw e

  module _ {y : Synthesis} (fills : filling_of limit s capacity ≡ accepted y) (f : List ℕ) where
    pub judging_model_refused : {number place : ℕ} → phone_of f ≡ refused number place → judging_of limit s capacity f ≡ refused number place
    unfolding judging_of
    judging_model_refused e = rw (fills, e)

    pub judging_accepts : {p : Phone} → phone_of f ≡ accepted p → judging_of limit s capacity f ≡ accepted (record { rule = y.rule; phone = p })
    unfolding judging_of
    judging_accepts e = and_then-accepts _ fills (and_then-accepts _ e refl)

-- with a table for as many rows as the limit allows, 10 doesn't come
pub judging_within_lem : (limit : ℕ) (s : List ℕ) (capacity : ℕ) → 256 * limit ≤ capacity → (f : List ℕ)
    → judging_of limit s capacity f ≡ and_then (synthesis_of limit s) (with_model f)
unfolding judging_of
judging_within_lem limit s capacity room f = rw (filling_within_lem limit s capacity room)

-- what isn't refused is judged
meets_or_breaks : (x : RuleAndModel) (answer : Outcome Judgment) → JudgedAs (accepted x) answer → (answer ≡ accepted Meets) ⊎ (answer ≡ accepted Breaks)
meets_or_breaks x answer (inl (q, sat)) = inl q
meets_or_breaks x answer (inr (q, none)) = inr q

pub judges_in_order : JudgesInOrder
judges_in_order limit s capacity f answer judged = record {
  rule = λ number place e. refuses number place (judging_refused limit s capacity (counted_refuses _ number place (counts.refused number place e)) f);
  table = λ n e h. refuses 10 0 (judging_refused limit s capacity (counted_refuses _ 10 0 (counts.too_short n e h)) f);
  model = λ n e room number place told.
      let (y, fills, n-is) = filled n e room in
      refuses number place (judging_model_refused limit s capacity fills f ((model_refused (phone_of f) number place).1 told));
  judged = λ n e room m told.
      let (y, fills, n-is) = filled n e room in
      let (p, read, stored) = phone_accepted (phone_of f) told in
      meets_or_breaks (record { rule = y.rule; phone = p }) answer (rw (judging_accepts limit s capacity fills f read) at judged);
}
  where
    counts : FillsAsCounted (synthesis_of limit s) (filling_of limit s capacity) capacity
    counts = fills_as_counted limit s capacity

    refuses : (number place : ℕ) → judging_of limit s capacity f ≡ refused number place → JudgedAs (refused number place) answer
    refuses number place e = rw e at judged

    filled : (n : ℕ) → counted_of (synthesis_of limit s) ≡ accepted n → 256 * n ≤ capacity
        → (y : Synthesis) × (filling_of limit s capacity ≡ accepted y) × (n ≡ length y.equations)
    filled n e room = counted_accepts (filling_of limit s capacity) n (counts.enough n e room)
