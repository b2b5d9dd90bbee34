-- Two rules that differ only in formulas after empty patterns are violated by the same lists, and a model satisfies a rule where no trace of it violates
-- the rule. So the same models satisfy both. Judging answers exactly that, and before it refuses by what counting answers, which is the same too.
use Prim.Native.Nat.{ℕ, ◌*◌, ◌≤◌}
use mathlib.Core.Path.{◌≡◌, refl, sym, ◌∙◌}
use mathlib.Core.List.{List}
use native.Mathlib.Nat.{lt_of_not-le}
use native.Mathlib.Decide.{dec_le}
use native.Mathlib.Omega.{arith}
use lib.ListN.{length}
use Rattle.reading.specs.Rule.{Rule, Bytes}
use Rattle.reading.specs.File.{Outcome, accepted, refused, rule_of}
use Rattle.synthesis.specs.Alike.{RulesAlike}
use Rattle.synthesis.specs.Building.{synthesis_of, filling_of, counted_of}
use Rattle.synthesis.proofs.Tables.SynthesisOutcomes.{fills_as_counted}
use Rattle.synthesis.proofs.Tables.Built.{fills_when_counted}
use Rattle.synthesis.proofs.EmptyPatterns.AlikeLaws.{violated_alike}
use Rattle.synthesis.proofs.EmptyPatterns.SameTables.{long_counted_alike}
use Rattle.enforcement.proofs.SatisfactionLaws.{satisfied_alike}
use Rattle.models.specs.Phone.{Phone, model_of, phone_of}
use Rattle.models.specs.Judging.{judging_of, JudgedAs}
use Rattle.models.specs.Promises.{InOrder, MeetAlike, JudgedAlike}
use Rattle.models.proofs.Files.FileFaults.{model_refused}
use Rattle.models.proofs.Judgments.JudgingOrder.{judges_in_order}
use Rattle.models.proofs.Judgments.JudgingLaws.{judging_case, judged_same}
use Rattle.models.specs.declared.Judgment.{Judgment}

pub meet_alike : MeetAlike
meet_alike r r' alike = satisfied_alike r r' (violated_alike r r' alike)

-- ---- every file

module _ (limit : ℕ) (s s' : List ℕ) (bytes : Bytes s) (bytes' : Bytes s') (r r' : Rule) (read : rule_of s ≡ accepted r) (read' : rule_of s' ≡ accepted r')
    (alike : RulesAlike r r') (table table' : List ℕ) (size : length table ≡ length table') (f : List ℕ) (answer answer' : Outcome Judgment)
    (judged : JudgedAs (judging_of limit s (length table) f) answer) (judged' : JudgedAs (judging_of limit s' (length table') f) answer') where
  one : InOrder limit s (length table) f answer
  one = judges_in_order limit s (length table) f answer judged

  other : InOrder limit s' (length table') f answer'
  other = judges_in_order limit s' (length table') f answer' judged'

  -- where both tables have the entries of all that is counted
  filled_alike : (n : ℕ) → counted_of (synthesis_of limit s) ≡ accepted n → counted_of (synthesis_of limit s') ≡ accepted n → 256 * n ≤ length table
      → (o : Outcome Phone) → phone_of f ≡ o → answer ≡ answer'
  filled_alike n q q' room (accepted y) model =
      let filled = fills_when_counted filling_of (synthesis_of limit s) limit limit s table r n (omega arith) bytes read q
      (fills_as_counted limit s (length table)) room in
      let filled' = fills_when_counted filling_of (synthesis_of limit s') limit limit s' table' r' n (omega arith) bytes' read' q'
      (fills_as_counted limit s' (length table')) (omega arith) in
      judged_same r r' y y (meet_alike r r' alike (model_of y)) answer answer' (rw (judging_case filled f y model) at judged)
      (rw (judging_case filled' f y model) at judged')
  filled_alike n q q' room (refused number place) model =
      let told = (model_refused (phone_of f) number place).0 model in
      one.model n q room number place told ∙ sym (other.model n q' (omega arith) number place told)

  counted_both : (counted : Outcome ℕ) → counted_of (synthesis_of limit s) ≡ counted → counted_of (synthesis_of limit s') ≡ counted → answer ≡ answer'
  counted_both (refused number place) q q' = one.rule number place q ∙ sym (other.rule number place q')
  counted_both (accepted n) q q' = on (dec_le (256 * n) (length table))
    where
      on : Dec (256 * n ≤ length table) → answer ≡ answer'
      on (yes room) = filled_alike n q q' room (phone_of f) refl
      on (no short) = one.table n q (lt_of_not-le short) ∙ sym (other.table n q' (omega (arith, lt_of_not-le short)))

pub judged_alike : JudgedAlike
judged_alike limit s s' bytes bytes' r r' read read' alike table table' size f answer answer' judged judged' =
    counted_both limit s s' bytes bytes' r r' read read' alike table table' size f answer answer' judged judged' (counted_of (synthesis_of limit s)) refl
    (sym (long_counted_alike limit s s' bytes bytes' r r' read read' alike))
