-- Judging an accepted rule and model answers exactly whether the model satisfies the rule, since decided satisfaction is satisfaction; and what
-- judging leaves in the table hangs on its answer.
use Prim.Native.Nat.{ℕ}
use mathlib.Core.Path.{◌≡◌, refl, sym, ◌∙◌}
use mathlib.Core.Logic.{◌↔◌, ◌⊎◌, inl, inr}
use mathlib.Core.List.{List}
use native.Mathlib.Omega.{arith}
use lib.ListN.{length}
use Rattle.reading.specs.Rule.{Rule}
use Rattle.reading.specs.File.{Outcome, accepted, refused}
use Rattle.synthesis.specs.Building.{table_left, Fills}
use Rattle.synthesis.proofs.Tables.Built.{fills_outcome}
use Rattle.enforcement.specs.Model.{Satisfies}
use Rattle.models.specs.Phone.{Phone, model_of, phone_of}
use Rattle.models.specs.Judging.{RuleAndModel, judging_of, JudgedAs, table_judged}
use Rattle.models.specs.Promises.{JudgedExactly, JudgesExactly, JudgingLeaves, RefusedUnchanged}
use Rattle.models.proofs.Phones.DecidedSets.{decided_satisfies}
use Rattle.models.proofs.Judgments.JudgingOrder.{judging_accepts}
use Rattle.models.specs.declared.Judgment.{Judgment}
use Rattle.models.specs.declared.Judgment.TheVariants.{Meets, Breaks}

-- what is judged is the file's rule and the file's model
pub judging_case : {limit mark : ℕ} {s table : List ℕ} {r : Rule} {n : ℕ} {left : List ℕ} → Fills limit mark s table r n left
    → (f : List ℕ) (y : Phone) → phone_of f ≡ accepted y → judging_of limit s (length table) f ≡ accepted (record { rule = r; phone = y })
judging_case b f y read = judging_accepts _ _ _ (fills_outcome b) f read

judged_case : (r : Rule) (y : Phone) (answer : Outcome Judgment) → JudgedAs (accepted (record { rule = r; phone = y })) answer → JudgedExactly r y answer
judged_case r y answer (inl (q, sat)) =
    let meets = (decided_satisfies y r).0 sat in
    record {
      meets = (λ e. meets, λ e. q);
      breaks = (λ e. absurd (let z : ◌≡◌ {A = ℕ} 0 1 = cc in omega arith), λ none. absurd (none meets));
    }
judged_case r y answer (inr (q, none)) =
    record {
      meets = (λ e. absurd (let z : ◌≡◌ {A = ℕ} 0 1 = cc in omega arith), λ sat. absurd (none ((decided_satisfies y r).1 sat)));
      breaks = (λ e sat. none ((decided_satisfies y r).1 sat), λ e. q);
    }

pub judges_exactly : JudgesExactly
judges_exactly limit mark s table r n left b f y answer read judged = judged_case r y answer (rw (judging_case b f y read) at judged)

-- two judgments of models that satisfy their rules alike are the same
pub judged_same : (r r' : Rule) (y y' : Phone) → Satisfies (model_of y) r ↔ Satisfies (model_of y') r' → (one other : Outcome Judgment)
    → JudgedAs (accepted (record { rule = r; phone = y })) one → JudgedAs (accepted (record { rule = r'; phone = y' })) other → one ≡ other
judged_same r r' y y' alike one other judged judged' = on judged
  where
    exactly : JudgedExactly r y one
    exactly = judged_case r y one judged

    exactly' : JudgedExactly r' y' other
    exactly' = judged_case r' y' other judged'

    on : JudgedAs (accepted (record { rule = r; phone = y })) one → one ≡ other
    on (inl (meets, sat)) = meets ∙ sym (exactly'.meets.1 (alike.0 (exactly.meets.0 meets)))
    on (inr (breaks, none)) = breaks ∙ sym (exactly'.breaks.1 (λ sat. exactly.breaks.0 breaks (alike.1 sat)))

-- ---- the table

table_left_lem : (o : Outcome RuleAndModel) (answer : Outcome Judgment) (before left : List ℕ) → JudgedAs o answer
    → JudgingLeaves answer before left (table_judged o left before)
table_left_lem (accepted x) answer before left (inl (q, sat)) =
    record { refused = λ e. absurd (let z : ◌≡◌ {A = ℕ} 0 1 = cc in omega arith); judged = λ e. refl }
table_left_lem (accepted x) answer before left (inr (q, none)) =
    record { refused = λ e. absurd (let z : ◌≡◌ {A = ℕ} 0 1 = cc in omega arith); judged = λ e. refl }
table_left_lem (refused number place) answer before left q = record { refused = λ e. refl; judged = λ e. absurd (refused_not_judged e) }
  where
    refused_not_judged : (answer ≡ accepted Meets) ⊎ (answer ≡ accepted Breaks) → ⊥
    refused_not_judged (inl e) = let z : ◌≡◌ {A = ℕ} 0 1 = cc in omega arith
    refused_not_judged (inr e) = let z : ◌≡◌ {A = ℕ} 0 1 = cc in omega arith

pub refused_unchanged : RefusedUnchanged
refused_unchanged limit mark s f table answer judged =
    table_left_lem (judging_of limit s (length table) f) answer table (table_left limit mark s table) judged
