-- What is said of a model under a rule file that is read and counted, from whether the model satisfies the rule: judging has one answer to it.
use Prim.Native.Nat.{ℕ, ◌*◌}
use mathlib.Core.Path.{◌≡◌}
use mathlib.Core.Logic.{inl, inr}
use mathlib.Core.List.{List}
use Rattle.reading.specs.Rule.{Rule}
use Rattle.reading.specs.File.{accepted, refused}
use Rattle.synthesis.specs.Monitor.{most}
use Rattle.enforcement.specs.Model.{Satisfies}
use Rattle.models.specs.Phone.{Phone, model_of, phone_of}
use Rattle.models.specs.Judging.{judging_of, JudgedAs}
use Rattle.models.proofs.Phones.DecidedSets.{decided_satisfies}
use Rattle.models.proofs.Judgments.JudgingOrder.{judging_accepts}
use Rattle.examples.specs.Examples.{ReadAs}
use Rattle.examples.specs.ModelExamples.{JudgesIn, Judges}
use Rattle.examples.proofs.FileAnswers.{reads_filling}
use Rattle.models.specs.declared.Judgment.TheVariants.{Meets, Breaks}

-- a refusal is the only answer
pub judges_refused : (s : List ℕ) (capacity : ℕ) (f : List ℕ) (number place : ℕ) → judging_of most s capacity f ≡ refused number place
    → JudgesIn s capacity f (refused number place)
judges_refused s capacity f number place e r = rw e (λ h. h, λ h. h)

module _ (s : List ℕ) (r : Rule) (n : ℕ) (file : ReadAs s r (accepted n)) (f : List ℕ) (y : Phone) (read : phone_of f ≡ accepted y) where
  pub judges_met : Satisfies (model_of y) r → Judges s (256 * n) f (accepted Meets)
  judges_met sat capacity room a =
      rw (judging_accepts most s capacity (reads_filling s r n file capacity room) f read) (on, λ e. inl (e, (decided_satisfies y r).1 sat))
    where
      on : JudgedAs (accepted (record { rule = r; phone = y })) a → a ≡ accepted Meets
      on (inl x) = x.0
      on (inr x) = absurd (x.1 ((decided_satisfies y r).1 sat))

  pub judges_broken : (Satisfies (model_of y) r → ⊥) → Judges s (256 * n) f (accepted Breaks)
  judges_broken unsat capacity room a =
      rw (judging_accepts most s capacity (reads_filling s r n file capacity room) f read) (on, λ e. inr (e, λ d. unsat ((decided_satisfies y r).0 d)))
    where
      on : JudgedAs (accepted (record { rule = r; phone = y })) a → a ≡ accepted Breaks
      on (inl x) = absurd (unsat ((decided_satisfies y r).0 x.1))
      on (inr x) = x.0
