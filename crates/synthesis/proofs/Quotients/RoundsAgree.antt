-- Answers that agree on the equations and codes have the same rounds: what is asked of equations in a round is their answers alone.
use Prim.Native.Nat.{ℕ, zero, suc, ◌<◌}
use mathlib.Core.Path.{◌≡◌, refl}
use mathlib.Core.Bool.{not}
use mathlib.Core.List.{List}
use native.Mathlib.Omega.{arith}
use Rattle.reading.specs.Pattern.{least}
use Rattle.reading.proofs.Measures.Counting.{least_same}
use Rattle.synthesis.specs.Monitor.{Answer}
use Rattle.synthesis.specs.Merging.{merged, same_answer, together, refined, rounds}
use Rattle.synthesis.proofs.Numberings.Tabulating.{tabulate_cong}

module _ (codes : ℕ) (answer answer' : ℕ → ℕ → Answer ℕ) (count : ℕ) (agree : (k c : ℕ) → k < count → c < codes → answer k c ≡ answer' k c) where
  together_cong : (classes : List ℕ) (k l : ℕ) → k < count → l < count → together codes answer classes k l ≡ together codes answer' classes k l
  unfolding together
  together_cong classes k l h h' =
      rw
      (least_same codes (λ c. not (same_answer (merged classes answer k c) (merged classes answer l c)))
      (λ c. not (same_answer (merged classes answer' k c) (merged classes answer' l c)))
      (λ c b. rw (agree k c h b, agree l c h' b)))

  refined_cong : (classes : List ℕ) → refined codes answer classes count ≡ refined codes answer' classes count
  unfolding refined
  refined_cong classes =
      tabulate_cong (λ k. least k (together codes answer classes k)) (λ k. least k (together codes answer' classes k)) count
      (λ k h. least_same k (together codes answer classes k) (together codes answer' classes k) (λ l b. together_cong classes k l h (omega arith)))

  pub rounds_cong : (r : ℕ) → rounds codes answer count r ≡ rounds codes answer' count r
  unfolding rounds
  rounds_cong zero = refl
  rounds_cong (suc r) = rw (rounds_cong r) (refined_cong (rounds codes answer' count r))
