-- Putting a node into the sets of the codes that a pattern covers, one code after the other: the sets before the code are done, and those from it on
-- are as they were.
use Prim.Native.Nat.{ℕ, ◌+◌, ◌≤◌, ◌<◌}
use mathlib.Core.Path.{◌≡◌, refl, ◌∙◌}
use mathlib.Core.Bool.{Bool}
use mathlib.Core.List.{List}
use native.Mathlib.Omega.{arith}
use lib.ListN.{length, get_or, set, length-set}
use lib.Seq.{get_or-set_same, get_or-set_other}
use borrow.Author.Count.{below_more}
use Rattle.reading.specs.Pattern.{covers}
use Rattle.reading.specs.declared.Pattern.{Pattern}
use Rattle.synthesis.specs.Arrays.{with_node, AddedToCodes}

-- the codes below c are done
pub record AddedToCodesBelow (c : ℕ) (p : Pattern) (k : ℕ) (before after : List ℕ) : Type 0 where
  pub long : length after ≡ length before
  pub done : (j : ℕ) → j < c → get_or after j 0 ≡ with_node (get_or before j 0) k (covers p j)
  pub rest : (j : ℕ) → c ≤ j → get_or after j 0 ≡ get_or before j 0

pub added_to_codes_none : (p : Pattern) (k : ℕ) (xs : List ℕ) → AddedToCodesBelow 0 p k xs xs
added_to_codes_none p k xs = record { long = refl; done = λ j h. absurd (omega arith); rest = λ j h. refl }

pub added_to_codes_next : {c : ℕ} {p : Pattern} {k : ℕ} {before after : List ℕ} (b : Bool) (e : ℕ) → c < length after → b ≡ covers p c
    → e ≡ with_node (get_or after c 0) k b → AddedToCodesBelow c p k before after → AddedToCodesBelow (c + 1) p k before (set after c e)
added_to_codes_next {c} {p} {k} {before} {after} b e h q w m = record {
  long = length-set after c e ∙ m.long;
  done = below_more (λ j. get_or (set after c e) j 0 ≡ with_node (get_or before j 0) k (covers p j)) c
      (λ j l. get_or-set_other after c j e 0 (λ z. omega (arith, z)) ∙ m.done j l)
      (get_or-set_same after c e 0 h ∙ w ∙ rw (q, m.rest c (omega arith)));
  rest = λ j l. get_or-set_other after c j e 0 (λ z. omega (arith, z)) ∙ m.rest j (omega arith);
}

pub added_to_codes_all : {c : ℕ} {p : Pattern} {k : ℕ} {before after : List ℕ} → 256 ≤ c → AddedToCodesBelow c p k before after → AddedToCodes p k before after
added_to_codes_all l m = record { is = λ j h. m.done j (omega arith) }
