-- What a table answers, by the entry that the code has looked up: dropped where it is the mark, and else on in the equation that it names.
use Prim.Native.Nat.{ℕ}
use mathlib.Core.Path.{◌≡◌, refl, ◌∙◌}
use mathlib.Core.Bool.{Bool, true, false, cond}
use mathlib.Core.List.{List}
use lib.Dec.{eqb}
use lib.ListN.{get_or, drop}
use Rattle.synthesis.specs.Monitor.{dropped, next, cases, lookup, row_of}
use Rattle.running.specs.Duty.{moved_to, moved_by, would_drop}
use Rattle.running.specs.declared.OnDuty.{OnDuty}

-- what is made of the answer, with x for dropped
pub by_entry : {A : Type 0} (mark : ℕ) (table : List ℕ) (k c : ℕ) {entry : ℕ} → entry ≡ get_or (row_of 256 table k) c mark → (x : A) (f : ℕ → A)
    → cases (lookup 256 mark table k c) x f ≡ cond (eqb entry mark) x (f entry)
by_entry {A} mark table k c {entry} is x f = rw (← is) (on (eqb entry mark))
  where
    on : (b : Bool) → cases (cond b dropped (next entry)) x f ≡ cond b x (f entry)
    on true = refl
    on false = refl

-- what it does to a rule on duty, from the rule's own table
module _ (mark : ℕ) (tables : List ℕ) (d : OnDuty) (c entry : ℕ) (is : entry ≡ get_or (row_of 256 (drop d.base tables) d.equation) c mark) where
  pub entry_drops : would_drop mark tables c d ≡ eqb entry mark
  entry_drops = by_entry mark (drop d.base tables) d.equation c is true (λ e. false) ∙ on (eqb entry mark)
    where
      on : (b : Bool) → cond b true false ≡ b
      on true = refl
      on false = refl

  pub entry_moves : moved_by mark tables c d ≡ moved_to d (cond (eqb entry mark) d.equation entry)
  entry_moves = by_entry mark (drop d.base tables) d.equation c is d (moved_to d) ∙ on (eqb entry mark)
    where
      on : (b : Bool) → cond b d (moved_to d entry) ≡ moved_to d (cond b d.equation entry)
      on true = refl
      on false = refl
