-- Where a step leads beside an equation: by cases on whether its label is 256, and on what the table answers to a code.
use Prim.Native.Nat.{ℕ, ◌+◌, ◌*◌, ◌≤◌, ◌<◌}
use mathlib.Core.Path.{◌≡◌, refl, ◌∙◌}
use mathlib.Core.Bool.{Bool, true, false}
use mathlib.Core.List.{List}
use Rattle.std.proofs.Common.{Option, Some, None}
use native.Mathlib.Omega.{arith}
use lib.Dec.{eqb}
use lib.ListN.{length, get_or}
use borrow.Author.Tests.{eq-eqb, ne_eqb}
use Rattle.synthesis.specs.Monitor.{mark, most, Answer, dropped, next, cases, meaning, lookup}
use Rattle.synthesis.specs.Table.{WellFormedTable}
use Rattle.synthesis.proofs.Tables.Rows.{row_at}
use Rattle.synthesis.proofs.Tables.WellFormedTables.{lookup_inside}
use Rattle.enforcement.specs.Model.{silent, code, Model}
use Rattle.models.specs.Phone.{label_of}
use Rattle.models.specs.Exploring.{ReachablePair, silently, keeping, NeverDrops, leads_to}
use Rattle.models.proofs.Phones.PhoneCodes.{label_silent, label_code}
use Rattle.std.proofs.lemmas.Option.{none-some, same_Some}

module _ (table : List ℕ) (e label : ℕ) where
  abbrev answer : Answer ℕ
  answer = lookup 256 mark table e label

  -- to an equation of the table
  pub leads_inside : {count : ℕ} → WellFormedTable most mark count table → e < count → (e' : ℕ) → leads_to table e label ≡ Some e' → e' < count
  leads_inside {count} wf inside e' kept = on (eqb label 256) refl
    where
      by_code : (a : Answer ℕ) → answer ≡ a → ◌≡◌ {A = Option ℕ} (cases a None Some) (Some e') → e' < count
      by_code dropped is h = absurd (none-some e' h)
      by_code (next j) is h = rw (← same_Some j e' h) (lookup_inside wf e label j inside is)

      on : (b : Bool) → eqb label 256 ≡ b → e' < count
      on true q = let same : e ≡ e' = same_Some e e' (rw q at kept) in omega arith
      on false q = by_code answer refl (rw q at kept)

  -- ---- from entries of the table

  module _ (room : 256 * e + 256 ≤ length table) (byte : label < 256) where
    abbrev entry : ℕ
    entry = get_or table (256 * e + label) 0

    by_entry : leads_to table e label ≡ cases (meaning mark entry) None Some
    by_entry = rw (ne_eqb label 256 (λ z. omega arith), row_at table e label mark room byte)

    pub leads_nowhere : entry ≡ mark → leads_to table e label ≡ None
    leads_nowhere h = by_entry ∙ rw (eq-eqb entry mark h)

    pub leads_to_entry : (entry ≡ mark → ⊥) → leads_to table e label ≡ Some entry
    leads_to_entry h = by_entry ∙ rw (ne_eqb entry mark h)

  -- ---- from labels of steps

  pub steps_silent : label_of label ≡ silent → leads_to table e label ≡ Some e
  steps_silent h = rw (eq-eqb label 256 (label_silent label h))

  pub steps_by_code : (c : ℕ) → label_of label ≡ code c → (a : Answer ℕ) → lookup 256 mark table e c ≡ a → leads_to table e label ≡ cases a None Some
  steps_by_code c h a is = let x = label_code label c h in rw (ne_eqb label 256 x.1, x.0, is)

  -- ---- from reachable pairs

  module _ (m : Model) (s t : m.State) (reached : ReachablePair (lookup 256 mark table) 0 m s e) (step : m.Step s (label_of label) t) where
    pub reachable_step : (e' : ℕ) → leads_to table e label ≡ Some e' → ReachablePair (lookup 256 mark table) 0 m t e'
    reachable_step e' kept = on (eqb label 256) refl
      where
        by_code : (a : Answer ℕ) → answer ≡ a → ◌≡◌ {A = Option ℕ} (cases a None Some) (Some e') → m.Step s (code label) t
            → ReachablePair (lookup 256 mark table) 0 m t e'
        by_code dropped is h x = absurd (none-some e' h)
        by_code (next j) is h x = rw (← same_Some j e' h) (keeping reached x is)

        on : (b : Bool) → eqb label 256 ≡ b → ReachablePair (lookup 256 mark table) 0 m t e'
        on true q = rw (← same_Some e e' (rw q at kept)) (silently reached (rw q at step))
        on false q = by_code answer refl (rw q at kept) (rw q at step)

    pub dropped_step_refutes : leads_to table e label ≡ None → NeverDrops (lookup 256 mark table) 0 m → ⊥
    dropped_step_refutes none never = on (eqb label 256) refl
      where
        by_code : (a : Answer ℕ) → answer ≡ a → ◌≡◌ {A = Option ℕ} (cases a None Some) None → m.Step s (code label) t → ⊥
        by_code dropped is h x = never s t e label reached x is
        by_code (next j) is h x = cc

        on : (b : Bool) → eqb label 256 ≡ b → ⊥
        on true q = let z : ◌≡◌ {A = Option ℕ} (Some e) None = rw q at none in cc
        on false q = by_code answer refl (rw q at none) (rw q at step)
