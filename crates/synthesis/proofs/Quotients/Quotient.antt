-- A monitor and its quotient by settled classes. The first equation of a class answers as every equation of it does, up to classes; so to go from each
-- equation to the first of its class is to rename them, and the table of the first equations renames these once more, to their numbers.
use Prim.Native.Nat.{ℕ, ◌*◌, ◌≤◌, ◌<◌}
use mathlib.Core.Path.{◌≡◌, refl, sym, ◌∙◌, ap}
use mathlib.Core.List.{List}
use native.Mathlib.Omega.{arith}
use lib.ListN.{length, get_or}
use Rattle.synthesis.specs.Monitor.{Answer, dropped, next, lookup}
use Rattle.synthesis.specs.Search.{index_of}
use Rattle.synthesis.specs.Table.{filled}
use Rattle.synthesis.specs.Merging.{DropAlike, up_to, merged, firsts}
use Rattle.synthesis.proofs.Monitors.Renaming.{Renames, renames_twice}
use Rattle.synthesis.proofs.Monitors.DroppingAlike.{renamed_alike}
use Rattle.synthesis.proofs.Numberings.Indices.{Member, distinct_indices}
use Rattle.synthesis.proofs.Numberings.Finding.{ClosedUnder}
use Rattle.synthesis.proofs.Tables.TableMonitors.{table_renames}
use Rattle.synthesis.proofs.Quotients.Settled.{Inside, Settled}
use Rattle.synthesis.proofs.Quotients.Firsts.{first_at, first_member, firsts_distinct}

-- the number of an equation's class
abbrev pub class_number : (classes : List ℕ) → (count k : ℕ) → ℕ
class_number classes count k = index_of (get_or classes k 0) (firsts classes count)

module _ {codes : ℕ} {answer : ℕ → ℕ → Answer ℕ} {count : ℕ} {classes : List ℕ} (settled : Settled codes answer count classes)
    (inside : Inside codes answer count) where
  -- ---- each equation renamed to the first of its class

  class_below : (k : ℕ) → k < count → get_or classes k 0 < count
  class_below k h = omega (arith, settled.are_classes.le k h)

  pub class_member : (k : ℕ) → k < count → Member (get_or classes k 0) (firsts classes count)
  class_member k h = first_member classes count (get_or classes k 0) (record { below = class_below k h; own = settled.are_classes.again k h })

  merged_first : (k c : ℕ) → k < count → c < codes → merged classes answer (get_or classes k 0) c ≡ merged classes answer k c
  merged_first k c h b = settled.alike (get_or classes k 0) k c (class_below k h) h b (settled.are_classes.again k h)

  merged_renames : Renames codes (λ k. k < count) answer (merged classes answer) (λ k. get_or classes k 0)
  merged_renames = record {
    invariant = λ k j c h b q. inside k c j h b q;
    drops = λ k c h b q. merged_first k c h b ∙ ap (up_to classes) q;
    follows = λ k j c h b q. merged_first k c h b ∙ ap (up_to classes) q;
  }

  -- ---- the first equations renamed to their numbers

  -- the first equations lead to first equations
  pub firsts_closed : ClosedUnder codes (merged classes answer) (firsts classes count)
  firsts_closed i c e h b q = on (answer (get_or (firsts classes count) i 0) c) refl q
    where
      on : (a : Answer ℕ) → answer (get_or (firsts classes count) i 0) c ≡ a → up_to classes a ≡ next e → Member e (firsts classes count)
      on dropped p q = absurd (let z : ◌≡◌ {A = ℕ} 0 1 = cc in omega arith)
      on (next j) p q =
          let z : get_or classes j 0 ≡ e = cc in
          rw (← z) (class_member j (inside (get_or (firsts classes count) i 0) c j (first_at classes count i h).below b p))

  pub number_of-first : (i : ℕ) → i < length (firsts classes count) → class_number classes count (get_or (firsts classes count) i 0) ≡ i
  number_of-first i h = rw (first_at classes count i h).own (firsts_distinct classes count i h)

  -- ---- both

  module _ (mark : ℕ) (table : List ℕ) (room : codes * length (firsts classes count) ≤ length table) (few : length (firsts classes count) ≤ mark) where
    abbrev short : ℕ → ℕ → Answer ℕ
    short = lookup codes mark (filled mark (merged classes answer) (firsts classes count) codes table)

    pub quotient_renames : Renames codes (λ k. k < count) answer short (class_number classes count)
    quotient_renames =
        renames_twice codes (λ k. k < count) (λ e. Member e (firsts classes count)) answer (merged classes answer) short
        (λ k. get_or classes k 0) (λ e. index_of e (firsts classes count)) merged_renames
        (table_renames codes mark (merged classes answer) (firsts classes count) firsts_closed table room few) class_member

    -- an equation drops as the row of its class does
    quotient_alike : (k : ℕ) → k < count → DropAlike codes answer k short (class_number classes count k)
    quotient_alike = renamed_alike codes answer short (λ k. k < count) (class_number classes count) quotient_renames

    -- no two rows drop alike
    pub rows_apart : (i j : ℕ) → i < length (firsts classes count) → j < length (firsts classes count) → DropAlike codes short i short j → i ≡ j
    rows_apart i j h h' alike =
        let k = get_or (firsts classes count) i 0 in
        let l = get_or (firsts classes count) j 0 in
        let f = first_at classes count i h in
        let f' = first_at classes count j h' in
        let same = settled.parts k l f.below f'.below (λ w all.
        rw (number_of-first i h) at (quotient_alike k f.below w all)
        ∙ alike w all ∙ sym (rw (number_of-first j h') at (quotient_alike l f'.below w all))) in
        distinct_indices (firsts classes count) (firsts_distinct classes count) i j h h' (sym f.own ∙ same ∙ f'.own)
