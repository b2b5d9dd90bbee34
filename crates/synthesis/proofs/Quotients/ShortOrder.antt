-- The rows of the short table are numbered as found. The first equation k of a class is found, in the long numbering, by a code of some equation before
-- it. The class of that one comes before that of k, and all that is asked before of first equations is asked before there too: it leads to equations
-- before k, and so to classes before that of k.
use Prim.Native.Nat.{ℕ, ◌<◌}
use mathlib.Core.Path.{◌≡◌, refl, sym, ◌∙◌, ap}
use mathlib.Core.Logic.{inl, inr}
use mathlib.Core.List.{List}
use native.Mathlib.Decide.{dec_lt}
use native.Mathlib.Omega.{arith}
use lib.ListN.{length, get_or}
use Rattle.synthesis.specs.Monitor.{Answer, dropped, next, cases, lookup}
use Rattle.synthesis.specs.Search.{index_of}
use Rattle.synthesis.specs.Merging.{firsts}
use Rattle.synthesis.specs.Building.{Synthesis, with_equations, numbered_answer}
use Rattle.synthesis.specs.Promises.{Before, FoundBy, AsFound}
use Rattle.synthesis.specs.ShortPromises.{numbers_below, ShortAsFound}
use Rattle.synthesis.proofs.Monitors.Renaming.{Renames, renamed_from}
use Rattle.synthesis.specs.Arrays.{Distinct}
use Rattle.synthesis.proofs.Numberings.Indices.{index_is}
use Rattle.synthesis.proofs.Numberings.Tabulating.{tabulate_length, tabulate_at}
use Rattle.synthesis.proofs.Numberings.FindingOrder.{before_le, numbered_as_found}
use Rattle.synthesis.proofs.Tables.Equations.{equations_distinct}
use Rattle.synthesis.proofs.Quotients.Settled.{Inside, Settled}
use Rattle.synthesis.proofs.Quotients.Firsts.{first_at, firsts_ascend, firsts_index, firsts_distinct}
use Rattle.synthesis.proofs.Quotients.Quotient.{class_number, class_member, number_of-first}
use Rattle.synthesis.proofs.Quotients.ShortTables.{count, classes, class_firsts, rule_inside, rule_settled, some_class, shortens, short_renames}

-- ---- how a row is found, by numbers alone

record RowFound (codes : ℕ) (answer : ℕ → ℕ → Answer ℕ) (k : ℕ) : Type 0 where
  row : ℕ
  code : ℕ
  earlier : row < k
  is_code : code < codes
  leads : answer row code ≡ next k
  before : (j c i : ℕ) → Before j c row code → c < codes → answer j c ≡ next i → i < k

-- of equations, by their numbers
numbered_found : (y : Synthesis) → Distinct y.equations → (k : ℕ) → k < length y.equations → FoundBy 256 y.answer y.equations k
    → RowFound 256 (numbered_answer y) k
numbered_found y distinct k h f = record {
  row = f.equation;
  code = f.code;
  earlier = f.earlier;
  is_code = f.is_code;
  leads = rw f.leads (ap next (distinct k h));
  before = before;
}
  where
    before : (j c i : ℕ) → Before j c f.equation f.code → c < 256 → numbered_answer y j c ≡ next i → i < k
    before j c i p b q = on (y.answer (get_or y.equations j 0) c) refl q
      where
        on : (a : Answer ℕ) → y.answer (get_or y.equations j 0) c ≡ a → cases a dropped (λ e. next (index_of e y.equations)) ≡ next i → i < k
        on dropped z q = absurd (let o : ◌≡◌ {A = ℕ} 0 1 = cc in omega arith)
        on (next e) z q =
            let (l, less, at) = f.before j c e p b z in
            let is : index_of e y.equations ≡ l = ap (λ (e : ℕ). index_of e y.equations) (sym at) ∙ distinct l (omega arith) in
            let same : index_of e y.equations ≡ i = cc in
            omega arith

-- and back, where the numbers are the equations
rows_as_found : (codes : ℕ) (answer : ℕ → ℕ → Answer ℕ) (n : ℕ) → 0 < n → ((k : ℕ) → 0 < k → k < n → RowFound codes answer k)
    → AsFound codes answer 0 (numbers_below n)
rows_as_found codes answer n some found = record {
  some = omega (arith, tabulate_length (λ i. i) n);
  starts = at 0 some;
  found = λ i pos h. let b : i < n = omega (arith, tabulate_length (λ i. i) n) in found_by i b (found i pos b);
}
  where
    at : (i : ℕ) → i < n → get_or (numbers_below n) i 0 ≡ i
    at = tabulate_at (λ i. i) n

    found_by : (i : ℕ) → i < n → RowFound codes answer i → FoundBy codes answer (numbers_below n) i
    found_by i h f = record {
      equation = f.row;
      code = f.code;
      earlier = f.earlier;
      is_code = f.is_code;
      leads = rw (at i h, at f.row (omega (arith, f.earlier))) f.leads;
      before = λ j c e p b q.
          let less = f.before j c e p b (rw (at j (omega (arith, before_le p, f.earlier))) at q) in
          (e, less, at e (omega arith));
    }

-- ---- the quotient

module _ {codes : ℕ} {answer : ℕ → ℕ → Answer ℕ} {n : ℕ} {classes : List ℕ} (settled : Settled codes answer n classes) (inside : Inside codes answer n)
    (short : ℕ → ℕ → Answer ℕ) (renames : Renames codes (λ k. k < n) answer short (class_number classes n)) where
  abbrev fs : List ℕ
  fs = firsts classes n

  -- earlier equations are of earlier classes than a first equation
  earlier_class : (i k : ℕ) → i < length fs → k < get_or fs i 0 → class_number classes n k < i
  earlier_class i k h less =
      let f = first_at classes n i h in
      let below : k < n = omega (arith, f.below) in
      let member = class_member settled inside k below in
      let own : index_of (get_or fs i 0) fs ≡ i = firsts_distinct classes n i h in
      let order = firsts_index classes n (get_or classes k 0) (get_or fs i 0) member (rw own h) (omega (arith, settled.are_classes.le k below)) in
      omega arith

  -- what is asked before of first equations is asked before of the equations themselves
  asked_before : (j c k d : ℕ) → k < n → j < length fs → Before j c (class_number classes n k) d → Before (get_or fs j 0) c k d
  asked_before j c k d h b (inl less) =
      let at = index_is (get_or classes k 0) fs (class_member settled inside k h) in
      inl (omega (arith, settled.are_classes.le k h, firsts_ascend classes n j (class_number classes n k) less (class_member settled inside k h)))
  asked_before j c k d h b (inr (same, less)) = on (dec_lt (get_or classes k 0) k)
    where
      at : get_or fs j 0 ≡ get_or classes k 0
      at = rw same (index_is (get_or classes k 0) fs (class_member settled inside k h))

      on : Dec (get_or classes k 0 < k) → Before (get_or fs j 0) c k d
      on (yes l) = inl (omega (arith, at))
      on (no l) = inr (omega (arith, at, settled.are_classes.le k h), less)

  class_found : (i : ℕ) → i < length fs → RowFound codes answer (get_or fs i 0) → RowFound codes short i
  class_found i h f = record {
    row = class_number classes n f.row;
    code = f.code;
    earlier = earlier;
    is_code = f.is_code;
    leads = renames.follows f.row (get_or fs i 0) f.code below f.is_code f.leads ∙ ap next (number_of-first settled inside i h);
    before = before;
  }
    where
      below : f.row < n
      below = omega (arith, f.earlier, (first_at classes n i h).below)

      earlier : class_number classes n f.row < i
      earlier = earlier_class i f.row h f.earlier

      before : (j c e : ℕ) → Before j c (class_number classes n f.row) f.code → c < codes → short j c ≡ next e → e < i
      before j c e p b q =
          let (l, z, is) = renamed_from codes (λ k. k < n) answer short (class_number classes n) renames (get_or fs j 0) c e k_below b (rw is_j q) in
          let less = f.before (get_or fs j 0) c l (asked_before j c f.row f.code below inside_j p) b z in
          omega (arith, earlier_class i l h less)
        where
          inside_j : j < length fs
          inside_j = omega (arith, before_le p, earlier)

          k_below : get_or fs j 0 < n
          k_below = (first_at classes n j inside_j).below

          is_j : class_number classes n (get_or fs j 0) ≡ j
          is_j = number_of-first settled inside j inside_j

-- ---- the short table

pub short_as_found : ShortAsFound
short_as_found limit mark s table r n short b =
    let few = (shortens b).counted.few in
    let y = with_equations limit r in
    let settled = rule_settled limit r few in
    let inside = rule_inside limit r few in
    let long = numbered_as_found limit r in
    rw (shortens b).count_is
    (rows_as_found 256 (lookup 256 mark short) (length (class_firsts limit r)) (some_class limit r few) λ i pos h.
    let f = first_at (classes limit r) (count limit r) i h in
    let pos' : 0 < get_or (class_firsts limit r) i 0 = omega (arith, firsts_ascend (classes limit r) (count limit r) 0 i pos h) in
    class_found settled inside (lookup 256 mark short) (short_renames b) i h
    (numbered_found y (equations_distinct limit r) (get_or (class_firsts limit r) i 0) f.below (long.found (get_or (class_firsts limit r) i 0) pos' f.below)))
