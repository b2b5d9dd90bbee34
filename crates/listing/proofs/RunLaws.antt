-- The first run of the codes from one on, and what follows it: a run of one code stands apart from the next, and a longer one joins its first code to the run
-- of the others, by induction over its length.
use mathlib.Core.Path.{◌≡◌, refl, sym, ◌∙◌}
use mathlib.Core.Bool.{Bool, true, false}
use mathlib.Core.List.{List, [], ◌∷◌}
use Prim.Native.Nat.{ℕ, zero, suc, ◌+◌, ◌-◌, ◌≤◌, ◌<◌}
use native.Mathlib.Omega.{arith}
use native.Mathlib.Numerals.{add-one}
use lib.Dec.{eqb, leb, ltb}
use lib.ListN.{length, get_or, drop, drop_of_length-le}
use lib.Seq.{drop-cons}
use borrow.Author.Tests.{eq-eqb, ne_eqb, eqb-true, eqb-false, leb-true, leb-false, ltb-true, ltb-false}
use Rattle.std.proofs.Common.{not, Some, None, get_or-drop, length-drop}
use Rattle.std.specs.List.{position, position_or_len}
use Rattle.std.proofs.lemmas.List.Sums.{position_or_len_is}
use Rattle.listing.specs.Runs.{CodeRun, code_run, joined, runs_from, RunTo}

-- ---- equal entries

-- the entries from c to last are the same
record Same (row : List ℕ) (c last : ℕ) : Type 0 where
  pub some : c ≤ last
  pub inside : last < length row
  pub same : (j : ℕ) → c ≤ j → j ≤ last → get_or row j 0 ≡ get_or row c 0

module _ (row : List ℕ) (c : ℕ) where
  same_single : c < length row → Same row c c
  same_single h = record { some = omega arith; inside = h; same = λ j l m. let is : j ≡ c = omega arith in rw is }

  same_next : (last : ℕ) → Same row c last → last + 1 < length row → get_or row (last + 1) 0 ≡ get_or row c 0 → Same row c (last + 1)
  same_next last s h e = record {
    some = omega (arith, s.some);
    inside = h;
    same = λ j l m. on j l m (leb j last) refl;
  }
    where
      on : (j : ℕ) → c ≤ j → j ≤ last + 1 → (b : Bool) → leb j last ≡ b → get_or row j 0 ≡ get_or row c 0
      on j l m true f = s.same j l (leb-true j last f)
      on j l m false f = let is : j ≡ last + 1 = omega (arith, leb-false j last f) in rw is e

  same_ends : (last : ℕ) → Same row c last → (last + 1 < length row → get_or row (last + 1) 0 ≡ get_or row c 0 → ⊥) → RunTo row c last
  same_ends last s stop =
      record { some = s.some; inside = s.inside; same = s.same; ends = rw (add-one last) at stop }

-- ---- joining

-- a code before runs that begin with another entry
joined_apart : (d x c y : ℕ) (rs : List CodeRun) → eqb x y ≡ false → joined d x (joined c y rs) ≡ code_run d d x ∷ joined c y rs
joined_apart d x c y [] e = rw e
joined_apart d x c y (r ∷ rs) e = on (eqb y r.entry) refl
  where
    on : (b : Bool) → eqb y r.entry ≡ b → joined d x (joined c y (r ∷ rs)) ≡ code_run d d x ∷ joined c y (r ∷ rs)
    on true f = rw (f, e)
    on false f = rw (f, e)

module _ (row : List ℕ) where
  -- the run of one code
  runs_from-single : (c : ℕ) → RunTo row c c → runs_from c (drop c row) ≡ code_run c c (get_or row c 0) ∷ runs_from (suc c) (drop (suc c) row)
  runs_from-single c r = rw (drop-cons row c 0 r.inside) (on (ltb (suc c) (length row)) refl)
    where
      on : (b : Bool) → ltb (suc c) (length row) ≡ b
          → joined c (get_or row c 0) (runs_from (suc c) (drop (suc c) row)) ≡ code_run c c (get_or row c 0) ∷ runs_from (suc c) (drop (suc c) row)
      on true e =
          let more = ltb-true (suc c) (length row) e in
          rw (drop-cons row (suc c) 0 more)
          (joined_apart c (get_or row c 0) (suc c) (get_or row (suc c) 0) (runs_from (suc (suc c)) (drop (suc (suc c)) row))
          (ne_eqb _ _ (λ same. r.ends more (sym same))))
      on false e = rw (drop_of_length-le row {i = suc c} (ltb-false (suc c) (length row) e))

  run_tail : (c last : ℕ) → suc c ≤ last → RunTo row c last → RunTo row (suc c) last
  run_tail c last h r =
      let next = r.same (suc c) (omega arith) h in
      record {
        some = h;
        inside = r.inside;
        same = λ j l m. r.same j (omega arith) m ∙ sym next;
        ends = λ l m. r.ends l (m ∙ next);
      }

  runs_from-run : (m c last : ℕ) → last ≡ c + m → RunTo row c last
      → runs_from c (drop c row) ≡ code_run c last (get_or row c 0) ∷ runs_from (suc last) (drop (suc last) row)
  runs_from-run zero c last e r =
      let is : last ≡ c = omega arith in
      rw is (runs_from-single c (rw is at r))
  runs_from-run (suc m) c last e r =
      let next = r.same (suc c) (omega arith) (omega arith) in
      let here : c < length row = omega (arith, r.inside) in
      rw (drop-cons row c 0 here, runs_from-run m (suc c) last (omega arith) (run_tail c last (omega arith) r), eq-eqb _ _ (sym next))

  pub first_run : (c last : ℕ) → RunTo row c last
      → runs_from c (drop c row) ≡ code_run c last (get_or row c 0) ∷ runs_from (suc last) (drop (suc last) row)
  first_run c last r = runs_from-run (last - c) c last (omega (arith, r.some)) r

  pub no_runs : (c : ℕ) → length row ≤ c → runs_from c (drop c row) ≡ []
  no_runs c h = rw (drop_of_length-le row {i = c} h)

  -- there is one from every code: `more` codes may follow those that are known to be the same
  run_extends : (more c last : ℕ) → Same row c last → length row ≤ last + suc more → (end : ℕ) × RunTo row c end
  run_extends zero c last s h = (last, same_ends row c last s (λ l m. omega arith))
  run_extends (suc more) c last s h = on (ltb (last + 1) (length row)) refl (eqb (get_or row (last + 1) 0) (get_or row c 0)) refl
      (λ l e. run_extends more c (last + 1) (same_next row c last s l e) (omega arith))
    where
      on : (a : Bool) → ltb (last + 1) (length row) ≡ a → (b : Bool) → eqb (get_or row (last + 1) 0) (get_or row c 0) ≡ b
          → (last + 1 < length row → get_or row (last + 1) 0 ≡ get_or row c 0 → (end : ℕ) × RunTo row c end) → (end : ℕ) × RunTo row c end
      on true f true g more = more (ltb-true _ _ f) (eqb-true _ _ g)
      on true f false g more = (last, same_ends row c last s (λ l m. eqb-false _ _ g m))
      on false f b g more = (last, same_ends row c last s (λ l m. omega (arith, ltb-false (last + 1) (length row) f)))

  pub some_run : (c : ℕ) → c < length row → (end : ℕ) × RunTo row c end
  some_run c h = run_extends (length row) c c (same_single row c h) (omega arith)

-- ---- the run that a search for another entry finds

module _ (row : List ℕ) (c : ℕ) (h : c < length row) where
  abbrev pub differs : ℕ → Bool
  differs x = not (eqb x (get_or row c 0))

  first_other : (end : ℕ) → RunTo row c end → position_or_len differs (drop c row) ≡ suc end - c
  first_other end r = position_or_len_is differs (drop c row) (suc end - c) 0 (omega (arith, r.some, r.inside, length-drop c row)) same other
    where
      same : (k : ℕ) → k < suc end - c → differs (get_or (drop c row) k 0) ≡ false
      same k l = rw (get_or-drop c row k 0, eq-eqb _ _ (r.same (c + k) (omega arith) (omega (arith, r.some)))) refl

      other : suc end - c < length (drop c row) → differs (get_or (drop c row) (suc end - c) 0) ≡ true
      other l =
          let at : c + (suc end - c) ≡ suc end = omega (arith, r.some) in
          rw (get_or-drop c row (suc end - c) 0, at, ne_eqb _ _ (r.ends (omega (arith, length-drop c row)))) refl

  -- the run goes up to the entry before the first other one, or to the end
  pub ends_before : {many : ℕ} → position differs (drop c row) ≡ Some many → RunTo row c (c + many - 1)
  ends_before {many} e =
      let (end, run) = some_run row c h in
      let is : end ≡ c + many - 1 = grind (arith, first_other end run, run.some) in
      rw is at run

  pub ends_row : position differs (drop c row) ≡ None → RunTo row c (length row - 1)
  ends_row e =
      let (end, run) = some_run row c h in
      let is : end ≡ length row - 1 = grind (arith, first_other end run, run.some, run.inside, length-drop c row) in
      rw is at run
