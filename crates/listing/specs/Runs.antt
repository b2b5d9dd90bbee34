-- The runs of a row: neighbouring codes with the same entry, as far as they go.
use Rattle.std.specs.Prelude.{ℕ, suc, ◌≤◌, ◌<◌, ◌≡◌, cond, List, [], ◌∷◌, eqb, length, get_or}

-- the codes from first to last, with the entry of each
pub record CodeRun : Type 0 where
  pub first : ℕ
  pub last : ℕ
  pub entry : ℕ

-- a run, shorter to write
abbrev pub code_run : (first last entry : ℕ) → CodeRun
code_run first last entry = record { first = first; last = last; entry = entry }

-- the code c with its entry x before some runs: it joins the first of them if that has the same entry
abbrev pub joined : (c x : ℕ) → List CodeRun → List CodeRun
joined c x [] = code_run c c x ∷ []
joined c x (r ∷ rs) = cond (eqb x r.entry) (code_run c r.last x ∷ rs) (code_run c c x ∷ (r ∷ rs))

-- the runs of the entries of the codes from c on
abbrev pub runs_from : (c : ℕ) → List ℕ → List CodeRun
runs_from c [] = []
runs_from c (x ∷ xs) = joined c x (runs_from (suc c) xs)

abbrev pub runs : List ℕ → List CodeRun
runs row = runs_from 0 row

-- From `first` on a row has the same entry up to `last`, and no further.
pub record RunTo (row : List ℕ) (first last : ℕ) : Type 0 where
  pub some : first ≤ last
  pub inside : last < length row
  pub same : (c : ℕ) → first ≤ c → c ≤ last → get_or row c 0 ≡ get_or row first 0
  pub ends : suc last < length row → get_or row (suc last) 0 ≡ get_or row first 0 → ⊥
