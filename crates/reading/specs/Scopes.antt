-- The max nodes around a record, as a reader's scope has them: their numbers in an array, and how many of them are unguarded.
use Rattle.std.specs.Prelude.{ℕ, zero, suc, ◌-◌, true, false, List, [], ◌∷◌, ◌++◌, get_or, replicate}
use Rattle.reading.specs.Rule.{Guards}

-- the max nodes around a record, innermost first: their numbers, and which of them are guarded
pub record Enclosing : Type 0 where
  pub maxes : List ℕ
  pub guards : Guards

-- the first n of a list, last first
unfoldable pub last_first : ℕ → List ℕ → List ℕ
last_first zero ns = []
last_first (suc n) ns = get_or ns n 0 ∷ last_first n ns

-- which of so many are guarded, where the innermost `unguarded` are not
unfoldable pub guards_of : (count unguarded : ℕ) → Guards
guards_of count unguarded = replicate unguarded false ++ replicate (count - unguarded) true
