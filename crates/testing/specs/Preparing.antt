-- Buffers and tables with bytes and entries that are known.
use Rattle.std.specs.Prelude.{ℕ, zero, suc, ◌+◌, ◌*◌, ◌%◌, List, [], ◌∷◌, ◌++◌}

-- n bytes or entries: number i is first + step × i, modulo size
unfoldable pub prepared : (size first step n : ℕ) → List ℕ
prepared size first step zero = []
prepared size first step (suc n) = prepared size first step n ++ ((first + step * n) % size ∷ [])
