-- A law of lists over the front of a buffer: what is written right behind the front makes the front longer.
use Prim.Native.Nat.{ℕ, ◌<◌}
use mathlib.Core.Path.{◌≡◌}
use mathlib.Core.List.{List, [], ◌∷◌, ◌++◌}
use native.Mathlib.Numerals.{add-one}
use lib.ListN.{length, set, length-append}
use lib.Seq.{drop-cons, append_snoc, set-append_seam}
use Rattle.running.specs.Running.{overlay}

-- what is written right after the front makes it longer
pub overlay_set : (l b : List ℕ) (x : ℕ) → length l < length b → set (overlay l b) (length l) x ≡ overlay (l ++ (x ∷ [])) b
overlay_set l b x h = rw (drop-cons b (length l) 0 h, set-append_seam, length-append, add-one, append_snoc)
