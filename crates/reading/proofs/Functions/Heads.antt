-- The loop over pattern records: what is read so far, with the extents, and what it leaves at each way out. For the patterns it is a law of lists of
-- records; one more of them is one more listed with its extent.
use mathlib.Core.Path.{◌≡◌, refl, ◌∙◌}
use mathlib.Core.Bool.{true, false}
use mathlib.Core.List.{List, [], ◌∷◌, map, map-append}
use Prim.Native.Nat.{ℕ, ◌+◌, ◌-◌}
use native.Mathlib.Omega.{arith}
use lib.ListN.{length, set, replicate, length-map}
use Rattle.reading.specs.File.{accepted, refused, is_pattern, pattern_format, patterns_at}
use Rattle.reading.specs.Numbered.{padded, listed, no_pattern, none_listed}
use Rattle.reading.specs.Representations.{record_at, RecordsBegun, head_of}
use Rattle.reading.specs.declared.Pattern.{Pattern}
use Rattle.reading.specs.declared.Listed.{Listed}
use Rattle.reading.proofs.RecordLists.RecordWays.{record_accepted}
use Rattle.reading.proofs.RecordLists.RecordsRead.{set_padded, begun_none, begun_one, begun_all, begun_refused}

-- n patterns are read, up to `at`, and the array has them with their extents
pub record PatternsBegun (s : List ℕ) (list : List Listed) (at n : ℕ) : Type 0 where
  pub plain : List Pattern
  pub begun : RecordsBegun (pattern_format s) no_pattern 32 0 plain n at
  pub stored : list ≡ padded 32 none_listed (map listed begun.done)

pub patterns_begun_none : (s : List ℕ) → PatternsBegun s (replicate 32 none_listed) 0 0
unfolding begun_none
patterns_begun_none s = record { plain = replicate 32 no_pattern; begun = begun_none (pattern_format s) no_pattern 32 0; stored = refl }

module _ (s : List ℕ) (list : List Listed) (at n : ℕ) (b : PatternsBegun s list at n) where
  pub patterns_begun_one : (p : Pattern) → is_pattern s at ≡ true → record_at (pattern_format s) (32 - n) at ≡ accepted p
      → PatternsBegun s (set list n (listed p)) (at + 4) (n + 1)
  unfolding begun_one
  patterns_begun_one p more e =
      let done = b.begun.done in
      let mapped : length (map listed done) ≡ n = length-map done listed ∙ b.begun.counted in
      let some = (record_accepted (pattern_format s) at (32 - n) e).0 in
      record {
        plain = set b.plain n p;
        begun = begun_one b.begun more e;
        stored = rw (b.stored, map-append listed done (p ∷ [])) (set_padded 32 n none_listed (listed p) (map listed done) mapped (omega arith));
      }

  pub patterns_begun_all : is_pattern s at ≡ false → accepted (record { list = list; count = n; next = at }) ≡ head_of (patterns_at 32 s 0)
  patterns_begun_all over = rw (begun_all b.begun over) (rw (b.stored, ← b.begun.counted))

  pub patterns_begun_refused : {number place : ℕ} → is_pattern s at ≡ true → record_at (pattern_format s) (32 - n) at ≡ refused number place
      → refused number place ≡ head_of (patterns_at 32 s 0)
  patterns_begun_refused more e = rw (begun_refused b.begun more e)
