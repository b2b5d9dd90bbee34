-- A loop over scans, under any monitor: after i of the scans the run stands where a run over the first i ends, and the buffers have what that keeps and
-- judges. So it is after one more, whether it is dropped or kept, and at the end for the whole run.
use Prim.Native.Nat.{ℕ, ◌+◌, ◌≤◌, ◌<◌}
use mathlib.Core.Path.{◌≡◌, refl, sym, ◌∙◌, ap}
use mathlib.Core.Bool.{Bool, true, false, not, cond}
use mathlib.Core.List.{List, [], ◌∷◌, ◌++◌}
use native.Mathlib.Omega.{arith}
use native.Mathlib.Nat.{add-zero}
use native.Mathlib.Numerals.{add-one}
use lib.ListN.{length, get_or, take, set, length-append, length-set}
use lib.Seq.{take_all, take-suc, length-take-le, set-get_or}
use Rattle.std.specs.Int.{from_bool}
use Rattle.synthesis.specs.Monitor.{Answer, dropped, next, kept, verdicts, ended}
use Rattle.synthesis.proofs.Monitors.Runs.{kept_last, ended_last, verdicts_last, kept_drop, ended_drop, verdicts_drop, verdicts_length}
use Rattle.running.specs.Running.{RunOver, run_by, overlay}
use Rattle.running.proofs.Overlays.{overlay_set}

-- ---- where the run stands

-- the scans so far, with one more
grown : (scans : List ℕ) (i : ℕ) → i < length scans → take (i + 1) scans ≡ take i scans ++ (get_or scans i 0 ∷ [])
grown scans i more = rw (add-one, take-suc scans i 0)

module _ {S : Type 0} (answer : S → ℕ → Answer S) (s : S) (scans : List ℕ) where
  -- where it stands after i of the scans
  abbrev pub stands_at : (i : ℕ) → S
  stands_at i = ended answer s (take i scans)

  -- a dropped scan leaves it there
  pub stands_next : (i : ℕ) → i < length scans → (b : Bool) (s' : S) → answer (stands_at i) (get_or scans i 0) ≡ cond b dropped (next s')
      → stands_at (i + 1) ≡ cond b (stands_at i) s'
  stands_next i more true s' d = ap (ended answer s) (grown scans i more) ∙ ended_drop answer s (take i scans) (get_or scans i 0) d
  stands_next i more false s' d = ap (ended answer s) (grown scans i more) ∙ ended_last answer s (take i scans) (get_or scans i 0) d

  pub stands_all : (i : ℕ) → length scans ≤ i → stands_at i ≡ (run_by answer s scans).state
  stands_all i r = ap (ended answer s) (take_all i scans r)

-- ---- what is in the buffers

-- by how much the count of kept scans grows
at_most_one : (b : Bool) → from_bool (not b) ≤ 1
at_most_one true = omega arith
at_most_one false = omega arith

module _ {S : Type 0} (answer : S → ℕ → Answer S) (s : S) (output₀ buffer₀ : List ℕ) where
  -- as many kept scans as the loop counts, over the front of the output, and the verdicts over that of the other buffer
  abbrev pub FilledBy : RunOver S → (output buffer : List ℕ) → (keeps : ℕ) → Type 0
  FilledBy run output buffer keeps =
      (keeps ≡ length run.kept) × ((output ≡ overlay run.kept output₀) × (buffer ≡ overlay run.verdicts buffer₀))

  module _ (w output buffer : List ℕ) (keeps c : ℕ) (h : FilledBy (run_by answer s w) output buffer keeps) where
    buffer_last : (i v : ℕ) → length w ≡ i → i < length buffer₀ → set buffer i v ≡ overlay (verdicts answer s w ++ (v ∷ [])) buffer₀
    buffer_last i v l r =
        let e : length (verdicts answer s w) ≡ i = verdicts_length answer s w ∙ l in
        rw (h.1.1, ← e) (overlay_set (verdicts answer s w) buffer₀ v (omega arith))

    -- for a dropped scan the byte of the output is written back as it was
    filled_last : (i : ℕ) → length w ≡ i → keeps < length output₀ → i < length buffer₀ → (b : Bool) (s' : S)
        → answer (ended answer s w) c ≡ cond b dropped (next s')
        → FilledBy (run_by answer s (w ++ (c ∷ []))) (set output keeps (cond b (get_or output keeps 0) c)) (set buffer i (from_bool b)) (keeps + from_bool (not b))
    filled_last i l ro rb true s' d = (
      rw (kept_drop answer s w c d, add-zero) h.0,
      (rw (kept_drop answer s w c d) (set-get_or output keeps 0 ∙ h.1.0), rw (verdicts_drop answer s w c d) (buffer_last i 1 l rb)),
    )
    filled_last i l ro rb false s' d = (
      rw (kept_last answer s w c d) (ap (λ (k : ℕ). k + 1) h.0 ∙ sym (length-append (kept answer s w) (c ∷ []))),
      (
        rw (kept_last answer s w c d, h.1.0, h.0) (overlay_set (kept answer s w) output₀ c (rw h.0 at ro)),
        rw (verdicts_last answer s w c d) (buffer_last i 0 l rb),
      ),
    )

  module _ (scans : List ℕ) where
    -- after i of the scans, with the bounds that the code needs
    pub record Filled (output buffer : List ℕ) (keeps i : ℕ) : Type 0 where
      pub inside : i ≤ length scans
      pub few : keeps ≤ i
      pub output_length : length output ≡ length output₀
      pub buffer_length : length buffer ≡ length buffer₀
      pub by : FilledBy (run_by answer s (take i scans)) output buffer keeps

    pub filled_none : Filled output₀ buffer₀ 0 0
    filled_none = record { inside = omega arith; few = omega arith; output_length = refl; buffer_length = refl; by = (refl, (refl, refl)) }

    -- what the iteration writes is told by equations, as its calls tell it
    pub filled_next : (output buffer : List ℕ) (keeps i : ℕ) → Filled output buffer keeps i → i < length scans
        → length scans ≤ length output₀ → length scans ≤ length buffer₀
        → (b : Bool) (s' : S) → answer (stands_at answer s scans i) (get_or scans i 0) ≡ cond b dropped (next s')
        → {x v k : ℕ} → x ≡ cond b (get_or output keeps 0) (get_or scans i 0) → v ≡ from_bool b → k ≡ from_bool (not b)
        → Filled (set output keeps x) (set buffer i v) (keeps + k) (i + 1)
    filled_next output buffer keeps i h more ro rb b s' d ex ev ek = record {
      inside = omega arith;
      few = omega (arith, at_most_one b);
      output_length = simp length-set h.output_length;
      buffer_length = simp length-set h.buffer_length;
      by = rw (grown scans i more, ex, ev, ek)
          (filled_last (take i scans) output buffer keeps (get_or scans i 0) h.by i (length-take-le i scans (omega arith)) (omega arith)
          (omega arith) b s' d);
    }

    pub filled_all : (output buffer : List ℕ) (keeps i : ℕ) → Filled output buffer keeps i → length scans ≤ i
        → FilledBy (run_by answer s scans) output buffer keeps
    filled_all output buffer keeps i h r = rw (take_all i scans r) at h.by
