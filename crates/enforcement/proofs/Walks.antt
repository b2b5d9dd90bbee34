-- Laws of walks and weak transitions, by induction on the walk: walks are put together, and one whose trace begins with a code is taken apart
-- after that code.
use Prim.Native.Nat.{ℕ}
use mathlib.Core.List.{List, [], ◌∷◌, ◌++◌}
use Rattle.reading.specs.Rule.{Bytes}
use Rattle.enforcement.specs.Model.{silent, Model, Walk, stay, silent_first, code_first, Weak, ByteCodes}
use Rattle.enforcement.specs.Promises.{WeakWalks}

module _ (m : Model) where
  pub walk_append : {s t u : m.State} {v w : List ℕ} → Walk m s v t → Walk m t w u → Walk m s (v ++ w) u
  walk_append stay k = k
  walk_append (silent_first h j) k = silent_first h (walk_append j k)
  walk_append (code_first h j) k = code_first h (walk_append j k)

  -- a weak transition is a walk with one code
  pub weak_walk : {s t : m.State} {c : ℕ} → Weak m s c t → Walk m s (c ∷ []) t
  weak_walk x = walk_append x.silent_before (code_first x.step x.silent_after)

  weak_after_silent : {s r t : m.State} {c : ℕ} → m.Step s silent r → Weak m r c t → Weak m s c t
  weak_after_silent h x = record {
    before = x.before;
    after = x.after;
    silent_before = silent_first h x.silent_before;
    step = x.step;
    silent_after = x.silent_after;
  }

  -- a walk whose trace begins with a code begins with a weak transition
  pub weak_first : {s u : m.State} {c : ℕ} {w : List ℕ} → Walk m s (c ∷ w) u → (t : m.State) × Weak m s c t × Walk m t w u
  weak_first (silent_first h k) = let (t, x, j) = weak_first k in (t, weak_after_silent h x, j)
  weak_first (code_first {s} {t} h k) = (t, record { before = s; after = t; silent_before = stay; step = h; silent_after = stay }, k)

  walk_weak : {s t : m.State} {c : ℕ} → Walk m s (c ∷ []) t → Weak m s c t
  walk_weak k =
      let (t, x, j) = weak_first k in
      record {
        before = x.before;
        after = x.after;
        silent_before = x.silent_before;
        step = x.step;
        silent_after = walk_append x.silent_after j;
      }

  pub walk_bytes : {s t : m.State} {w : List ℕ} → ByteCodes m → Walk m s w t → Bytes w
  walk_bytes codes stay = tt
  walk_bytes codes (silent_first h k) = walk_bytes codes k
  walk_bytes codes (code_first {s} {t} {c = c} h k) = (codes s t c h, walk_bytes codes k)

pub weak_walks : WeakWalks
weak_walks m s t c = (weak_walk m, walk_weak m)
