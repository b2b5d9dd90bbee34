-- Two files that agree in 257 bytes say the same, for 32 patterns and 64 nodes end before byte 256, and the byte there is a kind at most. And 256 bytes
-- aren't enough.
use mathlib.Core.Path.{◌≡◌, refl}
use mathlib.Core.List.{List, [], ◌∷◌, ◌++◌}
use Prim.Native.Nat.{ℕ, zero, suc, ◌+◌, ◌-◌, ◌*◌, ◌≤◌, ◌<◌}
use native.Mathlib.Omega.{arith}
use lib.ListN.{length}
use borrow.Author.Tests.{lt-ltb}
use Rattle.reading.specs.Rule.{Guards, Bytes, pattern_kind, node_bytes, Necessity, Truth}
use Rattle.reading.specs.File.{accepted, and_then, records_at, pattern_at, is_pattern, pattern_format, patterns_at}
use Rattle.reading.specs.File.{NodeRecord, necessity_at, variable_at, node_at, Parsed, formula_at, formula_of, end_of_file, rule_of}
use Rattle.reading.specs.Promises.{SettledByFirstBytes, NotByFewer}
use Rattle.reading.specs.declared.Pattern.{Pattern}
use Rattle.reading.proofs.Settling.Agreement.{Agree, agree_inside, settled}
use Rattle.reading.proofs.Basics.Outcomes.{and_then-agree_both}
use Rattle.reading.proofs.Basics.ByteLaws.{bytes_append}
use Rattle.reading.proofs.RecordLists.RecordsAgree.{FormatsAgree, records_agree, records_next}
use Rattle.reading.proofs.Accepting.Encoding.{length_formula}
use Rattle.reading.proofs.Accepting.NodeBytes.{NodeStands, bare, of_necessity, of_variable, node_accepts}
use Rattle.reading.proofs.Accepting.Sound.{FormulaStands}
use Rattle.reading.proofs.Accepting.Steps.{parts_same, formula_step, formula_sound}

-- ---- how far a file is read

-- fewer than `bound` nodes are left, each with room for its two bytes before byte 256
abbrev Room : (bound at left : ℕ) → Type 0
Room bound at left = (left < bound) × (at + 2 * left ≤ 256)

-- after a node there is room for its parts, and after a formula for the next one
module _ (bound : ℕ) (s : List ℕ) (n at left : ℕ) (g : Guards) where
  node_width : {r : NodeRecord} → NodeStands s n at g r → r.next ≤ at + 2
  node_width (bare k b) = omega arith
  node_width (of_necessity h b a) = omega arith
  node_width (of_variable h k b a) = omega arith

  room_after_node : (r : NodeRecord) → Room (suc bound) at left → node_at s n at left g ≡ accepted r
      → NodeStands s n at g r × Room bound r.next (left - 1)
  room_after_node r h e =
      let node = (node_accepts s n at left g r).0 e in
      let two : r.next ≤ at + 2 = node_width node.1 in
      (node.1, (omega (arith, node.0), omega (arith, node.0)))

  room_after_formula : (f : Parsed) → Room bound at left → FormulaStands s n at left g f → Room bound f.next f.left
  room_after_formula f h stands = (
    omega (arith, stands.nodes),
    omega (arith, stands.nodes, stands.ends, length_formula f.formula),
  )

-- ---- files that agree

module _ (s t : List ℕ) (a : Agree 257 s t) where
  pattern_agrees : (at : ℕ) → at + 3 < 257 → pattern_at s at ≡ pattern_at t at
  pattern_agrees at h =
      let last = agree_inside 257 s t a (at + 3) h in
      rw (last.0, last.1, a.same (at + 1) (omega arith), a.same (at + 2) (omega arith), a.same (at + 3) h)

  is_pattern-agrees : (at : ℕ) → at < 257 → is_pattern s at ≡ is_pattern t at
  is_pattern-agrees at h = rw (lt-ltb at (length s) (omega (arith, a.long)), lt-ltb at (length t) (omega (arith, a.long')), a.same at h)

  necessity_agrees : (n at : ℕ) → at + 1 < 257 → necessity_at s n at ≡ necessity_at t n at
  necessity_agrees n at h = rw ((agree_inside 257 s t a (at + 1) h).0, (agree_inside 257 s t a (at + 1) h).1, a.same (at + 1) h)

  variable_agrees : (g : Guards) (at : ℕ) → at + 1 < 257 → variable_at s g at ≡ variable_at t g at
  variable_agrees g at h = rw ((agree_inside 257 s t a (at + 1) h).0, (agree_inside 257 s t a (at + 1) h).1, a.same (at + 1) h)

  node_agrees : (n at left : ℕ) (g : Guards) → at + 2 * left ≤ 256 → node_at s n at left g ≡ node_at t n at left g
  node_agrees n at zero g h =
      let here = agree_inside 257 s t a at (omega arith) in
      rw (here.0, here.1, a.same at (omega arith))
  node_agrees n at (suc left) g h =
      let here = agree_inside 257 s t a at (omega arith) in
      rw (here.0, here.1, a.same at (omega arith), necessity_agrees n at (omega arith), variable_agrees g at (omega arith))

  formula_agrees : (bound n at left : ℕ) (g : Guards) → Room bound at left → formula_of s n at left g ≡ formula_of t n at left g
  formula_agrees zero n at left g h = absurd (omega arith)
  formula_agrees (suc bound) n at left g h =
      rw (formula_step s n at left g, formula_step t n at left g)
      (and_then-agree_both (node_at s n at left g) (node_at t n at left g) _ _ (node_agrees n at left g h.1) (λ r e.
      let (stands, room) = room_after_node bound s n at left g r h e in
      parts_same s n (Room bound) (room_after_formula bound s n) (formula_of s n) (formula_of t n) (formula_sound s n) (formula_agrees bound n)
      at (left - 1) g stands room))

  formats_agree : FormatsAgree (pattern_format s) (pattern_format t) 4 257
  formats_agree = record {
    more = is_pattern-agrees;
    one = λ at h. pattern_agrees at (omega arith);
    too_many = λ at h. refl;
    width = λ p. refl;
    narrow = λ p. omega arith;
  }

  end_of_file-agrees : (ps : List Pattern) (f : Parsed) → f.next < 257 → end_of_file s ps f ≡ end_of_file t ps f
  end_of_file-agrees ps f h = rw (lt-ltb f.next (length s) (omega (arith, a.long)), lt-ltb f.next (length t) (omega (arith, a.long')))

  formula_ends : (ps : List Pattern) (n at : ℕ) → at ≤ 128
      → and_then (formula_of s n at 64 []) (end_of_file s ps) ≡ and_then (formula_of t n at 64 []) (end_of_file t ps)
  formula_ends ps n at h =
      let room : Room 65 at 64 = (omega arith, omega arith) in
      and_then-agree_both (formula_of s n at 64 []) (formula_of t n at 64 []) _ _ (formula_agrees 65 n at 64 [] room) (λ f e.
      let (fewer, fits) = room_after_formula 65 s n at 64 [] f room (formula_sound s n at 64 [] f e) in
      end_of_file-agrees ps f (omega arith))

  rule_agrees : rule_of s ≡ rule_of t
  unfolding rule_of
  rule_agrees =
      and_then-agree_both (patterns_at 32 s 0) (patterns_at 32 t 0) _ _ (records_agree _ _ 4 257 formats_agree 32 0 (omega arith)) (λ ps e.
      formula_ends ps.list (length ps.list) ps.next (records_next (pattern_format s) 4 (λ p. omega arith) 32 0 ps e))

pub settled_by_first_bytes : SettledByFirstBytes
settled_by_first_bytes = settled rule_of 257 rule_agrees

-- ---- fewer are too few

-- n times the bytes of a record, before the rest
times : ℕ → List ℕ → List ℕ → List ℕ
times zero bytes rest = rest
times (suc n) bytes rest = bytes ++ times n bytes rest

-- 32 patterns, a formula of 64 nodes that is not whole, and one more node
longest : List ℕ
longest = times 32 (pattern_kind ∷ 1 ∷ 0 ∷ 0 ∷ []) (times 64 (node_bytes (Necessity 0)) (node_bytes Truth))

times_bytes : (n : ℕ) (bytes rest : List ℕ) → Bytes bytes → Bytes rest → Bytes (times n bytes rest)
unfolding times
times_bytes zero bytes rest all more = more
times_bytes (suc n) bytes rest all more = bytes_append bytes (times n bytes rest) all (times_bytes n bytes rest all more)

longest_bytes : Bytes longest
unfolding longest
longest_bytes = times_bytes 32 _ _ (search arith) (times_bytes 64 _ _ (search arith) (search arith))

pub not_by_fewer : NotByFewer
unfolding longest times rule_of records_at formula_of formula_at
not_by_fewer = (longest, longest_bytes, refl, refl)
