-- What a clause of `Fault` says is refused so: reading comes to the clause's place, and there the reader's check is the clause's condition. With that,
-- and with the other direction, a file is refused exactly as a clause says.
use mathlib.Core.Path.{◌≡◌, refl, sym, ap, ◌∙◌}
use mathlib.Core.Logic.{◌↔◌, inl, inr}
use mathlib.Core.Bool.{Bool, true, false}
use mathlib.Core.List.{List, [], ◌∷◌}
use Prim.Native.Nat.{ℕ, zero, suc, ◌+◌, ◌-◌, ◌≤◌, ◌<◌}
use native.Mathlib.Omega.{arith}
use lib.ListN.{length, get_or, take}
use lib.Dec.{ltb, leb, eqb}
use borrow.Author.Tests.{leb-true, leb-false, lt-ltb, le-ltb, eqb-true}
use Rattle.reading.specs.Rule.{Guards, Rule, Bytes, Symbol, pattern_kind, necessity_kind, variable_kind}
use Rattle.reading.specs.File.{Outcome, accepted, refused, is_pattern, pattern_format, necessity_at, variable_at, node_at, rule_of}
use Rattle.reading.specs.Faults.{IsPattern, NoKind, IsNode, HasBody, IsVariable, KindAt, BeginsRule, BeginsBound, IsRule, Fault}
use Rattle.reading.specs.Faults.{file_ended, pattern_cut, node_cut, no_kind, after_rule, late_pattern, pattern_33, node_65, bad_pattern, names_nothing}
use Rattle.reading.specs.Faults.{unguarded}
use Rattle.reading.specs.Numbered.{reading_of}
use Rattle.reading.specs.Promises.{RefusesAtTheFault, HasOneFault}
use Rattle.reading.specs.Representations.{record_at}
use Rattle.reading.specs.declared.Pattern.{Pattern}
use Rattle.reading.proofs.Basics.ByteLaws.{byte_at}
use Rattle.reading.proofs.Basics.Outcomes.{refuse_refused, never_refused, refused_same}
use Rattle.reading.proofs.Accepting.Checks as checks
use Rattle.reading.proofs.Basics.Places.{Byte}
use Rattle.reading.proofs.Refusing.Contexts.{guards, Consumes, done, consumes_same}
use Rattle.reading.proofs.RecordLists.RecordWays.{record_left, record_accepted}
use Rattle.reading.proofs.Accepting.PatternBytes.{pattern_stands, other_kind}
use Rattle.reading.proofs.Refusing.LeftToRight.{due_at, due_over, head_at, refused_left_to_right}
use Rattle.reading.proofs.Refusing.ReadTo.{ReadTo, read_front, read_over, next_node, next_pattern, node_bound, bound_begins}
use Rattle.reading.proofs.Refusing.StandingRecords.{necessity_record_stands, variable_record_stands, pattern_stands_record}
use Rattle.reading.proofs.Refusing.FaultsFound.{fault_found}
use Rattle.reading.proofs.Refusing.OneFault.{one_fault}
use Rattle.reading.proofs.Refusing.ReachedPlaces.{head_at_to_node, head_at_to_pattern, read_to_front, read_to_unfinished}

-- ---- where the next record is refused

module _ (s : List ℕ) {number place : ℕ} where
  due_refused : (left n at : ℕ) (g : Guards) (due : List Guards) → node_at s n at left g ≡ refused number place
      → due_at s left n at (g ∷ due) ≡ refused number place
  unfolding due_at
  due_refused zero n at g due e = rw e
  due_refused (suc left) n at g due e = rw e

  head_refused : (left n at : ℕ) → is_pattern s at ≡ true → record_at (pattern_format s) left at ≡ refused number place
      → head_at s left n at ≡ refused number place
  unfolding head_at
  head_refused zero n at is e = rw is cc
  head_refused (suc left) n at is e = rw (is, sym (record_left (pattern_format s) at left) ∙ e)

-- ---- at a node

module _ {s : List ℕ} {at n m : ℕ} {g : Guards} {due : List Guards} (h : ReadTo s at n m (g ∷ due)) where
  node_refused : {number place : ℕ} → (m ≡ 0 → is_pattern s at ≡ false) → node_at s n at (64 - m) g ≡ refused number place
      → head_at s 32 0 0 ≡ refused number place
  node_refused none e = head_at_to_node h none ∙ due_refused s (64 - m) n at g due e

  ended_refused : at ≡ length s → head_at s 32 0 0 ≡ refused 1 (length s)
  ended_refused e =
      node_refused (λ z. rw (le-ltb at (length s) (omega arith))) (checks.file_ended s n at (64 - m) g (omega arith))

  kind_refused : KindAt s at NoKind → head_at s 32 0 0 ≡ refused 2 at
  kind_refused (inside, inl is) =
      node_refused (λ z. other_kind s at (λ one. omega arith)) (checks.kind_zero s n at (64 - m) g inside is)
  kind_refused (inside, inr over) =
      node_refused (λ z. other_kind s at (λ one. omega arith)) (checks.kind_over s n at (64 - m) g inside (λ z. omega arith) over)

  late_refused : KindAt s at IsPattern → 0 < m → head_at s 32 0 0 ≡ refused 3 at
  late_refused (inside, is) begun =
      node_refused (λ z. absurd (omega arith)) (checks.late_pattern s n at (64 - m) g inside (λ z. omega arith) (omega arith) is)

  full_refused : KindAt s at IsNode → m ≡ 64 → head_at s 32 0 0 ≡ refused 4 at
  full_refused (inside, (low, high)) full =
      node_refused (λ z. absurd (omega arith))
      (checks.no_node_left s n at (64 - m) g inside (λ z. omega arith) high (λ z. omega arith) (omega arith))

  -- a necessity or a variable, of which its own checks tell
  module _ {number place : ℕ} (few : m < 64) where
    necessity_refused : KindAt s at (λ k. k ≡ necessity_kind) → necessity_at s n at ≡ refused number place
        → head_at s 32 0 0 ≡ refused number place
    necessity_refused (inside, is) e =
        node_refused (λ z. other_kind s at (λ one. omega arith))
        (checks.node_necessity s n at (64 - m) g inside (λ z. omega arith) (omega arith) (λ z. omega arith) (λ z. omega arith) is ∙ e)

    variable_refused : KindAt s at (λ k. k ≡ variable_kind) → variable_at s g at ≡ refused number place
        → head_at s 32 0 0 ≡ refused number place
    variable_refused (inside, is) e =
        node_refused (λ z. other_kind s at (λ one. omega arith))
        (checks.node_variable s n at (64 - m) g inside (λ z. omega arith) (omega arith) (λ z. omega arith) (λ z. omega arith) is ∙ e)

  cut_refused : KindAt s at HasBody → m < 64 → length s < at + 2 → head_at s 32 0 0 ≡ refused 1 (length s)
  cut_refused (inside, inl is) few cut = necessity_refused few (inside, is) (checks.necessity_cut s n at (omega arith))
  cut_refused (inside, inr is) few cut = variable_refused few (inside, is) (checks.variable_cut s g at (omega arith))

  -- what it names isn't there: else a rule would begin
  nothing_refused : KindAt s at HasBody → m < 64 → at + 2 ≤ length s → (BeginsBound (take (at + 2) s) → ⊥) → head_at s 32 0 0 ≡ refused 6 at
  nothing_refused (inside, inl is) few whole none = on (leb n (get_or s (at + 1) 0)) refl
    where
      on : (c : Bool) → leb n (get_or s (at + 1) 0) ≡ c → head_at s 32 0 0 ≡ refused 6 at
      on true t = necessity_refused few (inside, is) (checks.no_such_pattern s n at (omega arith) (leb-true _ _ t))
      on false f =
          absurd (none (bound_begins h (necessity_record_stands s at (record { inside = inside; is = is }) (omega arith)) (leb-false _ _ f)))
  nothing_refused (inside, inr is) few whole none = on (leb (length g) (get_or s (at + 1) 0)) refl
    where
      on : (c : Bool) → leb (length g) (get_or s (at + 1) 0) ≡ c → head_at s 32 0 0 ≡ refused 6 at
      on true t = variable_refused few (inside, is) (checks.no_such_max s g at (omega arith) (leb-true _ _ t))
      on false f =
          absurd (none (bound_begins h (variable_record_stands s at (record { inside = inside; is = is }) (omega arith)) (leb-false _ _ f)))

  -- what it names isn't guarded
  unguarded_refused : KindAt s at IsVariable → m < 64 → at + 2 ≤ length s → (BeginsRule (take (at + 2) s) → ⊥) → BeginsBound (take (at + 2) s)
      → head_at s 32 0 0 ≡ refused 7 at
  unguarded_refused (inside, is) few whole none begins =
      let here = variable_record_stands s at (record { inside = inside; is = is }) (omega arith) in
      let bound = node_bound h here begins in
      on (get_or g (get_or s (at + 1) 0) false) refl
      (variable_refused few (inside, is)) (λ guard. none (read_front (next_node h refl few here (bound, guard))).begins) bound
    where
      on : (c : Bool) → get_or g (get_or s (at + 1) 0) false ≡ c
          → (variable_at s g at ≡ refused 7 at → head_at s 32 0 0 ≡ refused 7 at)
          → (get_or g (get_or s (at + 1) 0) false ≡ true → ⊥) → get_or s (at + 1) 0 < length g → head_at s 32 0 0 ≡ refused 7 at
      on true e say never bound = absurd (never e)
      on false e say never bound = say (checks.not_guarded s g at (omega arith) bound e)

-- ---- after a whole formula

-- before any node a formula is due
first_due : {s : List ℕ} {at n : ℕ} {due : List Guards} → ReadTo s at n 0 due → due ≡ [] ∷ []
first_due {n = n} {due = due} h = on h.nodes h.nnodes h.consumes
  where
    on : (xs : List Symbol) → length xs ≡ 0 → Consumes guards n ([] ∷ []) xs due → due ≡ [] ∷ []
    on [] e consumes = consumes_same consumes done
    on (x ∷ xs) e consumes = absurd (omega arith)

after_refused : {s : List ℕ} {at n m : ℕ} {due : List Guards} → ReadTo s at n m due → IsRule (take at s) → at < length s
    → head_at s 32 0 0 ≡ refused 3 at
after_refused {s} {at} {n} {m} {due} h whole inside =
    let over : due ≡ [] = read_over h whole in
    head_at_to_node h (λ z. absurd (some m z h over))
    ∙ (ap (due_at s (64 - m) n at) over ∙ (due_over s (64 - m) n at ∙ rw (lt-ltb at (length s) inside)))
  where
    some : (m : ℕ) → m ≡ 0 → ReadTo s at n m due → due ≡ [] → ⊥
    some zero z h over = let e = first_due h in let z' : ◌≡◌ {A = ℕ} 0 1 = cc in omega arith
    some (suc m) z h over = omega arith

-- ---- at a pattern

abbrev FiveAt : (at number place : ℕ) → Type 0
FiveAt at number place = (number ≡ 5) × (place ≡ at)

module _ {s : List ℕ} {at n : ℕ} {due : List Guards} (h : ReadTo s at n 0 due) (kind : KindAt s at IsPattern) where
  pattern_refused : {number place : ℕ} → record_at (pattern_format s) (32 - n) at ≡ refused number place → head_at s 32 0 0 ≡ refused number place
  pattern_refused e = head_at_to_pattern h ∙ head_refused s (32 - n) n at (rw (lt-ltb at (length s) kind.0, kind.1)) e

  pattern_33_refused : n ≡ 32 → head_at s 32 0 0 ≡ refused 4 at
  pattern_33_refused full = pattern_refused (checks.no_pattern-left s at (32 - n) (omega arith))

  pattern_cut_refused : n < 32 → length s < at + 4 → head_at s 32 0 0 ≡ refused 1 (length s)
  pattern_cut_refused few cut = pattern_refused (checks.pattern_cut s at (32 - n) (λ z. omega arith) (omega arith))

  -- whole and one of the 32, it can be refused with 5 only
  unfit_refused_with_5 : {number place : ℕ} → n < 32 → at + 4 ≤ length s
      → record_at (pattern_format s) (32 - n) at ≡ refused number place → FiveAt at number place
  unfit_refused_with_5 few whole e =
      refuse_refused (FiveAt at) (eqb (32 - n) 0) 4 at _ e (λ t. absurd (omega (arith, eqb-true (32 - n) 0 t))) (λ f e₁.
      refuse_refused (FiveAt at) (leb (length s) (at + 3)) 1 (length s) _ e₁ (λ t. absurd (omega (arith, leb-true (length s) (at + 3) t))) (λ f₁ e₂.
      refuse_refused (FiveAt at) (ltb 31 (get_or s (at + 2) 0)) 5 at _ e₂ (λ t. (refl, refl)) (λ f₂ e₃.
      refuse_refused (FiveAt at) (ltb 31 (get_or s (at + 3) 0)) 5 at _ e₃ (λ t. (refl, refl)) (λ f₃ e₄. absurd (never_refused e₄)))))

  bad_refused : Bytes s → n < 32 → at + 4 ≤ length s → (BeginsRule (take (at + 4) s) → ⊥) → head_at s 32 0 0 ≡ refused 5 at
  bad_refused bytes few whole none = on (record_at (pattern_format s) (32 - n) at) refl (λ number place e. pattern_refused e)
    where
      on : (o : Outcome Pattern) → record_at (pattern_format s) (32 - n) at ≡ o
          → ((number place : ℕ) → record_at (pattern_format s) (32 - n) at ≡ refused number place → head_at s 32 0 0 ≡ refused number place)
          → head_at s 32 0 0 ≡ refused 5 at
      on (accepted p) e say =
          let stands = pattern_stands s at p (byte_at s bytes (at + 1)) (record_accepted (pattern_format s) at (32 - n) e).1 in
          let b : Byte s at pattern_kind = record { inside = kind.0; is = kind.1 } in
          absurd (none (read_front (next_pattern h few (pattern_stands_record s at b stands) stands.well_formed)).begins)
      on (refused number place) e say = let (is, here) = unfit_refused_with_5 few whole e in say 5 at (e ∙ rw (is, here))

-- ---- every clause

fault_refused : (s : List ℕ) → Bytes s → {number place : ℕ} → Fault s number place → head_at s 32 0 0 ≡ refused number place
fault_refused s bytes (file_ended u) = let (g, due, h) = read_to_unfinished u in ended_refused h refl
fault_refused s bytes (pattern_cut u kind few cut) = let (g, due, h) = read_to_unfinished u in pattern_cut_refused h kind few cut
fault_refused s bytes (node_cut u kind few cut) = let (g, due, h) = read_to_unfinished u in cut_refused h kind few cut
fault_refused s bytes (no_kind u kind) = let (g, due, h) = read_to_unfinished u in kind_refused h kind
fault_refused s bytes (after_rule front whole inside) = let (due, h) = read_to_front front in after_refused h whole inside
fault_refused s bytes (late_pattern u kind begun) = let (g, due, h) = read_to_unfinished u in late_refused h kind begun
fault_refused s bytes (pattern_33 u kind) = let (g, due, h) = read_to_unfinished u in pattern_33_refused h kind refl
fault_refused s bytes (node_65 u kind) = let (g, due, h) = read_to_unfinished u in full_refused h kind refl
fault_refused s bytes (bad_pattern u kind few whole none) = let (g, due, h) = read_to_unfinished u in bad_refused h kind bytes few whole none
fault_refused s bytes (names_nothing u kind few whole none) = let (g, due, h) = read_to_unfinished u in nothing_refused h kind few whole none
fault_refused s bytes (unguarded u kind few whole none begins) =
    let (g, due, h) = read_to_unfinished u in unguarded_refused h kind few whole none begins

pub answer_refused : (o : Outcome Rule) (number place : ℕ) → (o ≡ refused number place) ↔ (reading_of o ≡ refused number place)
answer_refused (accepted r) number place = (λ e. absurd (never_refused e), λ e. absurd (never_refused e))
answer_refused (refused m at) number place =
    (λ e. let (is, there) = refused_same e in rw (is, there), λ e. let (is, there) = refused_same e in rw (is, there))

pub refuses_at_the_fault : RefusesAtTheFault
refuses_at_the_fault s bytes number place =
    let (forth, back) = refused_left_to_right s number place in
    let (say, hear) = answer_refused (rule_of s) number place in
    (λ e. fault_found s bytes (forth (hear e)), λ fault. say (back (fault_refused s bytes fault)))

pub has_one_fault : HasOneFault
has_one_fault s bytes = one_fault (reading_of (rule_of s)) (refuses_at_the_fault s bytes)
