-- Where reading refuses a file, a clause of `Fault` says so: from record to record it is known what stands before, and at the refused one each check of
-- the reader is the condition of a clause.
use mathlib.Core.Path.{◌≡◌, refl, subst, sym, ◌∙◌}
use mathlib.Core.Logic.{inl, inr}
use mathlib.Core.Bool.{Bool, true, false, cond, not, ◌||◌}
use mathlib.Core.List.{List, [], ◌∷◌, ◌++◌}
use Prim.Native.Nat.{ℕ, zero, suc, ◌+◌, ◌≤◌, ◌<◌}
use native.Mathlib.Omega.{arith}
use lib.ListN.{length, get_or}
use lib.Dec.{ltb, leb, eqb}
use borrow.Author.Tests.{ltb-true, ltb-false, leb-true, leb-false, eqb-true, eqb-false, lt-ltb}
use Rattle.reading.specs.Pattern.{WellFormedPattern}
use Rattle.reading.specs.Rule.{Guards, Bytes, pattern_kind, necessity_kind, variable_kind}
use Rattle.reading.specs.File.{refused, and_then, pattern_at, is_pattern, necessity_at, variable_at, node_at}
use Rattle.reading.specs.Faults.{Unfinished, KindAt, IsPattern, HasBody, NoKind, Fault, file_ended, pattern_cut, node_cut, no_kind, after_rule}
use Rattle.reading.specs.Faults.{late_pattern, pattern_33, node_65, bad_pattern, names_nothing, unguarded}
use Rattle.reading.proofs.Basics.ByteLaws.{byte_at}
use Rattle.reading.proofs.Basics.Outcomes.{or_eq_false, refuse_refused, never_refused, and_then-refused}
use Rattle.reading.proofs.Basics.Places.{Byte}
use Rattle.reading.proofs.Accepting.Checks.{pattern_of_bytes}
use Rattle.reading.proofs.Accepting.NodeBytes.{bare_truth, bare_falsity, bare_both, bare_max, NodeKind, bare_kind, necessity_kind_lem, variable_kind_lem}
use Rattle.reading.proofs.Accepting.NodeBytes.{node_kind, of_kind, node_accepts}
use Rattle.reading.proofs.Accepting.PatternBytes.{pattern_stands, pattern_kind_lem}
use Rattle.reading.proofs.Refusing.Contexts.{guards, parts, done}
use Rattle.reading.proofs.Refusing.LeftToRight.{due_at, due_over, head_at}
use Rattle.reading.proofs.Refusing.ReadTo.{ReadTo, read_front, read_rule, read_unfinished, next_node, next_pattern, pattern_well_formed}
use Rattle.reading.proofs.Refusing.ReadTo.{node_allowed, node_bound, bound_begins}
use Rattle.reading.proofs.Refusing.StandingRecords.{necessity_record_stands, variable_record_stands, pattern_of_bytes_stands}
use Rattle.reading.proofs.Refusing.StandingRecords.{pattern_stands_record, node_stands_record}

-- ---- a node

tested_no_kind : (k : ℕ) → (eqb k 0 || ltb variable_kind k) ≡ true → NoKind k
tested_no_kind k e = on (eqb k 0) refl e
  where
    on : (b : Bool) → eqb k 0 ≡ b → (b || ltb variable_kind k) ≡ true → NoKind k
    on true q e' = inl (eqb-true k 0 q)
    on false q e' = inr (ltb-true variable_kind k e')

-- a pattern where none is due
pattern_late : (s : List ℕ) (at m : ℕ) → (m ≡ 0 → is_pattern s at ≡ false) → at < length s → eqb (get_or s at 0) pattern_kind ≡ true → 0 < m
pattern_late s at zero none inside t =
    let z : true ≡ false = rw (lt-ltb at (length s) inside, t) at (none refl) in let z' : ◌≡◌ {A = ℕ} 0 1 = cc in absurd (omega arith)
pattern_late s at (suc m) none inside t = omega arith

module _ {s : List ℕ} {at n m : ℕ} {g : Guards} {due : List Guards} (h : ReadTo s at n m (g ∷ due)) {number place : ℕ} where
  necessity_fault : Byte s at necessity_kind → m < 64 → necessity_at s n at ≡ refused number place → Fault s number place
  necessity_fault b few e =
      let kind : KindAt s at HasBody = (b.inside, inl b.is) in
      refuse_refused (Fault s) (leb (length s) (at + 1)) 1 (length s) _ e
      (λ t. node_cut (read_unfinished h) kind few (omega (arith, leb-true (length s) (at + 1) t)))
      (λ f e'.
      let whole : at + 1 < length s = leb-false _ _ f in
      refuse_refused (Fault s) (leb n (get_or s (at + 1) 0)) 6 at _ e'
      (λ t. names_nothing (read_unfinished h) kind few (omega arith)
      (λ begins. omega (arith, leb-true n (get_or s (at + 1) 0) t, node_bound h (necessity_record_stands s at b whole) begins)))
      (λ f' e''. absurd (never_refused e'')))

  variable_fault : Byte s at variable_kind → m < 64 → variable_at s g at ≡ refused number place → Fault s number place
  variable_fault b few e =
      let depth = get_or s (at + 1) 0 in
      refuse_refused (Fault s) (leb (length s) (at + 1)) 1 (length s) _ e
      (λ t. node_cut (read_unfinished h) (b.inside, inr b.is) few (omega (arith, leb-true (length s) (at + 1) t)))
      (λ f e'.
      let whole : at + 1 < length s = leb-false _ _ f in
      let here = variable_record_stands s at b whole in
      refuse_refused (Fault s) (leb (length g) depth) 6 at _ e'
      (λ t. names_nothing (read_unfinished h) (b.inside, inr b.is) few (omega arith)
      (λ begins. omega (arith, leb-true (length g) depth t, node_bound h here begins)))
      (λ f' e''.
      let bound : depth < length g = leb-false _ _ f' in
      refuse_refused (Fault s) (not (get_or g depth false)) 7 at _ e''
      (λ t.
      unguarded (read_unfinished h) (b.inside, b.is) few (omega arith)
      (λ begins. let guard : get_or g depth false ≡ true = (node_allowed h here begins).1 in
      let z : false ≡ true = rw guard at t in let z' : ◌≡◌ {A = ℕ} 0 1 = cc in omega arith)
      (bound_begins h here bound))
      (λ f'' e'''. absurd (never_refused e'''))))

  kind_fault : {k : ℕ} (left : ℕ) → NodeKind k → Byte s at k → m < 64 → of_kind s n at left g k ≡ refused number place → Fault s number place
  kind_fault left (bare_kind bare_truth) b few e = absurd (never_refused e)
  kind_fault left (bare_kind bare_falsity) b few e = absurd (never_refused e)
  kind_fault left (bare_kind bare_both) b few e = absurd (never_refused e)
  kind_fault left (bare_kind bare_max) b few e = absurd (never_refused e)
  kind_fault left necessity_kind_lem b few e = necessity_fault b few e
  kind_fault left variable_kind_lem b few e = variable_fault b few e

  node_fault : (left : ℕ) → left + m ≡ 64 → (m ≡ 0 → is_pattern s at ≡ false) → node_at s n at left g ≡ refused number place
      → Fault s number place
  node_fault left count none e =
      let kind = get_or s at 0 in
      refuse_refused (Fault s) (leb (length s) at) 1 (length s) _ e
      (λ t. file_ended (subst (λ (k : ℕ). Unfinished s k n m) (omega (arith, leb-true (length s) at t, h.inside)) (read_unfinished h)))
      (λ f e'.
      let inside : at < length s = leb-false _ _ f in
      refuse_refused (Fault s) (eqb kind 0 || ltb variable_kind kind) 2 at _ e'
      (λ t. no_kind (read_unfinished h) (inside, tested_no_kind kind t))
      (λ f' e''.
      let (some, known) = or_eq_false (eqb kind 0) (ltb variable_kind kind) f' in
      refuse_refused (Fault s) (eqb kind pattern_kind) 3 at _ e''
      (λ t. late_pattern (read_unfinished h) (inside, eqb-true kind pattern_kind t) (pattern_late s at m none inside t))
      (λ f'' e'''.
      let range : kind ≤ variable_kind = ltb-false variable_kind kind known in
      refuse_refused (Fault s) (eqb left 0) 4 at _ e'''
      (λ t. node_65 (subst (Unfinished s at n) (omega (arith, eqb-true left 0 t)) (read_unfinished h))
      (inside, (omega (arith, eqb-false kind 0 some, eqb-false kind pattern_kind f''), range)))
      (λ f''' last.
      kind_fault left (node_kind kind (eqb-false kind 0 some) range (eqb-false kind pattern_kind f'')) (record { inside = inside; is = refl })
      (omega (arith, eqb-false left 0 f''')) last))))

-- ---- what is due

ends_fault : (left : ℕ) {s : List ℕ} {at n m : ℕ} {number place : ℕ} → ReadTo s at n m [] → due_at s left n at [] ≡ refused number place
    → Fault s number place
ends_fault left {s} {at} {n} h e =
    refuse_refused (Fault s) (ltb at (length s)) 3 at _ (sym (due_over s left n at) ∙ e)
    (λ t. after_rule (read_front h) (read_rule h refl) (ltb-true _ _ t))
    (λ f e'. absurd (never_refused e'))

due_fault : (left : ℕ) (due : List Guards) {s : List ℕ} {at n m : ℕ} {number place : ℕ} → ReadTo s at n m due → left + m ≡ 64
    → (m ≡ 0 → is_pattern s at ≡ false) → due_at s left n at due ≡ refused number place → Fault s number place
unfolding due_at
due_fault zero [] h count none e = ends_fault zero h e
due_fault (suc left) [] h count none e = ends_fault (suc left) h e
due_fault zero (g ∷ due) {s} {at} {n} h count none e =
    and_then-refused (node_at s n at zero g) _ e
    (node_fault h zero count none)
    (λ r e' e''. absurd (omega (arith, ((node_accepts s n at zero g r).0 e').0)))
due_fault (suc left) (g ∷ due) {s} {at} {n} h count none e =
    and_then-refused (node_at s n at (suc left) g) _ e
    (node_fault h (suc left) count none)
    (λ r e' e''.
    let (stands, allows) = node_stands_record s at ((node_accepts s n at (suc left) g r).0 e').1 in
    due_fault left (parts guards n g r.symbol ++ due) (next_node h refl (omega arith) stands allows) (omega arith) (λ z. absurd (omega arith)) e'')

-- ---- the patterns

module _ {s : List ℕ} {at n : ℕ} (h : ReadTo s at n 0 ([] ∷ [])) (b : Byte s at pattern_kind) where
  abbrev kind : KindAt s at IsPattern
  kind = (b.inside, b.is)

  unfit_fault : (few : n < 32) → at + 3 < length s → (WellFormedPattern (pattern_of_bytes s at) → ⊥) → Fault s 5 at
  unfit_fault few whole unfit =
      bad_pattern (read_unfinished h) kind few (omega arith) (λ begins. unfit (pattern_well_formed h (pattern_of_bytes_stands s at b whole) begins))

  pattern_fault : {number place : ℕ} → n < 32 → pattern_at s at ≡ refused number place → Fault s number place
  pattern_fault few e =
      let first = get_or s (at + 2) 0 in
      let last = get_or s (at + 3) 0 in
      refuse_refused (Fault s) (leb (length s) (at + 3)) 1 (length s) _ e
      (λ t. pattern_cut (read_unfinished h) kind few (omega (arith, leb-true (length s) (at + 3) t)))
      (λ f₁ e₂.
      let whole : at + 3 < length s = leb-false _ _ f₁ in
      refuse_refused (Fault s) (ltb 31 first) 5 at _ e₂
      (λ t. unfit_fault few whole (λ w. omega (arith, w.first_slot, ltb-true 31 first t)))
      (λ f₂ e₃.
      refuse_refused (Fault s) (ltb 31 last) 5 at _ e₃
      (λ t. unfit_fault few whole (λ w. omega (arith, w.last_slot, ltb-true 31 last t)))
      (λ f₃ e₄. absurd (never_refused e₄))))

head_fault : (left : ℕ) {s : List ℕ} → Bytes s → {at n : ℕ} {number place : ℕ} → ReadTo s at n 0 ([] ∷ []) → left + n ≡ 32
    → head_at s left n at ≡ refused number place → Fault s number place
unfolding head_at
head_fault zero {s} bytes {at} {n} {number} {place} h count e = on (is_pattern s at) refl e
  where
    on : (c : Bool) → is_pattern s at ≡ c → cond c (refused 4 at) (due_at s 64 n at ([] ∷ [])) ≡ refused number place → Fault s number place
    on true is e' =
        let b = pattern_kind_lem s at is in
        let full : n ≡ 32 = omega arith in
        let four : 4 ≡ number = cc in
        let here : at ≡ place = cc in
        rw (← four, ← here) (pattern_33 (subst (λ (k : ℕ). Unfinished s at k 0) full (read_unfinished h)) (b.inside, b.is))
    on false is e' = due_fault 64 ([] ∷ []) h (omega arith) (λ z. is) e'
head_fault (suc left) {s} bytes {at} {n} {number} {place} h count e =
    on (is_pattern s at) refl e (head_fault left bytes {at = at + 4} {n = suc n})
  where
    on : (c : Bool) → is_pattern s at ≡ c
        → cond c (and_then (pattern_at s at) (λ p. head_at s left (suc n) (at + 4))) (due_at s 64 n at ([] ∷ [])) ≡ refused number place
        → (ReadTo s (at + 4) (suc n) 0 ([] ∷ []) → left + suc n ≡ 32 → head_at s left (suc n) (at + 4) ≡ refused number place → Fault s number place)
        → Fault s number place
    on true is e' later =
        let b = pattern_kind_lem s at is in
        and_then-refused (pattern_at s at) _ e'
        (pattern_fault h b (omega arith))
        (λ p e₁ e₂.
        let stands = pattern_stands s at p (byte_at s bytes (at + 1)) e₁ in
        later (next_pattern h (omega arith) (pattern_stands_record s at b stands) stands.well_formed) (omega arith) e₂)
    on false is e' later = due_fault 64 ([] ∷ []) h (omega arith) (λ z. is) e'

pub fault_found : (s : List ℕ) → Bytes s → {number place : ℕ} → head_at s 32 0 0 ≡ refused number place → Fault s number place
fault_found s bytes = head_fault 32 bytes (record {
  inside = omega arith;
  patterns = [];
  nodes = [];
  are = refl;
  npatterns = refl;
  nnodes = refl;
  few_patterns = omega arith;
  few_nodes = omega arith;
  well_formed = tt;
  consumes = done;
}) refl
