-- What each way out of `read_formula` leaves is what its contract says: the record that was read settles the way, and the calls before it say what they
-- left of the parts.
use mathlib.Core.Path.{◌≡◌, refl, sym, ap, ◌∙◌}
use mathlib.Core.Bool.{false}
use mathlib.Core.List.{List, [], ◌∷◌}
use Prim.Native.Nat.{ℕ, suc, ◌+◌, ◌-◌, ◌≤◌, ◌<◌}
use native.Mathlib.Omega.{arith}
use lib.ListN.{length, set}
use lib.Seq.{sets}
use Rattle.std.specs.Prelude.{Result, Ok, Err}
use Rattle.reading.specs.Rule as Rule
use Rattle.reading.specs.Rule.{Formula, both, necessity, max, size, Guards, guarded, Symbol}
use Rattle.reading.specs.File.{Outcome, accepted, refused, and_then, node_at, Parsed, parsed, under, parts_by, formula_of}
use Rattle.reading.specs.Numbered.{nodes}
use Rattle.reading.specs.Refusals.{number, as_outcome}
use Rattle.reading.specs.Representations.{Reads}
use Rattle.reading.specs.declared.Node.{Node}
use Rattle.reading.specs.declared.Node.TheVariants.{Both, Necessity, Max}
use Rattle.reading.specs.declared.refusals.Refusal.{Refusal}
use Rattle.reading.specs.declared.formulas.Rest.{Rest}
use Rattle.reading.proofs.Basics.Outcomes.{accepted_is, never_accepted, never_refused}
use Rattle.reading.proofs.Accepting.Steps.{formula_step, formula_sound}
use Rattle.reading.proofs.Accepting.NodeBytes.{node_accepts}
use Rattle.reading.proofs.Numbering.NumberedLaws.{nodes_size}
use Rattle.reading.proofs.Functions.Stores.{two_lists}

-- ---- refusals, and the parts of a node

module _ {k : ℕ} {ms : List ℕ} {before after : List Node} where
  pub reads_refused : {o : Outcome Parsed} {number place : ℕ} {r : Result Rest Refusal} → o ≡ refused number place → as_outcome r ≡ refused number place
      → Reads o k ms before after r
  reads_refused e h = rw e (record { said = h; written = λ f a. absurd (never_accepted a) })

  -- what a call refused
  pub reads_err : (o : Outcome Parsed) {e : Refusal} → Reads o k ms before after (Err e) → o ≡ refused (number e.fault) e.place
  reads_err (accepted f) h = absurd (never_accepted h.said)
  reads_err (refused m at) h = cc h.said

  -- what a call read
  pub reads_ok : (o : Outcome Parsed) {rest : Rest} → Reads o k ms before after (Ok rest)
      → (f : Parsed) × (o ≡ accepted f) × (rest ≡ record { next = f.next; left = f.left }) × (after ≡ sets before k (nodes k ms f.formula))
  reads_ok (accepted f) h = (f, refl, accepted_is h.said, h.written f refl)
  reads_ok (refused m at) h = absurd (never_refused h.said)

-- a node without parts
pub reads_alone : {o : Outcome Parsed} (f : Formula) {next left k : ℕ} {ms : List ℕ} {before : List Node} {x : Node} → o ≡ parsed f next left
    → nodes k ms f ≡ x ∷ [] → Reads o k ms before (set before k x) (Ok (record { next = next; left = left }))
reads_alone f e own = rw e (record { said = refl; written = λ f' is. rw (← accepted_is is, own) })

-- a node, then its part
under_reads : (make : Formula → Formula) (x : Node) {k : ℕ} {ms ms' : List ℕ} → ((f : Formula) → nodes k ms (make f) ≡ x ∷ nodes (suc k) ms' f)
    → (o : Outcome Parsed) {before after : List Node} {r : Result Rest Refusal} → Reads o (suc k) ms' (set before k x) after r
    → Reads (and_then o (under make)) k ms before after r
under_reads make x own (accepted f) h = record {
  said = h.said;
  written = λ f' e. rw (← accepted_is e) (h.written f refl ∙ rw (own f.formula));
}
under_reads make x own (refused m at) h = reads_refused refl h.said

-- ---- the ways out

module _ (s : List ℕ) (n at left : ℕ) (g : Guards) where
  module _ {x : Symbol} {next : ℕ} (e : accepted (record { symbol = x; next = next }) ≡ node_at s n at left g) where
    pub one_left : 0 < left
    one_left = ((node_accepts s n at left g _).0 (sym e)).0

    -- the formula is the node and its parts
    pub parts_are : formula_of s n at left g ≡ parts_by (formula_of s n) x next (left - 1) g
    parts_are = formula_step s n at left g ∙ rw (← e)

  pub record_refused : {number place k : ℕ} {ms : List ℕ} {before after : List Node} {r : Result Rest Refusal}
      → refused number place ≡ node_at s n at left g → as_outcome r ≡ refused number place → Reads (formula_of s n at left g) k ms before after r
  record_refused e h = reads_refused (formula_step s n at left g ∙ rw (← e)) h

  module _ {next : ℕ} {ms : List ℕ} {before after : List Node} {r : Result Rest Refusal} where
    pub reads_necessity : left ≤ 64 → {p : ℕ} → accepted (record { symbol = Rule.Necessity p; next = next }) ≡ node_at s n at left g
        → Reads (formula_of s n next (left - 1) (guarded g)) (64 - (left - 1)) ms (set before (64 - left) (Necessity p)) after r
        → Reads (formula_of s n at left g) (64 - left) ms before after r
    reads_necessity few {p} e h =
        let some = one_left e in
        let part : 64 - (left - 1) ≡ suc (64 - left) = omega arith in
        rw (parts_are e) (under_reads (necessity p) (Necessity p) (λ f. refl) (formula_of s n next (left - 1) (guarded g)) (rw part at h))

    pub reads_max : left ≤ 64 → accepted (record { symbol = Rule.Max; next = next }) ≡ node_at s n at left g
        → Reads (formula_of s n next (left - 1) (false ∷ g)) (64 - (left - 1)) ((64 - left) ∷ ms) (set before (64 - left) Max) after r
        → Reads (formula_of s n at left g) (64 - left) ms before after r
    reads_max few e h =
        let some = one_left e in
        let part : 64 - (left - 1) ≡ suc (64 - left) = omega arith in
        rw (parts_are e) (under_reads max Max (λ f. refl) (formula_of s n next (left - 1) (false ∷ g)) (rw part at h))

  -- ---- a "both"

  -- its first part
  abbrev first : (next : ℕ) → Outcome Parsed
  first next = formula_of s n next (left - 1) g

  module _ {next : ℕ} (e : accepted (record { symbol = Rule.Both; next = next }) ≡ node_at s n at left g) {ms : List ℕ} {before after : List Node} where
    pub first_refused : {x : Refusal} {r : Result Rest Refusal} → Reads (first next) (64 - (left - 1)) ms before after (Err x)
        → as_outcome r ≡ refused (number x.fault) x.place → Reads (formula_of s n at left g) (64 - left) ms before after r
    first_refused h is = reads_refused (parts_are e ∙ rw (reads_err (first next) h)) is

    module _ {rest : Rest} (h : Reads (first next) (64 - (left - 1)) ms before after (Ok rest)) where
      -- the first part leaves fewer nodes than there were
      pub first_leaves : rest.left < left
      first_leaves =
          let (f, read, is, stored) = reads_ok (first next) h in
          omega (arith, one_left e, (formula_sound s n next (left - 1) g f read).nodes, ap (λ (x : Rest). x.left) is)

      pub reads_both : left ≤ 64 → {last : List Node} {r : Result Rest Refusal}
          → Reads (formula_of s n rest.next rest.left g) (64 - rest.left) ms (set after (64 - left) (Both (64 - rest.left))) last r
          → Reads (formula_of s n at left g) (64 - left) ms before last r
      reads_both few {last} {r} h' =
          let (f, read, is, stored) = reads_ok (first next) h in rw (parts_are e, read) (on f read stored (formula_of s n f.next f.left g) (rw is at h'))
        where
          on : (f : Parsed) → first next ≡ accepted f → after ≡ sets before (64 - (left - 1)) (nodes (64 - (left - 1)) ms f.formula)
              → (o : Outcome Parsed) → Reads o (64 - f.left) ms (set after (64 - left) (Both (64 - f.left))) last r
              → Reads (and_then o (under (both f.formula))) (64 - left) ms before last r
          on f read stored (accepted f') k =
              let some = one_left e in
              let part : 64 - (left - 1) ≡ suc (64 - left) = omega arith in
              let second : 64 - f.left ≡ suc (64 - left) + length (nodes (suc (64 - left)) ms f.formula) =
              omega (arith, (formula_sound s n next (left - 1) g f read).nodes, nodes_size (suc (64 - left)) ms f.formula) in
              let argument : (64 - left) + suc (size f.formula) ≡ suc (64 - left) + length (nodes (suc (64 - left)) ms f.formula) =
              omega (arith, nodes_size (suc (64 - left)) ms f.formula) in
              record {
                said = k.said;
                written = λ x is.
                    rw (← accepted_is is, argument)
                    (k.written f' refl ∙ rw (stored, part, second)
                    (two_lists before (64 - left) _ (nodes (suc (64 - left)) ms f.formula) _));
              }
          on f read stored (refused m at) k = reads_refused refl k.said
