-- Reading goes from the start of a file to any place before which whole records begin a rule, within the limits; so the outcome is that of the record
-- at that place.
use mathlib.Core.Path.{◌≡◌, refl, sym, ap, subst, ◌∙◌}
use mathlib.Core.Bool.{false}
use mathlib.Core.List.{List, [], ◌∷◌, ◌++◌, map, append_assoc}
use Prim.Native.Nat.{ℕ, zero, suc, ◌+◌, ◌-◌}
use native.Mathlib.Omega.{arith}
use lib.ListN.{length, take, drop, length-append, take-append-drop}
use lib.Seq.{length-take-le, drop-append_seam}
use Rattle.reading.specs.Pattern.{WellFormedPattern}
use Rattle.reading.specs.Rule.{Guards, All, pattern_bytes, encode_patterns, Symbol, Truth, Falsity, Both, Max, Necessity, Variable}
use Rattle.reading.specs.File.{Outcome, and_then, Records, is_pattern, pattern_format, patterns_at}
use Rattle.reading.specs.Faults.{pattern, node, record_bytes, records_bytes, patterns_in, nodes_in, Front, BeginsRule, Unfinished}
use Rattle.reading.specs.declared.Pattern.{Pattern}
use Rattle.reading.proofs.Basics.Outcomes.{and_then-agree}
use Rattle.reading.proofs.Basics.Places.{byte_of, first_byte, rest_of, rest_after}
use Rattle.reading.proofs.RecordLists.RecordsAccepted.{records_after}
use Rattle.reading.proofs.Accepting.NodeBytes.{NodeStands, bare, of_necessity, of_variable, bare_truth, bare_falsity, bare_both, bare_max, node_accepts}
use Rattle.reading.proofs.Accepting.PatternBytes.{node_no_pattern, reads_patterns}
use Rattle.reading.proofs.Refusing.Contexts.{guards, Allows, Consumes, done, more}
use Rattle.reading.proofs.Refusing.Records.{records_bytes-append, pattern_bytes_lem, patterns_in_lem, nodes_in_lem}
use Rattle.reading.proofs.Refusing.Beginnings.{rule_shape}
use Rattle.reading.proofs.Refusing.LeftToRight.{and_then-assoc, due_at, head_at, then_formula, patterns_head}
use Rattle.reading.proofs.Refusing.ReadTo.{ReadTo, read_rule}

module _ (s : List ℕ) where
  -- ---- a record that may come next is read

  node_stands : {n at : ℕ} {g : Guards} (x : Symbol) (rest : List ℕ) → Allows guards n g x → drop at s ≡ record_bytes (node x) ++ rest
      → NodeStands s n at g (record { symbol = x; next = at + length (record_bytes (node x)) })
  node_stands {at = at} Truth rest allows from = bare bare_truth (first_byte s at from)
  node_stands {at = at} Falsity rest allows from = bare bare_falsity (first_byte s at from)
  node_stands {at = at} Both rest allows from = bare bare_both (first_byte s at from)
  node_stands {at = at} Max rest allows from = bare bare_max (first_byte s at from)
  node_stands {at = at} (Necessity p) rest allows from = of_necessity allows (first_byte s at from) (byte_of s at 1 (at + 1) from refl (omega arith))
  node_stands {at = at} (Variable d) rest allows from =
      of_variable allows.0 allows.1 (first_byte s at from) (byte_of s at 1 (at + 1) from refl (omega arith))

  due_at_after_nodes : {n : ℕ} {due due' : List Guards} {xs : List Symbol} → Consumes guards n due xs due' → (left left' at at' : ℕ) (rest : List ℕ)
      → left ≡ length xs + left' → at' ≡ at + length (records_bytes (map node xs)) → drop at s ≡ records_bytes (map node xs) ++ rest
      → due_at s left n at due ≡ due_at s left' n at' due'
  unfolding due_at
  due_at_after_nodes {n} {due} done left left' at at' rest count ends from =
      let same : left ≡ left' = omega arith in
      let same' : at ≡ at' = omega arith in
      rw (same, same')
  due_at_after_nodes {xs = x ∷ xs} (more allows consumes) zero left' at at' rest count ends from = absurd (omega arith)
  due_at_after_nodes {n} (more {c = g} {due = due} {x = x} {xs = xs} allows consumes) (suc left) left' at at' rest count ends from =
      let bs = record_bytes (node x) in
      let from' : drop at s ≡ bs ++ (records_bytes (map node xs) ++ rest) = from ∙ append_assoc bs (records_bytes (map node xs)) rest in
      let stands = node_stands {at = at} {g = g} x (records_bytes (map node xs) ++ rest) allows from' in
      rw ((node_accepts s n at (suc left) g _).1 (omega arith, stands))
      (due_at_after_nodes consumes left left' (at + length bs) at' rest (omega arith) (omega (arith, length-append bs (records_bytes (map node xs))))
      (rest_after s at bs from'))

  head_at_after_patterns : (ps : List Pattern) (left left' n n' at at' : ℕ) (rest : List ℕ) → All WellFormedPattern ps → left ≡ length ps + left'
      → n' ≡ n + length ps → at' ≡ at + length (encode_patterns ps) → drop at s ≡ encode_patterns ps ++ rest
      → head_at s left n at ≡ head_at s left' n' at'
  head_at_after_patterns ps left left' n n' at at' rest all count number ends from =
      let others = patterns_at left' s at' in
      sym (patterns_head s left n at)
      ∙ (ap (λ (o : Outcome (Records Pattern)). and_then o (then_formula s n))
      (records_after s (pattern_format s) pattern_bytes WellFormedPattern (reads_patterns s) ps at at' left' left rest all from ends count)
      ∙ (and_then-assoc others _ (then_formula s n)
      ∙ (and_then-agree others _ (then_formula s n') (λ qs e.
      ap (λ (k : ℕ). due_at s 64 k qs.next ([] ∷ [])) (omega (arith, length-append ps qs.list)))
      ∙ patterns_head s left' n' at')))

  -- ---- where the formula begins

  pub head_at_over : (left n at : ℕ) → is_pattern s at ≡ false → head_at s left n at ≡ due_at s 64 n at ([] ∷ [])
  unfolding head_at
  head_at_over zero n at over = rw over
  head_at_over (suc left) n at over = rw over

-- ---- to a place

module _ {s : List ℕ} {at n m : ℕ} {due : List Guards} (h : ReadTo s at n m due) where
  abbrev front_patterns : List ℕ
  front_patterns = encode_patterns h.patterns

  abbrev front_nodes : List ℕ
  front_nodes = records_bytes (map node h.nodes)

  front_bytes : take at s ≡ front_patterns ++ front_nodes
  front_bytes =
      h.are
      ∙ (records_bytes-append (map pattern h.patterns) (map node h.nodes)
      ∙ ap (λ (l : List ℕ). l ++ front_nodes) (pattern_bytes_lem h.patterns))

  place_is : at ≡ length front_patterns + length front_nodes
  place_is = sym (length-take-le at s h.inside) ∙ (ap length front_bytes ∙ length-append front_patterns front_nodes)

  file_is : s ≡ front_patterns ++ (front_nodes ++ drop at s)
  file_is = sym (take-append-drop at s) ∙ (ap (λ (l : List ℕ). l ++ drop at s) front_bytes ∙ append_assoc front_patterns front_nodes (drop at s))

  head_at_to_formula : head_at s 32 0 0 ≡ head_at s (32 - n) n (length front_patterns)
  head_at_to_formula =
      head_at_after_patterns s h.patterns 32 (32 - n) 0 n 0 (length front_patterns) (front_nodes ++ drop at s) h.well_formed
      (omega (arith, h.npatterns, h.few_patterns)) (omega (arith, h.npatterns)) (omega arith) file_is

  formula_from : drop (length front_patterns) s ≡ front_nodes ++ drop at s
  formula_from = rest_of s 0 (length front_patterns) (length front_patterns) file_is (omega arith) ∙ drop-append_seam front_patterns (front_nodes ++ drop at s)

  formula_no_pattern : (m ≡ 0 → is_pattern s at ≡ false) → is_pattern s (length front_patterns) ≡ false
  formula_no_pattern none = on h.nodes refl
    where
      on : (xs : List Symbol) → h.nodes ≡ xs → is_pattern s (length front_patterns) ≡ false
      on [] is =
          let same : at ≡ length front_patterns = omega (arith, place_is, ap (λ (l : List Symbol). length (records_bytes (map node l))) is) in
          rw (← same) (none (omega (arith, h.nnodes, ap length is)))
      on (x ∷ xs) is =
          let rest = records_bytes (map node xs) in
          let bytes : front_nodes ≡ record_bytes (node x) ++ rest = ap (λ (l : List Symbol). records_bytes (map node l)) is in
          node_no_pattern s (length front_patterns) x (first_byte s (length front_patterns)
          (formula_from ∙ (ap (λ (l : List ℕ). l ++ drop at s) bytes ∙ append_assoc (record_bytes (node x)) rest (drop at s))))

  pub head_at_to_node : (m ≡ 0 → is_pattern s at ≡ false) → head_at s 32 0 0 ≡ due_at s (64 - m) n at due
  head_at_to_node none =
      head_at_to_formula
      ∙ (head_at_over s (32 - n) n (length front_patterns) (formula_no_pattern none)
      ∙ due_at_after_nodes s h.consumes 64 (64 - m) (length front_patterns) at (drop at s) (omega (arith, h.nnodes, h.few_nodes)) place_is formula_from)

-- before the formula
pub head_at_to_pattern : {s : List ℕ} {at n : ℕ} {due : List Guards} → ReadTo s at n 0 due → head_at s 32 0 0 ≡ head_at s (32 - n) n at
head_at_to_pattern {s} {at} {n} h =
    let none : length (front_nodes h) ≡ 0 = on h.nodes h.nnodes in
    let same : length (front_patterns h) ≡ at = omega (arith, place_is h) in
    rw same at (head_at_to_formula h)
  where
    on : (xs : List Symbol) → length xs ≡ 0 → length (records_bytes (map node xs)) ≡ 0
    on [] e = refl
    on (x ∷ xs) e = absurd (omega arith)

-- ---- the places of faults

pub read_to_front : {s : List ℕ} {at n m : ℕ} → Front s at n m → (due : List Guards) × ReadTo s at n m due
read_to_front {s} {at} {n} {m} f =
    let h = rule_shape f.records (subst BeginsRule f.are f.begins) in
    let patterns_are : length h.patterns ≡ n =
    sym (patterns_in_lem h.patterns h.nodes) ∙ (sym (ap patterns_in h.are) ∙ f.patterns_are) in
    let nodes_are : length h.nodes ≡ m =
    sym (nodes_in_lem h.patterns h.nodes) ∙ (sym (ap nodes_in h.are) ∙ f.nodes_are) in (
      h.due,
      record {
        inside = f.inside;
        patterns = h.patterns;
        nodes = h.nodes;
        are = f.are ∙ ap records_bytes h.are;
        npatterns = patterns_are;
        nnodes = nodes_are;
        few_patterns = f.few_patterns;
        few_nodes = f.few_nodes;
        well_formed = h.well_formed;
        consumes = rw patterns_are at h.consumes;
      },
    )

pub read_to_unfinished : {s : List ℕ} {at n m : ℕ} → Unfinished s at n m → (g : Guards) × (due : List Guards) × ReadTo s at n m (g ∷ due)
read_to_unfinished {s} {at} {n} {m} u = let (due, h) = read_to_front u.front in on due h
  where
    on : (due : List Guards) → ReadTo s at n m due → (g : Guards) × (due : List Guards) × ReadTo s at n m (g ∷ due)
    on [] h = absurd (u.unfinished (read_rule h refl))
    on (g ∷ due) h = (g, due, h)
