-- How far a file has been read: whole records up to a place, within the limits, and what is due there. What the next record must be like for the file to
-- go on as a rule.
use mathlib.Core.Path.{◌≡◌, refl, sym, ap, subst, ◌∙◌}
use mathlib.Core.List.{List, [], ◌∷◌, ◌++◌, map, append-nil}
use Prim.Native.Nat.{ℕ, suc, ◌+◌, ◌≤◌, ◌<◌}
use native.Mathlib.Omega.{arith}
use lib.ListN.{length, take, drop, length-append}
use lib.Seq.{take-add, take-append_seam}
use Rattle.reading.specs.Pattern.{WellFormedPattern}
use Rattle.reading.specs.Rule.{Guards, All, Symbol}
use Rattle.reading.specs.Faults.{Record, pattern, node, record_bytes, records_bytes, BeginsRule, BeginsBound, IsRule, Front, Unfinished}
use Rattle.reading.specs.declared.Pattern.{Pattern}
use Rattle.reading.proofs.Basics.AllLaws.{all_append, all_last}
use Rattle.reading.proofs.Refusing.Contexts.{Contexts, guards, depths, Allows, parts, Consumes, done, more, consumes_same, consumes_split, consumes_join}
use Rattle.reading.proofs.Refusing.Contexts.{consumes_unguarded}
use Rattle.reading.proofs.Refusing.Records.{records, records_bytes-append, patterns_in_lem, nodes_in_lem, records_append_nodes, records_append_pattern}
use Rattle.reading.proofs.Refusing.Records.{records_same}
use Rattle.reading.proofs.Refusing.Beginnings.{Shape, rule_shape, shape_begins, bound_shape, shape_bound, shape_rule, rule_nothing_due}

-- ---- the records before a place

pub record ReadTo (s : List ℕ) (at n m : ℕ) (due : List Guards) : Type 0 where
  pub inside : at ≤ length s
  pub patterns : List Pattern
  pub nodes : List Symbol
  pub are : take at s ≡ records_bytes (records patterns nodes)
  pub npatterns : length patterns ≡ n
  pub nnodes : length nodes ≡ m
  pub few_patterns : n ≤ 32
  pub few_nodes : m ≤ 64
  pub well_formed : All WellFormedPattern patterns
  pub consumes : Consumes guards n ([] ∷ []) nodes due

-- ---- what was read begins a rule, and is one where nothing is due

module _ {s : List ℕ} {at n m : ℕ} {due : List Guards} (h : ReadTo s at n m due) where
  shape : Shape guards [] (records h.patterns h.nodes)
  shape = record {
    patterns = h.patterns;
    nodes = h.nodes;
    are = refl;
    well_formed = h.well_formed;
    due = due;
    consumes = rw h.npatterns h.consumes;
  }

  pub read_front : Front s at n m
  read_front = record {
    inside = h.inside;
    records = records h.patterns h.nodes;
    are = h.are;
    patterns_are = patterns_in_lem h.patterns h.nodes ∙ h.npatterns;
    nodes_are = nodes_in_lem h.patterns h.nodes ∙ h.nnodes;
    few_patterns = h.few_patterns;
    few_nodes = h.few_nodes;
    begins = subst BeginsRule (sym h.are) (shape_begins shape);
  }

  pub read_rule : due ≡ [] → IsRule (take at s)
  unfolding shape
  read_rule over = subst IsRule (sym h.are) (shape_rule shape over)

  pub read_over : IsRule (take at s) → due ≡ []
  unfolding shape
  read_over whole = rule_nothing_due shape (subst IsRule h.are whole)

pub read_unfinished : {s : List ℕ} {at n m : ℕ} {g : Guards} {due : List Guards} → ReadTo s at n m (g ∷ due) → Unfinished s at n m
read_unfinished h = record {
  front = read_front h;
  unfinished = λ whole. let e = read_over h whole in let z : ◌≡◌ {A = ℕ} 0 1 = cc in omega arith;
}

-- ---- a record at a place

-- the record x begins at `at` and ends before `next`
pub record Stands (s : List ℕ) (at next : ℕ) (x : Record) : Type 0 where
  pub bytes : drop at s ≡ record_bytes x ++ drop next s
  pub ends : next ≡ at + length (record_bytes x)
  pub inside : next ≤ length s

module _ {s : List ℕ} {at next : ℕ} {x : Record} (b : Stands s at next x) where
  take_with_record : (xs : List Record) → take at s ≡ records_bytes xs → take next s ≡ records_bytes (xs ++ x ∷ [])
  take_with_record xs are =
      let here : take (length (record_bytes x)) (drop at s) ≡ record_bytes x =
      ap (take (length (record_bytes x))) b.bytes ∙ take-append_seam (record_bytes x) (drop next s) in
      ap (λ (k : ℕ). take k s) b.ends
      ∙ (take-add at (length (record_bytes x)) s
      ∙ (rw (here, are, ← append-nil (record_bytes x)) (sym (records_bytes-append xs (x ∷ [])))))

-- ---- one more node

module _ {s : List ℕ} {at n m : ℕ} {due : List Guards} (h : ReadTo s at n m due) {next : ℕ} where
  pub take_with_node : {x : Symbol} → Stands s at next (node x) → take next s ≡ records_bytes (records h.patterns (h.nodes ++ x ∷ []))
  take_with_node {x} b =
      take_with_record b (records h.patterns h.nodes) h.are ∙ ap records_bytes (sym (records_append_nodes h.patterns h.nodes (x ∷ [])))

  pub next_node : {g : Guards} {others : List Guards} → due ≡ g ∷ others → m < 64 → {x : Symbol} → Stands s at next (node x) → Allows guards n g x
      → ReadTo s next n (suc m) (parts guards n g x ++ others)
  next_node is few {x} b allows = record {
    inside = b.inside;
    patterns = h.patterns;
    nodes = h.nodes ++ x ∷ [];
    are = take_with_node b;
    npatterns = h.npatterns;
    nnodes = length-append h.nodes (x ∷ []) ∙ omega (arith, h.nnodes);
    few_patterns = h.few_patterns;
    few_nodes = omega arith;
    well_formed = h.well_formed;
    consumes = consumes_join (rw is at h.consumes) (more allows done);
  }

-- ---- one more pattern, before any node

module _ {s : List ℕ} {at n : ℕ} {due : List Guards} (h : ReadTo s at n 0 due) where
  no_nodes : h.nodes ≡ []
  no_nodes = on h.nodes h.nnodes
    where
      on : (l : List Symbol) → length l ≡ 0 → l ≡ []
      on [] e = refl
      on (x ∷ l) e = absurd (omega arith)

  pub take_with_pattern : {next : ℕ} {p : Pattern} → Stands s at next (pattern p) → take next s ≡ records_bytes (records (h.patterns ++ p ∷ []) [])
  take_with_pattern {p = p} b =
      take_with_record b (records h.patterns []) (rw no_nodes at h.are) ∙ ap records_bytes (sym (records_append_pattern h.patterns p))

  pub next_pattern : {next : ℕ} {p : Pattern} → n < 32 → Stands s at next (pattern p) → WellFormedPattern p → ReadTo s next (suc n) 0 ([] ∷ [])
  next_pattern {p = p} few b w = record {
    inside = b.inside;
    patterns = h.patterns ++ p ∷ [];
    nodes = [];
    are = take_with_pattern b;
    npatterns = length-append h.patterns (p ∷ []) ∙ omega (arith, h.npatterns);
    nnodes = refl;
    few_patterns = omega arith;
    few_nodes = omega arith;
    well_formed = all_append WellFormedPattern h.patterns (p ∷ []) h.well_formed (w, tt);
    consumes = done;
  }

  -- ---- what the next pattern must be like

  pub pattern_well_formed : {next : ℕ} {p : Pattern} → Stands s at next (pattern p) → BeginsRule (take next s) → WellFormedPattern p
  pattern_well_formed {p = p} b begins =
      let after = rule_shape (records (h.patterns ++ p ∷ []) []) (subst BeginsRule (take_with_pattern b) begins) in
      let (same, none) = records_same (h.patterns ++ p ∷ []) after.patterns [] after.nodes after.are in
      all_last WellFormedPattern h.patterns p (rw (← same) at after.well_formed)

-- ---- what the next node must be like

last_allowed : {K : Contexts} {n : ℕ} {start due due' : List K.Context} {c : K.Context} (xs : List Symbol) (x : Symbol)
    → Consumes K n start xs (c ∷ due) → Consumes K n start (xs ++ x ∷ []) due' → Allows K n c x
last_allowed {K} {n} {due = due} {c = c} xs x known consumes =
    let (mid, first, second) = consumes_split xs consumes in on mid (consumes_same first known) second
  where
    on : {due' : List K.Context} (mid : List K.Context) → mid ≡ c ∷ due → Consumes K n mid (x ∷ []) due' → Allows K n c x
    on [] e consumes = elim consumes [ ]
    on (c' ∷ due'') e (more allows rest) = subst (λ (y : K.Context). Allows K n y x) (cc) allows

module _ {s : List ℕ} {at n m next : ℕ} {g : Guards} {due : List Guards} {x : Symbol} (h : ReadTo s at n m (g ∷ due))
    (b : Stands s at next (node x)) where
  -- with guards, and without
  pub node_allowed : BeginsRule (take next s) → Allows guards n g x
  node_allowed begins =
      let after = rule_shape (records h.patterns (h.nodes ++ x ∷ [])) (subst BeginsRule (take_with_node h b) begins) in
      let (same, nodes) = records_same h.patterns after.patterns (h.nodes ++ x ∷ []) after.nodes after.are in
      last_allowed h.nodes x h.consumes (rw (← same, ← nodes, h.npatterns) at after.consumes)

  pub node_bound : BeginsBound (take next s) → Allows depths n (length g) x
  node_bound begins =
      let after = bound_shape (records h.patterns (h.nodes ++ x ∷ [])) (subst BeginsBound (take_with_node h b) begins) in
      let (same, nodes) = records_same h.patterns after.patterns (h.nodes ++ x ∷ []) after.nodes after.are in
      last_allowed h.nodes x (consumes_unguarded h.consumes) (rw (← same, ← nodes, h.npatterns) at after.consumes)

  pub bound_begins : Allows depths n (length g) x → BeginsBound (take next s)
  bound_begins allows =
      let after : Shape depths 0 (records h.patterns (h.nodes ++ x ∷ [])) = record {
        patterns = h.patterns;
        nodes = h.nodes ++ x ∷ [];
        are = refl;
        well_formed = h.well_formed;
        due = parts depths n (length g) x ++ map length due;
        consumes = rw h.npatterns (consumes_join (consumes_unguarded h.consumes) (more allows done));
      } in
      subst BeginsBound (sym (take_with_node h b)) (shape_bound after)
