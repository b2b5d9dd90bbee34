-- Whole records begin a rule exactly when they are well-formed patterns, and then symbols that may follow each other; they are one when nothing is
-- due any more. So too where guards aren't asked for.
use mathlib.Core.Path.{◌≡◌, sym, ap, ◌∙◌}
use mathlib.Core.Logic.{inl, inr}
use mathlib.Core.List.{List, [], ◌∷◌, ◌++◌, map, append-nil}
use Prim.Native.Nat.{ℕ}
use lib.ListN.{length}
use Rattle.reading.specs.Pattern.{WellFormedPattern}
use Rattle.reading.specs.Rule.{Formula, Guards, WellFormed, Rule, All, Symbol}
use Rattle.reading.specs.Faults.{Record, node, records_bytes, Bound, Begins, BeginsRule, BeginsBound, IsRule}
use Rattle.reading.specs.declared.Pattern.{Pattern}
use Rattle.reading.proofs.Basics.AllLaws.{all_front}
use Rattle.reading.proofs.Refusing.Contexts.{Contexts, guards, depths, Fits, Consumes, done, consumes_same, consumes_split, formula_consumes, truths}
use Rattle.reading.proofs.Refusing.Contexts.{consumes_completes, symbols, well_formed_fits, fits_well_formed, bound_fits, fits_bound}
use Rattle.reading.proofs.Refusing.Records.{records, records_bytes-append, records_front, records_bytes-same, rule_bytes, records_append_nodes}
use Rattle.reading.proofs.Refusing.Records.{records_same, FrontOf, front_shape}

-- the patterns and the symbols of the records, and what is due after them
pub record Shape (K : Contexts) (first : K.Context) (xs : List Record) : Type 0 where
  pub patterns : List Pattern
  pub nodes : List Symbol
  pub are : xs ≡ records patterns nodes
  pub well_formed : All WellFormedPattern patterns
  pub due : List K.Context
  pub consumes : Consumes K (length patterns) (first ∷ []) nodes due

module _ (K : Contexts) (first : K.Context) (Fit : ℕ → Formula → Type 0) where
  shape_of : (xs : List Record) (r : Rule) → All WellFormedPattern r.patterns → Fits K (length r.patterns) first r.formula
      → FrontOf r.patterns (symbols r.formula) xs → Shape K first xs
  shape_of xs r all fits (inl (qs, others, is, are)) = record {
    patterns = qs;
    nodes = [];
    are = are;
    well_formed = all_front WellFormedPattern qs others (rw is at all);
    due = first ∷ [];
    consumes = done;
  }
  shape_of xs r all fits (inr (ys, others, is, are)) =
      let whole : Consumes K (length r.patterns) (first ∷ []) (ys ++ others) [] =
      rw (← is, ← append-nil (symbols r.formula)) (formula_consumes r.formula fits done) in
      let (due, consumes, rest) = consumes_split ys whole in
      record { patterns = r.patterns; nodes = ys; are = are; well_formed = all; due = due; consumes = consumes }

  begins_shape : ((n : ℕ) (f : Formula) → Fit n f → Fits K n first f) → (xs : List Record) → Begins Fit (records_bytes xs) → Shape K first xs
  begins_shape to-fits xs b =
      let r = b.rule in
      let (zs, are, left) = records_front xs (records r.patterns (symbols r.formula)) b.rest (b.front ∙ sym (rule_bytes r)) in
      shape_of xs r b.patterns (to-fits (length r.patterns) r.formula b.formula)
      (front_shape r.patterns (symbols r.formula) xs zs are)

  shape_front : ((n : ℕ) (f : Formula) → Fits K n first f → Fit n f) → {xs : List Record} → Shape K first xs → Begins Fit (records_bytes xs)
  shape_front of-fits {xs} h =
      let (f, fits, are) = consumes_completes h.consumes in
      let r : Rule = record { patterns = h.patterns; formula = f } in
      let rest = map node (truths h.due) in
      record {
        rule = r;
        patterns = h.well_formed;
        formula = of-fits (length h.patterns) f fits;
        rest = records_bytes rest;
        front =
            sym (records_bytes-append xs rest)
            ∙ (ap (λ (l : List Record). records_bytes (l ++ rest)) h.are
            ∙ (ap records_bytes (sym (records_append_nodes h.patterns h.nodes (truths h.due)) ∙ ap (records h.patterns) (sym are))
            ∙ rule_bytes r));
      }

-- ---- with guards

pub rule_shape : (xs : List Record) → BeginsRule (records_bytes xs) → Shape guards [] xs
rule_shape = begins_shape guards [] (λ n. WellFormed n []) (λ n f. well_formed_fits n f [])

pub shape_begins : {xs : List Record} → Shape guards [] xs → BeginsRule (records_bytes xs)
shape_begins = shape_front guards [] (λ n. WellFormed n []) (λ n f. fits_well_formed n f [])

-- ---- without

pub bound_shape : (xs : List Record) → BeginsBound (records_bytes xs) → Shape depths 0 xs
bound_shape = begins_shape depths 0 (λ n. Bound n 0) (λ n f. bound_fits n f 0)

pub shape_bound : {xs : List Record} → Shape depths 0 xs → BeginsBound (records_bytes xs)
shape_bound = shape_front depths 0 (λ n. Bound n 0) (λ n f. fits_bound n f 0)

-- ---- a whole rule

module _ {xs : List Record} (h : Shape guards [] xs) where
  pub shape_rule : h.due ≡ [] → IsRule (records_bytes xs)
  shape_rule over =
      let (f, fits, are) = consumes_completes h.consumes in
      let same : symbols f ≡ h.nodes = are ∙ ap (λ (l : List Guards). h.nodes ++ truths l) over ∙ append-nil h.nodes in
      let r : Rule = record { patterns = h.patterns; formula = f } in (
        r,
        record { patterns = h.well_formed; formula = fits_well_formed (length h.patterns) f [] fits },
        ap records_bytes (h.are ∙ ap (records h.patterns) (sym same)) ∙ rule_bytes r,
      )

  pub rule_nothing_due : IsRule (records_bytes xs) → h.due ≡ []
  rule_nothing_due (r, w, is) =
      let f = r.formula in
      let (same, nodes) = records_same h.patterns r.patterns h.nodes (symbols f)
      (sym h.are ∙ records_bytes-same xs (records r.patterns (symbols f)) (is ∙ sym (rule_bytes r))) in
      let fits = well_formed_fits (length r.patterns) f [] w.formula in
      let whole : Consumes guards (length h.patterns) ([] ∷ []) h.nodes [] =
      rw (same, nodes, ← append-nil (symbols f)) (formula_consumes f fits done) in
      consumes_same h.consumes whole
