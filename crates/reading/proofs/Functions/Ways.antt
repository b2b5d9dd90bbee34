-- What each way out of `read_rule` returns is the reading of what the file says: after the patterns, after the formula, and at the end of the file.
use mathlib.Core.Path.{◌≡◌, sym, ap, ◌∙◌}
use mathlib.Core.List.{List, [], map}
use Prim.Native.Nat.{ℕ, ◌+◌, ◌-◌, ◌≤◌, ◌<◌}
use native.Mathlib.Omega.{arith}
use lib.ListN.{length, replicate}
use lib.Seq.{sets}
use borrow.Author.Tests.{le-ltb, lt-ltb}
use Rattle.std.specs.Prelude.{Ok, Err}
use Rattle.reading.specs.Rule.{size}
use Rattle.reading.specs.File.{accepted, refused, and_then, Records, patterns_at, Parsed, formula_of, end_of_file, rule_of}
use Rattle.reading.specs.Refusals.{number}
use Rattle.reading.specs.Numbered.{padded, listed, none_listed, nodes, reading_of}
use Rattle.reading.specs.Representations.{head_of, Reads}
use Rattle.reading.specs.declared.Pattern.{Pattern}
use Rattle.reading.specs.declared.Node.{Node}
use Rattle.reading.specs.declared.Node.TheVariants.{Truth}
use Rattle.reading.specs.declared.refusals.Refusal.{Refusal}
use Rattle.reading.specs.declared.patterns.Head.{Head}
use Rattle.reading.specs.declared.formulas.Rest.{Rest}
use Rattle.reading.proofs.Basics.Outcomes.{accepted_is, never_refused, and_then-accepted, and_then-refused}
use Rattle.reading.proofs.Accepting.Steps.{formula_sound}
use Rattle.reading.proofs.Numbering.NumberedLaws.{nodes_size}
use Rattle.reading.proofs.Functions.Parts.{reads_err, reads_ok}
use Rattle.reading.proofs.Functions.Stores.{sets_filled}

-- ---- the patterns

pub head_refused : (s : List ℕ) {number place : ℕ} → refused number place ≡ head_of (patterns_at 32 s 0) → refused number place ≡ reading_of (rule_of s)
unfolding rule_of
head_refused s {number} {place} e =
    let is : patterns_at 32 s 0 ≡ refused number place = and_then-refused (patterns_at 32 s 0) _ (sym e) (λ r. r) (λ ps a r. absurd (never_refused r)) in
    rw is

-- the patterns ps, as the head has them, and what the file says after them
record AfterPatterns (s : List ℕ) (h : Head) : Type 0 where
  pub ps : Records Pattern
  pub list_is : h.list ≡ padded 32 none_listed (map listed ps.list)
  pub count_is : h.count ≡ length ps.list
  pub says : rule_of s ≡ and_then (formula_of s h.count h.next 64 []) (end_of_file s ps.list)

after_patterns : (s : List ℕ) (h : Head) → accepted h ≡ head_of (patterns_at 32 s 0) → AfterPatterns s h
unfolding rule_of
after_patterns s h e = on (and_then-accepted (patterns_at 32 s 0) _ (sym e))
  where
    on : (ps : Records Pattern) × (patterns_at 32 s 0 ≡ accepted ps) × (head_of (accepted ps) ≡ accepted h) → AfterPatterns s h
    on (ps, read, is) =
        let head = sym (accepted_is is) in
        let count = ap (λ (x : Head). x.count) head in
        let next = ap (λ (x : Head). x.next) head in
        record { ps = ps; list_is = ap (λ (x : Head). x.list) head; count_is = count; says = rw (read, count, next) }

-- ---- the formula after them

module _ (s : List ℕ) (h : Head) (e : accepted h ≡ head_of (patterns_at 32 s 0)) (ns : List Node) where
  pub formula_refused : {x : Refusal} → Reads (formula_of s h.count h.next 64 []) 0 [] (replicate 64 Truth) ns (Err x)
      → refused (number x.fault) x.place ≡ reading_of (rule_of s)
  formula_refused k = rw ((after_patterns s h e).says, reads_err (formula_of s h.count h.next 64 []) k)

  module _ (rest : Rest) (k : Reads (formula_of s h.count h.next 64 []) 0 [] (replicate 64 Truth) ns (Ok rest)) where
    -- the formula of f, and what the file says after it
    record AfterFormula : Type 0 where
      pub head : AfterPatterns s h
      pub f : Parsed
      pub next_is : rest.next ≡ f.next
      pub size_is : size f.formula + rest.left ≡ 64
      pub nodes_are : ns ≡ padded 64 Truth (nodes 0 [] f.formula)
      pub says : rule_of s ≡ end_of_file s head.ps.list f

    after_formula : AfterFormula
    after_formula = on (after_patterns s h e) (reads_ok (formula_of s h.count h.next 64 []) k)
      where
        on : AfterPatterns s h
            → (f : Parsed) × (formula_of s h.count h.next 64 [] ≡ accepted f) × (rest ≡ record { next = f.next; left = f.left })
            × (ns ≡ sets (replicate 64 Truth) 0 (nodes 0 [] f.formula))
            → AfterFormula
        on a (f, read, is, stored) =
            let fits = (formula_sound s h.count h.next 64 [] f read).nodes in record {
              head = a;
              f = f;
              next_is = ap (λ (x : Rest). x.next) is;
              size_is = omega (arith, fits, ap (λ (x : Rest). x.left) is);
              nodes_are = stored ∙ sets_filled 64 Truth (nodes 0 [] f.formula) (omega (arith, fits, nodes_size 0 [] f.formula));
              says = a.says ∙ rw read;
            }

    pub rest_few : rest.left ≤ 64
    rest_few = omega (arith, after_formula.size_is)

    pub end_refused : rest.next < length s → refused 3 rest.next ≡ reading_of (rule_of s)
    end_refused more = let a = after_formula in rw (a.says, ← a.next_is, lt-ltb _ _ more)

    pub end_accepted : length s ≤ rest.next
        → accepted (record { patterns = h.list; npatterns = h.count; nodes = ns; nnodes = 64 - rest.left }) ≡ reading_of (rule_of s)
    end_accepted ends = on after_formula
      where
        on : AfterFormula → accepted (record { patterns = h.list; npatterns = h.count; nodes = ns; nnodes = 64 - rest.left }) ≡ reading_of (rule_of s)
        on a =
            let size_is : 64 - rest.left ≡ size a.f.formula = omega (arith, a.size_is) in
            rw (a.says, ← a.next_is, le-ltb _ _ ends) (rw (a.head.list_is, a.head.count_is, a.nodes_are, size_is))
