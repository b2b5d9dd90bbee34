-- The classes and the short tables of the rules are computed: the classes from what the equations answer by their numbers, and the rows from the classes.
use Prim.Native.Nat.{ℕ, ◌*◌, ◌≤◌, ◌<◌}
use mathlib.Core.Path.{◌≡◌, refl, ◌∙◌, ap}
use mathlib.Core.Bool.{true, false}
use mathlib.Core.List.{List, [], ◌∷◌}
use native.Mathlib.Omega.{arith}
use lib.Dec.{eqb}
use lib.ListN.{length, get_or}
use Rattle.reading.specs.Pattern.{bit, covers, least, every, count_below}
use Rattle.reading.specs.Rule.{Rule}
use Rattle.reading.specs.File.{accepted, records_at, formula_at, formula_of, rule_of}
use Rattle.synthesis.specs.Violation.{ViolatesRule, by_first, by_second, by_code}
use Rattle.synthesis.specs.Monitor.{mark, most, Answer, dropped, row_of, lookup}
use Rattle.synthesis.specs.Answering.{first_of, answer_of, unsatisfiable}
use Rattle.synthesis.specs.Search.{explored, found}
use Rattle.synthesis.specs.Table.{entries_of, filled}
use Rattle.synthesis.specs.Merging.{tabulate, DropAlike, merged, together, refined, rounds, firsts}
use Rattle.synthesis.specs.Building.{equations_of, Synthesis, with_equations, counted_of, numbered_answer, classes_of, shortened, short_of}
use Rattle.synthesis.specs.Reason.{opened_falsities}
use Rattle.reading.proofs.Measures.BoundedTests.{every_is}
use Rattle.synthesis.proofs.Tables.FilledTables.{filled_row}
use Rattle.synthesis.proofs.Tables.SynthesisOutcomes.{accepts_with_equations, short_accepts, short_filling-by_count, filling_accepts}
use Rattle.synthesis.proofs.Tables.SynthesisOutcomes.{short_fills_as_counted}
use Rattle.listing.specs.Text.{decimal_in, decimal}
use Rattle.examples.specs.Examples.{pool_file, pool_rule, pool_listing}
use Rattle.examples.specs.ShortExamples.{short_table, Merges, branches_file, branches_rule, branches_sets, branches_listing, MergedReasons}
use Rattle.examples.specs.ShortExamples.{idle_file, idle_rule, idle_listing, closed_file, closed_rule, closed_listing, ShortExamples}
use Rattle.examples.proofs.FileAnswers.{reads}
use Rattle.examples.proofs.Listed.{listing_of, listed_of}
use Rattle.examples.proofs.ReasonExamples.{by_rule}

-- ---- the short table of a rule whose equations and classes are known

-- the rule with its equations
abbrev given : Rule → (sets : List ℕ) → Synthesis
given r sets = record { rule = r; equations = sets; answer = answer_of r }

-- what the first equations answer
abbrev short_answer : Rule → (sets classes : List ℕ) → ℕ → ℕ → Answer ℕ
short_answer r sets classes = merged classes (numbered_answer (given r sets))

-- the file's rule, its equations and their classes
record Classified (s : List ℕ) (r : Rule) (sets classes : List ℕ) : Type 0 where
  read : rule_of s ≡ accepted r
  satisfiable : unsatisfiable r ≡ false
  equations : equations_of most r ≡ sets
  few : length sets ≤ most
  classes_are : classes_of (given r sets) ≡ classes

module _ {s : List ℕ} {r : Rule} {sets classes : List ℕ} (known : Classified s r sets classes) where
  with_sets : with_equations most r ≡ given r sets
  with_sets = ap (given r) known.equations

  abbrev fs : List ℕ
  fs = firsts classes (length sets)

  outcome : short_of most s ≡ accepted (shortened (given r sets))
  outcome =
      let few : length (equations_of most r) ≤ most = rw known.equations known.few in
      short_accepts most s (accepts_with_equations most s r known.read known.satisfiable few ∙ ap accepted with_sets)

  short_count : counted_of (short_of most s) ≡ accepted (length fs)
  unfolding shortened
  short_count = rw (outcome, known.classes_are)

  short_left : (table : List ℕ) → 256 * length fs ≤ length table → short_table s table ≡ filled mark (short_answer r sets classes) fs 256 table
  unfolding shortened
  short_left table room =
      rw (filling_accepts (length table) (short_filling-by_count most s (length table)) outcome (rw known.classes_are room), known.classes_are)

  short_row : (table : List ℕ) → 256 * length fs ≤ length table → (k : ℕ) → k < length fs
      → row_of 256 (short_table s table) k ≡ entries_of mark (short_answer r sets classes) fs (get_or fs k 0) 256
  short_row table room k h = rw (short_left table room) (filled_row mark (short_answer r sets classes) fs 256 table room k h)

  merges : (n : ℕ) (lines : List ℕ) → length fs ≡ n → listing_of r (short_answer r sets classes) fs ≡ lines → Merges s r sets classes n lines
  merges n lines count is =
      let counting : counted_of (short_of most s) ≡ accepted n = short_count ∙ ap accepted count in
      record {
        file = reads s r known.read known.satisfiable sets known.equations known.few;
        equations = known.equations;
        classes_are = ap classes_of with_sets ∙ known.classes_are;
        counting = counting;
        filling = λ capacity. (short_fills_as_counted most s capacity).enough n counting;
        listed = λ table room.
            rw (← count) (listed_of (short_answer r sets classes) fs (short_table s table) (short_row table (rw count room)) r ∙ is);
      }

-- ---- the rules

record Rules : Type 0 where
  branches : Classified branches_file branches_rule branches_sets (0 ∷ 1 ∷ 2 ∷ 2 ∷ [])
  pool : Classified pool_file pool_rule (2 ∷ 0 ∷ 40 ∷ []) (0 ∷ 1 ∷ 2 ∷ [])
  idle : Classified idle_file idle_rule (1 ∷ 0 ∷ []) (0 ∷ 0 ∷ [])
  closed : Classified closed_file closed_rule (1 ∷ []) (0 ∷ [])

rules : Rules
unfolding rule_of records_at formula_of formula_at unsatisfiable equations_of found explored first_of answer_of bit covers least rounds refined tabulate together
rules = record {
  branches = record { read = refl; satisfiable = refl; equations = refl; few = omega arith; classes_are = refl };
  pool = record { read = refl; satisfiable = refl; equations = refl; few = omega arith; classes_are = refl };
  idle = record { read = refl; satisfiable = refl; equations = refl; few = omega arith; classes_are = refl };
  closed = record { read = refl; satisfiable = refl; equations = refl; few = omega arith; classes_are = refl };
}

branches : Merges branches_file branches_rule branches_sets (0 ∷ 1 ∷ 2 ∷ 2 ∷ []) 3 branches_listing
unfolding firsts entries_of answer_of bit covers least count_below decimal decimal_in
branches = merges rules.branches 3 branches_listing refl refl

pool : Merges pool_file pool_rule (2 ∷ 0 ∷ 40 ∷ []) (0 ∷ 1 ∷ 2 ∷ []) 3 pool_listing
unfolding firsts entries_of answer_of bit covers least count_below decimal decimal_in
pool = merges rules.pool 3 pool_listing refl refl

idle : Merges idle_file idle_rule (1 ∷ 0 ∷ []) (0 ∷ 0 ∷ []) 1 idle_listing
unfolding firsts entries_of answer_of bit covers least count_below decimal decimal_in
idle = merges rules.idle 1 idle_listing refl refl

closed : Merges closed_file closed_rule (1 ∷ []) (0 ∷ []) 1 closed_listing
unfolding firsts entries_of answer_of bit covers least count_below decimal decimal_in
closed = merges rules.closed 1 closed_listing refl refl

-- ---- one equation and two reasons

-- the first row of the short table
branches_row : (table : List ℕ) → 768 ≤ length table
    → row_of 256 (short_table branches_file table) 0 ≡ entries_of mark (short_answer branches_rule branches_sets (0 ∷ 1 ∷ 2 ∷ 2 ∷ [])) (0 ∷ 1 ∷ 2 ∷ []) 0 256
unfolding firsts
branches_row table room = short_row rules.branches table room 0 (omega arith)

-- one scan is no violation: the formula after it is a necessity
one_scan : (c : ℕ) → ViolatesRule branches_rule (c ∷ []) → ⊥
one_scan c (by_first (by_code q x)) = elim x [ ]
one_scan c (by_second (by_code q x)) = elim x [ ]

merged_reasons : MergedReasons
unfolding entries_of answer_of opened_falsities first_of bit covers least
merged_reasons = record {
  one_equation = λ table room. rw (branches_row table room);
  safe_5 = one_scan 5;
  safe_7 = one_scan 7;
  after_5 = by_rule branches_rule branches.file (5 ∷ []) 6;
  after_7 = by_rule branches_rule branches.file (7 ∷ []) 6;
}

-- ---- a table without rows

-- where both drop every code, they drop alike
drop_all : (answer answer' : ℕ → ℕ → Answer ℕ) → ((c : ℕ) → c < 256 → answer 0 c ≡ dropped) → ((c : ℕ) → c < 256 → answer' 0 c ≡ dropped)
    → DropAlike 256 answer 0 answer' 0
drop_all answer answer' drops drops' [] all = refl
drop_all answer answer' drops drops' (c ∷ w) all =
    rw (drops c all.0, drops' c all.0) (ap (λ (l : List ℕ). 1 ∷ l) (drop_all answer answer' drops drops' w all.1))

-- the only row of the rule that drops everything
abbrev closed_row : List ℕ
closed_row = entries_of mark (short_answer closed_rule (1 ∷ []) (0 ∷ [])) (0 ∷ []) 0 256

closed_marks : every 256 (λ c. eqb (get_or closed_row c mark) mark) ≡ true
unfolding entries_of answer_of bit covers least
closed_marks = refl

closed_row_lem : (table : List ℕ) → 256 ≤ length table → row_of 256 (short_table closed_file table) 0 ≡ closed_row
unfolding firsts
closed_row_lem table room = short_row rules.closed table room 0 (omega arith)

closed_drops : (table : List ℕ) → 256 ≤ length table → (c : ℕ) → c < 256 → lookup 256 mark (short_table closed_file table) 0 c ≡ dropped
closed_drops table room c b = rw (closed_row_lem table room, (every_is 256 (λ c. eqb (get_or closed_row c mark) mark)).0 closed_marks c b)

pub short_examples : ShortExamples
unfolding row_of
short_examples = record {
  branches = branches;
  merged_reasons = merged_reasons;
  pool = pool;
  idle = idle;
  closed = closed;
  needs_a_row = λ table room. drop_all (lookup 256 mark (short_table closed_file table)) (lookup 256 mark []) (closed_drops table room) (λ c b. refl);
}
