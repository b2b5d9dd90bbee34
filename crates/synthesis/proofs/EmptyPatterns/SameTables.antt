-- Rules whose equations correspond have as many of them, and the same table. Both lists of equations are numbered as found, so they are pairs, one by one;
-- an entry is the number of an equation, and its pair has the same number. Equations that are within a limit are closed, and then no list that is found
-- for the other rule is longer; so both rules have too many, or neither has. Rules that are alike but after empty patterns are such rules.
use Prim.Native.Nat.{ℕ, ◌≤◌, ◌<◌}
use mathlib.Core.Path.{◌≡◌, refl, sym, ◌∙◌, ap}
use mathlib.Core.Bool.{Bool, true, false, true≢false}
use mathlib.Core.List.{List, []}
use native.Mathlib.Decide.{dec_le}
use native.Mathlib.Omega.{arith}
use lib.ListN.{length, get_or}
use lib.Seq.{ext_get_or}
use Rattle.reading.specs.Rule.{Rule, Bytes}
use Rattle.reading.specs.File.{accepted, rule_of}
use Rattle.synthesis.specs.Alike.{RulesAlike}
use Rattle.synthesis.specs.Monitor.{Answer, dropped, next, row_of}
use Rattle.synthesis.specs.Answering.{first_of, answer_of, unsatisfiable}
use Rattle.synthesis.specs.Search.{index_of}
use Rattle.synthesis.specs.Table.{entry_of, entries_of}
use Rattle.synthesis.specs.Building.{equations_of, with_equations, synthesis_of, counted_of, Fills}
use Rattle.synthesis.specs.Promises.{WellFormedFormula}
use Rattle.synthesis.specs.AlikePromises.{SameRows, TablesAlike}
use Rattle.synthesis.proofs.Monitors.RuleMonitor.{unsatisfiable_iff}
use Rattle.synthesis.proofs.Monitors.Corresponding.{BothAnswer, both_dropped, both_next, Corresponds, corresponds_back}
use Rattle.synthesis.proofs.Numberings.Indices.{index_is, member_at}
use Rattle.synthesis.proofs.Numberings.FindingOrder.{numbered_as_found}
use Rattle.synthesis.proofs.Numberings.Numbering.{Numbering, Pairs, closed_longest, numberings_correspond}
use Rattle.synthesis.proofs.Tables.FilledTables.{entries_length, entries_at}
use Rattle.synthesis.proofs.Tables.SynthesisOutcomes.{accepts_with_equations, refuses_eight, refuses_nine, filling_by_count, filling_accepted}
use Rattle.synthesis.proofs.Tables.Equations.{file_well_formed, equations_apart, closed_list}
use Rattle.synthesis.proofs.Tables.Built.{counted_row, fills_outcome, fills_count, built_well_formed}
use Rattle.synthesis.proofs.EmptyPatterns.AlikeLaws.{violated_alike, alike_back}
use Rattle.synthesis.proofs.EmptyPatterns.TwinEquations.{TwinEquations, alike_corresponds}

-- ---- the rows of lists that correspond

module _ {codes : ℕ} {answer answer' : ℕ → ℕ → Answer ℕ} {R : ℕ → ℕ → Type 0} {first first' : ℕ} (both : Corresponds codes answer answer' R first first')
    (l l' : List ℕ) (x : Numbering codes answer first l) (y : Numbering codes answer' first' l') where
  -- a pair has one number
  pair_number_lem : (e e' i : ℕ) → R e e' → i < length l → get_or l i 0 ≡ e → index_of e l ≡ index_of e' l'
  pair_number_lem e e' i pair h is =
      let (long, pairs) = numberings_correspond both l l' x y in
      let is' : get_or l' i 0 ≡ e' = both.one_other e (get_or l' i 0) e' (rw is at (pairs i h)) pair in
      let m = member_at e l i h is in
      let m' = member_at e' l' i (omega arith) is' in
      x.distinct (index_of e l) i m h (index_is e l m ∙ sym is) ∙ sym (y.distinct (index_of e' l') i m' (omega arith) (index_is e' l' m' ∙ sym is'))

  same_entry_lem : (mark : ℕ) (a a' : Answer ℕ) → BothAnswer codes answer answer' R a a'
      → ((e : ℕ) → a ≡ next e → (i : ℕ) × (i < length l) × (get_or l i 0 ≡ e)) → entry_of mark l a ≡ entry_of mark l' a'
  same_entry_lem mark dropped (next e') x5 inside = elim x5 [ ]
  same_entry_lem mark (next e) dropped x5 inside = elim x5 [ ]
  same_entry_lem mark dropped dropped both_dropped inside = refl
  same_entry_lem mark (next e) (next e') (both_next pair) inside = let (i, h, is) = inside e refl in pair_number_lem e e' i pair h is

  same_entries : (mark k : ℕ) → k < length l → entries_of mark answer l (get_or l k 0) codes ≡ entries_of mark answer' l' (get_or l' k 0) codes
  same_entries mark k h =
      let long = entries_length mark answer l (get_or l k 0) codes in
      let long' = entries_length mark answer' l' (get_or l' k 0) codes in
      ext_get_or 0 _ _ (long ∙ sym long') λ c b.
      let code : c < codes = omega (arith, long, b) in
      entries_at mark answer l (get_or l k 0) codes c 0 code
      ∙ same_entry_lem mark _ _ (both.steps _ _ c ((numberings_correspond both l l' x y).1 k h) code) (λ e q. x.follows k c e h code q)
      ∙ sym (entries_at mark answer' l' (get_or l' k 0) codes c 0 code)

-- ---- the equations of a rule

equations_numbering : (limit : ℕ) (r : Rule) → length (equations_of limit r) ≤ limit → Numbering 256 (answer_of r) (first_of r) (equations_of limit r)
equations_numbering limit r few = record {
  distinct = equations_apart limit r;
  follows = (closed_list limit r few).follows;
  as_found = numbered_as_found limit r;
}

-- ---- two rules whose equations correspond

abbrev pub RulesCorrespond : (R : ℕ → ℕ → Type 0) → (r r' : Rule) → Type 0
RulesCorrespond R r r' = Corresponds 256 (answer_of r) (answer_of r') R (first_of r) (first_of r')

-- where the equations of one are within a limit, the other has no more
pub equations_no_more : (R : ℕ → ℕ → Type 0) (r r' : Rule) → RulesCorrespond R r r' → (limit limit' : ℕ) → length (equations_of limit r) ≤ limit
    → length (equations_of limit' r') ≤ length (equations_of limit r)
equations_no_more R r r' both limit limit' few =
    closed_longest both (equations_of limit r) (equations_of limit' r') (equations_apart limit r) (equations_apart limit' r') (numbered_as_found limit r)
    (numbered_as_found limit' r') (equations_numbering limit r few)

module _ (R : ℕ → ℕ → Type 0) (r r' : Rule) (both : RulesCorrespond R r r') where
  pub equations_correspond : (limit limit' : ℕ) → length (equations_of limit r) ≤ limit → length (equations_of limit' r') ≤ limit'
      → (length (equations_of limit r) ≡ length (equations_of limit' r'))
      × Pairs R (equations_of limit r) (equations_of limit' r') (length (equations_of limit r))
  equations_correspond limit limit' few few' =
      numberings_correspond both (equations_of limit r) (equations_of limit' r') (equations_numbering limit r few) (equations_numbering limit' r' few')

  -- both are counted, or both are refused with 9
  pub counted_correspond : (limit : ℕ) (s s' : List ℕ) → rule_of s ≡ accepted r → rule_of s' ≡ accepted r' → unsatisfiable r ≡ false
      → unsatisfiable r' ≡ false → counted_of (synthesis_of limit s) ≡ counted_of (synthesis_of limit s')
  counted_correspond limit s s' read read' h h' = on (dec_le (length (equations_of limit r)) limit) (dec_le (length (equations_of limit r')) limit)
    where
      on : Dec (length (equations_of limit r) ≤ limit) → Dec (length (equations_of limit r') ≤ limit)
          → counted_of (synthesis_of limit s) ≡ counted_of (synthesis_of limit s')
      on (yes few) (yes few') =
          rw (accepts_with_equations limit s r read h few, accepts_with_equations limit s' r' read' h' few')
          (ap accepted (equations_correspond limit limit few few').0)
      on (yes few) (no over') = absurd (omega (arith, few, over', equations_no_more R r r' both limit limit few))
      on (no over) (yes few') = absurd (omega (arith, over, few', equations_no_more (λ e' e. R e e') r' r (corresponds_back both) limit limit few'))
      on (no over) (no over') =
          rw (refuses_nine limit s r read h (omega (arith, over)), refuses_nine limit s' r' read' h' (omega (arith, over')))

-- ---- filled tables

-- a row of a filled table is that of its equation
fills_row : {limit mark : ℕ} {s table : List ℕ} {r : Rule} {n : ℕ} {left : List ℕ} → Fills limit mark s table r n left → (k : ℕ) → k < n
    → row_of 256 left k ≡ entries_of mark (answer_of r) (equations_of limit r) (get_or (equations_of limit r) k 0) 256
fills_row {limit} {mark} {s} {table} {r} b k h =
    let (counting, room) = filling_accepted (length table) (filling_by_count limit s (length table)) (with_equations limit r) (fills_outcome b) in
    rw b.left_is (counted_row limit mark s table (with_equations limit r) counting room k (omega (arith, fills_count b, h)))

fills_numbering : {limit mark : ℕ} {s table : List ℕ} {r : Rule} {n : ℕ} {left : List ℕ} → Fills limit mark s table r n left
    → Numbering 256 (answer_of r) (first_of r) (equations_of limit r)
fills_numbering {limit} {mark} {s} {table} {r} {n} {left} b =
    equations_numbering limit r (omega (arith, fills_count b, (built_well_formed limit mark s table r n left b).few))

pub fillings_correspond : (R : ℕ → ℕ → Type 0) (limit limit' mark : ℕ) (s table : List ℕ) (r : Rule) (n : ℕ) (left : List ℕ)
    → Fills limit mark s table r n left → (s' table' : List ℕ) (r' : Rule) (n' : ℕ) (left' : List ℕ) → Fills limit' mark s' table' r' n' left'
    → RulesCorrespond R r r' → SameRows n left n' left'
fillings_correspond R limit limit' mark s table r n left b s' table' r' n' left' b' both =
    let es = equations_of limit r in
    let es' = equations_of limit' r' in
    let x = fills_numbering b in
    let y = fills_numbering b' in
    let same : n ≡ n' = fills_count b ∙ (numberings_correspond both es es' x y).0 ∙ sym (fills_count b') in
    record {
      count = same;
      rows = λ k h.
          fills_row b k h ∙ same_entries both es es' x y mark k (omega (arith, fills_count b, h)) ∙ sym (fills_row b' k (omega (arith, same, h)));
    }

-- ---- rules that are alike but after empty patterns

-- where the empty list violates one, it violates the other
unsatisfiable_both : (r r' : Rule) → WellFormedFormula r → WellFormedFormula r' → RulesAlike r r' → unsatisfiable r ≡ true → unsatisfiable r' ≡ true
unsatisfiable_both r r' wf wf' a h = (unsatisfiable_iff r' wf').1 ((violated_alike r r' a []).0 ((unsatisfiable_iff r wf).0 h))

pub long_counted_alike : (limit : ℕ) (s s' : List ℕ) → Bytes s → Bytes s' → (r r' : Rule) → rule_of s ≡ accepted r → rule_of s' ≡ accepted r'
    → RulesAlike r r' → counted_of (synthesis_of limit s) ≡ counted_of (synthesis_of limit s')
long_counted_alike limit s s' bytes bytes' r r' read read' a = on (unsatisfiable r) refl (unsatisfiable r') refl
  where
    wf : WellFormedFormula r
    wf = file_well_formed s bytes r read

    wf' : WellFormedFormula r'
    wf' = file_well_formed s' bytes' r' read'

    on : (b : Bool) → unsatisfiable r ≡ b → (b' : Bool) → unsatisfiable r' ≡ b' → counted_of (synthesis_of limit s) ≡ counted_of (synthesis_of limit s')
    on true h true h' = rw (refuses_eight limit s r read h, refuses_eight limit s' r' read' h')
    on true h false h' = absurd (true≢false (sym (unsatisfiable_both r r' wf wf' a h) ∙ h'))
    on false h true h' = absurd (true≢false (sym (unsatisfiable_both r' r wf' wf (alike_back a) h') ∙ h))
    on false h false h' = counted_correspond (TwinEquations r r') r r' (alike_corresponds r r' wf wf' a) limit s s' read read' h h'

pub tables_alike : TablesAlike
tables_alike limit limit' mark s table r n left b s' table' r' n' left' b' a =
    fillings_correspond (TwinEquations r r') limit limit' mark s table r n left b s' table' r' n' left' b'
    (alike_corresponds r r' (file_well_formed s b.bytes r b.read) (file_well_formed s' b'.bytes r' b'.read) a)
