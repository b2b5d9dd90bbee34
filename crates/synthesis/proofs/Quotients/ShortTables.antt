-- The two tables of one rule: the long one is that of the equations by their numbers, and the short one that of their quotient. So one
-- renaming goes from the rows of the one to those of the other, and to row 0 from row 0.
use Prim.Native.Nat.{ℕ, ◌*◌, ◌≤◌, ◌<◌}
use mathlib.Core.Path.{◌≡◌, refl, sym, ◌∙◌, ap}
use mathlib.Core.List.{List}
use native.Mathlib.Omega.{arith}
use lib.ListN.{length, get_or}
use Rattle.reading.specs.Rule.{Rule}
use Rattle.reading.specs.File.{Outcome, accepted, rule_of}
use Rattle.reading.proofs.Basics.Outcomes.{accepted_is}
use Rattle.synthesis.specs.Monitor.{Answer, lookup}
use Rattle.synthesis.specs.Answering.{answer_of}
use Rattle.synthesis.specs.Table.{filled}
use Rattle.synthesis.specs.Merging.{merged, firsts}
use Rattle.synthesis.specs.Building.{equations_of, Synthesis, with_equations, synthesis_of, filling_of, counted_of, table_after, table_left}
use Rattle.synthesis.specs.Building.{numbered_answer, classes_of, shortened, short_filling_of, Fills, FillsShort}
use Rattle.synthesis.proofs.Monitors.Renaming.{Renames}
use Rattle.synthesis.proofs.Numberings.Indices.{index_first}
use Rattle.synthesis.proofs.Numberings.Finding.{ClosedUnder}
use Rattle.synthesis.proofs.Tables.SynthesisOutcomes.{synthesis_accepts, counted_accepts, accepts_as, short_accepted}
use Rattle.synthesis.proofs.Tables.SynthesisOutcomes.{short_filling-by_count, filling_accepted, fills_as_counted}
use Rattle.synthesis.proofs.Tables.Equations.{first_member, equations_closed}
use Rattle.synthesis.proofs.Tables.Built.{built_numbers, fills_when_counted, fills_outcome, fills_count}
use Rattle.synthesis.proofs.Quotients.Settled.{Inside, Settled}
use Rattle.synthesis.proofs.Quotients.NumberedAnswers.{numbered_inside}
use Rattle.synthesis.proofs.Quotients.Refinement.{settled}
use Rattle.synthesis.proofs.Quotients.Firsts.{firsts_length, firsts_some, firsts_first}
use Rattle.synthesis.proofs.Quotients.Quotient.{class_number, quotient_renames}

-- ---- the equations of a rule, and their quotient

module _ (limit : ℕ) (r : Rule) where
  abbrev pub count : ℕ
  count = length (equations_of limit r)

  abbrev pub numbered : ℕ → ℕ → Answer ℕ
  numbered = numbered_answer (with_equations limit r)

  abbrev pub classes : List ℕ
  classes = classes_of (with_equations limit r)

  abbrev pub class_firsts : List ℕ
  class_firsts = firsts classes count

  -- the number of the class of equation k
  abbrev pub number : ℕ → ℕ
  number k = class_number classes count k

  pub count_some : 0 < count
  count_some = omega (arith, first_member limit r)

  module _ (few : count ≤ limit) where
    pub rule_closed : ClosedUnder 256 (answer_of r) (equations_of limit r)
    rule_closed = equations_closed limit r few

    pub rule_inside : Inside 256 numbered count
    rule_inside = numbered_inside (with_equations limit r) rule_closed

    pub rule_settled : Settled 256 numbered count classes
    rule_settled = settled 256 numbered count rule_inside

    -- row 0 is that of the first class
    zero_class : get_or classes 0 0 ≡ 0
    zero_class = omega (arith, rule_settled.are_classes.le 0 count_some)

    pub some_class : 0 < length class_firsts
    some_class = firsts_some classes count count_some zero_class

    pub number_zero : number 0 ≡ 0
    number_zero =
        rw zero_class (omega (arith, index_first 0 class_firsts 0 some_class (firsts_first classes count count_some zero_class)))

-- ---- what is filled into the short table

-- counting accepts the file as the rule
pub record IsCounted (limit : ℕ) (s : List ℕ) (r : Rule) : Type 0 where
  pub outcome : synthesis_of limit s ≡ accepted (with_equations limit r)
  pub few : count limit r ≤ limit

counted_rule : (limit : ℕ) (s : List ℕ) (r : Rule) → rule_of s ≡ accepted r → (y : Synthesis) → synthesis_of limit s ≡ accepted y → IsCounted limit s r
counted_rule limit s r read y e =
    let is : y ≡ with_equations limit r = accepts_as limit s r read y e in
    record {
      outcome = e ∙ ap accepted is;
      few = rw is at (synthesis_accepts limit s (λ y. length y.equations ≤ limit) (λ r' read' h few. few) y e);
    }

-- what filling the short table leaves
pub record Shortens (limit mark : ℕ) (s table : List ℕ) (r : Rule) (n : ℕ) (left : List ℕ) : Type 0 where
  pub counted : IsCounted limit s r
  pub count_is : n ≡ length (class_firsts limit r)
  pub room : 256 * length (class_firsts limit r) ≤ length table
  pub filled_is : left ≡ filled mark (merged (classes limit r) (numbered limit r)) (class_firsts limit r) 256 table

pub shortened_count : (y : Synthesis) → length (shortened y).equations ≡ length (firsts (classes_of y) (length y.equations))
unfolding shortened
shortened_count y = refl

shortened_table : (mark : ℕ) (y : Synthesis) (table : List ℕ)
    → table_after mark (accepted (shortened y)) table
    ≡ filled mark (merged (classes_of y) (numbered_answer y)) (firsts (classes_of y) (length y.equations)) 256 table
unfolding shortened
shortened_table mark y table = refl

pub counted_shortens : (limit mark : ℕ) (s table : List ℕ) (r : Rule) (n : ℕ) → rule_of s ≡ accepted r
    → counted_of (short_filling_of limit s (length table)) ≡ accepted n
    → Shortens limit mark s table r n (table_after mark (short_filling_of limit s (length table)) table)
counted_shortens limit mark s table r n read counted =
    let (z, is, n-is) = counted_accepts (short_filling_of limit s (length table)) n counted in
    let (short, fits) = filling_accepted (length table) (short_filling-by_count limit s (length table)) z is in
    let (y, synthesis, made) = short_accepted limit s z short in
    let c = counted_rule limit s r read y synthesis in
    let same : z ≡ shortened (with_equations limit r) = sym made ∙ ap shortened (accepted_is (sym synthesis ∙ c.outcome)) in
    let count_is = n-is ∙ ap (λ (y : Synthesis). length y.equations) same ∙ shortened_count (with_equations limit r) in
    record {
      counted = c;
      count_is = count_is;
      room = omega (arith, fits, n-is, count_is);
      filled_is = ap (λ (o : Outcome Synthesis). table_after mark o table) (is ∙ ap accepted same)
          ∙ shortened_table mark (with_equations limit r) table;
    }

module _ {limit mark : ℕ} {s table : List ℕ} {r : Rule} {n : ℕ} {left : List ℕ} where
  pub firsts_few : Shortens limit mark s table r n left → length (class_firsts limit r) ≤ limit
  firsts_few x = omega (arith, firsts_length (classes limit r) (count limit r), x.counted.few)

  pub shortens : FillsShort limit mark s table r n left → Shortens limit mark s table r n left
  shortens b = rw b.left_is (counted_shortens limit mark s table r n b.read b.counted)

  -- where the short table is filled, counting answers how many rows the long one has
  pub short_fills_counted : FillsShort limit mark s table r n left → counted_of (synthesis_of limit s) ≡ accepted (count limit r)
  short_fills_counted b = ap counted_of (shortens b).counted.outcome

  -- and that is filled too, if its rows fit
  pub fills_long : FillsShort limit mark s table r n left → (table' : List ℕ) → 256 * count limit r ≤ length table'
      → Fills limit mark s table' r (count limit r) (table_left limit mark s table')
  fills_long b table' room =
      fills_when_counted filling_of (synthesis_of limit s) limit mark s table' r (count limit r) b.below b.bytes b.read (short_fills_counted b)
      (fills_as_counted limit s (length table')) room

-- ---- the rows of the long table, renamed to those of the short one

module _ {limit mark : ℕ} {s table : List ℕ} {r : Rule} {n : ℕ} {short : List ℕ} (b : FillsShort limit mark s table r n short) where
  few : count limit r ≤ limit
  few = (shortens b).counted.few

  -- the equations by their numbers
  pub short_renames : Renames 256 (λ k. k < count limit r) (numbered limit r) (lookup 256 mark short) (number limit r)
  short_renames =
      rw (shortens b).filled_is
      (quotient_renames (rule_settled limit r few) (rule_inside limit r few) mark table (shortens b).room
      (omega (arith, firsts_few (shortens b), b.below)))

  -- a row of any filled long table answers as its equation does, by numbers
  long_answers : (table' long : List ℕ) (m : ℕ) → Fills limit mark s table' r m long → (k c : ℕ) → k < m → c < 256
      → lookup 256 mark long k c ≡ numbered limit r k c
  long_answers table' long m b' k c h code =
      rw b'.left_is
      (built_numbers limit mark s table' b.below k c code (with_equations limit r) (fills_outcome b') (omega (arith, fills_count b')))

  -- so the rows of that table are renamed too
  pub rows_rename : (table' long : List ℕ) (m : ℕ) → Fills limit mark s table' r m long
      → Renames 256 (λ k. k < m) (lookup 256 mark long) (lookup 256 mark short) (number limit r)
  rows_rename table' long m b' =
      let same = long_answers table' long m b' in
      let within : (k : ℕ) → k < m → k < count limit r = λ k h. omega (arith, fills_count b') in
      record {
        invariant = λ k j c h code q. omega (arith, fills_count b', short_renames.invariant k j c (within k h) code (sym (same k c h code) ∙ q));
        drops = λ k c h code q. short_renames.drops k c (within k h) code (sym (same k c h code) ∙ q);
        follows = λ k j c h code q. short_renames.follows k j c (within k h) code (sym (same k c h code) ∙ q);
      }
