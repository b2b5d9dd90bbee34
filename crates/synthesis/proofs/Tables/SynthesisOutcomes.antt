-- What counting and filling accept and refuse. All are checks one after the other, so an acceptance has passed each, and a refusal is that of the
-- first that fails. Filling is counting and then the check of the table, whichever table is filled.
use Prim.Native.Nat.{ℕ, ◌*◌, ◌≤◌, ◌<◌}
use mathlib.Core.Path.{◌≡◌, refl, sym, ◌∙◌, ap, subst}
use mathlib.Core.Logic.{◌↔◌}
use mathlib.Core.Bool.{Bool, true, false}
use mathlib.Core.List.{List}
use native.Mathlib.Omega.{arith}
use lib.Dec.{ltb}
use lib.ListN.{length}
use borrow.Author.Tests.{ltb-true, ltb-false, lt-ltb, le-ltb}
use Rattle.reading.specs.Rule.{Rule}
use Rattle.reading.specs.File.{Outcome, accepted, refused, refuse, and_then, rule_of}
use Rattle.reading.proofs.Basics.Outcomes.{accepted_is, never_refused, refuse_accepted, and_then-refused, and_then-accepted}
use Rattle.synthesis.specs.Answering.{unsatisfiable}
use Rattle.synthesis.specs.Building.{equations_of, Synthesis, with_equations, synthesis_of_rule, synthesis_of, in_table, filling_of, counted_of}
use Rattle.synthesis.specs.Building.{shortened, short_of, short_filling_of}
use Rattle.synthesis.specs.Promises.{FillsAsCounted}
use Rattle.synthesis.specs.ShortPromises.{ShortFillsAsCounted}

-- What holds of the synthesis of each rule that no check refuses, holds of what is accepted.
pub synthesis_accepts : (limit : ℕ) (s : List ℕ) (P : Synthesis → Type 0)
    → ((r : Rule) → rule_of s ≡ accepted r → unsatisfiable r ≡ false → length (equations_of limit r) ≤ limit → P (with_equations limit r))
    → (y : Synthesis) → synthesis_of limit s ≡ accepted y → P y
unfolding synthesis_of
synthesis_accepts limit s P holds y e =
    let read = and_then-accepted (rule_of s) (synthesis_of_rule limit) e in
    let r = read.0 in
    let eight = refuse_accepted (unsatisfiable r) 8 0 _ read.2 in
    let nine = refuse_accepted (ltb limit (length (equations_of limit r))) 9 0 _ eight.1 in
    subst P (accepted_is nine.1) (holds r read.1 eight.0 (ltb-false limit (length (equations_of limit r)) nine.0))

-- ---- the short table: refused as counting is, and else what is counted is shortened

module _ (limit : ℕ) (s : List ℕ) where
  pub short_accepts : {y : Synthesis} → synthesis_of limit s ≡ accepted y → short_of limit s ≡ accepted (shortened y)
  unfolding short_of
  short_accepts e = rw e

  pub short_accepted : (z : Synthesis) → short_of limit s ≡ accepted z → (y : Synthesis) × (synthesis_of limit s ≡ accepted y) × (shortened y ≡ z)
  unfolding short_of
  short_accepted z e =
      let (y, is, made) = and_then-accepted (synthesis_of limit s) (λ y. accepted (shortened y)) e in
      (y, is, accepted_is made)

  pub short_refused : (number place : ℕ) → (short_of limit s ≡ refused number place) ↔ (synthesis_of limit s ≡ refused number place)
  unfolding short_of
  short_refused number place = (
    λ e. and_then-refused (synthesis_of limit s) (λ y. accepted (shortened y)) e (λ h. h) (λ y h q. absurd (never_refused q)),
    λ e. rw e,
  )

-- ---- a file that is a rule: accepted, or one of two refusals

-- two checks in order: refused by the first, or else by the second
first_refuses : (y : Synthesis) (b b' : Bool) → refuse b 8 0 (refuse b' 9 0 (accepted y)) ≡ refused 8 0 → b ≡ true
first_refuses y true b' e = refl
first_refuses y false true e = let z : ◌≡◌ {A = ℕ} 9 8 = cc in absurd (omega arith)
first_refuses y false false e = let z : ◌≡◌ {A = ℕ} 0 1 = cc in absurd (omega arith)

second_refuses : (y : Synthesis) (b b' : Bool) → refuse b 8 0 (refuse b' 9 0 (accepted y)) ≡ refused 9 0 → (b ≡ false) × (b' ≡ true)
second_refuses y true b' e = let z : ◌≡◌ {A = ℕ} 8 9 = cc in absurd (omega arith)
second_refuses y false true e = (refl, refl)
second_refuses y false false e = let z : ◌≡◌ {A = ℕ} 0 1 = cc in absurd (omega arith)

module _ (limit : ℕ) (s : List ℕ) (r : Rule) (read : rule_of s ≡ accepted r) where
  pub synthesis_of_lem : synthesis_of limit s ≡ synthesis_of_rule limit r
  unfolding synthesis_of
  synthesis_of_lem = rw read

  pub accepts_with_equations : unsatisfiable r ≡ false → length (equations_of limit r) ≤ limit → synthesis_of limit s ≡ accepted (with_equations limit r)
  accepts_with_equations h k = rw (synthesis_of_lem, h, le-ltb limit (length (equations_of limit r)) k)

  pub refused_eight : synthesis_of limit s ≡ refused 8 0 → unsatisfiable r ≡ true
  refused_eight e = first_refuses (with_equations limit r) (unsatisfiable r) (ltb limit (length (equations_of limit r))) (rw synthesis_of_lem at e)

  pub refuses_eight : unsatisfiable r ≡ true → synthesis_of limit s ≡ refused 8 0
  refuses_eight h = rw (synthesis_of_lem, h)

  pub refused_nine : synthesis_of limit s ≡ refused 9 0 → limit < length (equations_of limit r)
  refused_nine e =
      let both = second_refuses (with_equations limit r) (unsatisfiable r) (ltb limit (length (equations_of limit r))) (rw synthesis_of_lem at e) in
      ltb-true limit (length (equations_of limit r)) both.1

  pub refuses_nine : unsatisfiable r ≡ false → limit < length (equations_of limit r) → synthesis_of limit s ≡ refused 9 0
  refuses_nine h k = rw (synthesis_of_lem, h, lt-ltb limit (length (equations_of limit r)) k)

-- ---- what the answer says of the outcome

pub counted_accepts : (o : Outcome Synthesis) (n : ℕ) → counted_of o ≡ accepted n → (y : Synthesis) × (o ≡ accepted y) × (n ≡ length y.equations)
counted_accepts (accepted y) n e = (y, refl, cc)
counted_accepts (refused number place) n e = let z : ◌≡◌ {A = ℕ} 0 1 = cc in absurd (omega arith)

pub counted_refuses : (o : Outcome Synthesis) (number place : ℕ) → counted_of o ≡ refused number place → o ≡ refused number place
counted_refuses (accepted y) number place e = let z : ◌≡◌ {A = ℕ} 0 1 = cc in absurd (omega arith)
counted_refuses (refused number' place') number place e = cc

-- what is accepted is made of the rule that the file says
pub accepts_as : (limit : ℕ) (s : List ℕ) (r : Rule) → rule_of s ≡ accepted r → (y : Synthesis) → synthesis_of limit s ≡ accepted y → y ≡ with_equations limit r
accepts_as limit s r read =
    synthesis_accepts limit s (λ y. y ≡ with_equations limit r) (λ r' read' h few. ap (with_equations limit) (accepted_is (sym read' ∙ read)))

-- ---- a table for the rows

-- either filling is counting, and then the check of the table
pub filling_by_count : (limit : ℕ) (s : List ℕ) (capacity : ℕ) → filling_of limit s capacity ≡ and_then (synthesis_of limit s) (in_table capacity)
unfolding filling_of
filling_by_count limit s capacity = refl

pub short_filling-by_count : (limit : ℕ) (s : List ℕ) (capacity : ℕ) → short_filling_of limit s capacity ≡ and_then (short_of limit s) (in_table capacity)
unfolding short_filling_of
short_filling-by_count limit s capacity = refl

module _ {counting filling : Outcome Synthesis} (capacity : ℕ) (by_count : filling ≡ and_then counting (in_table capacity)) where
  pub filling_accepts : {y : Synthesis} → counting ≡ accepted y → 256 * length y.equations ≤ capacity → filling ≡ accepted y
  filling_accepts {y} e room = rw (by_count, e, le-ltb capacity (256 * length y.equations) room)

  pub filling_too_short : {y : Synthesis} → counting ≡ accepted y → capacity < 256 * length y.equations → filling ≡ refused 10 0
  filling_too_short {y} e h = rw (by_count, e, lt-ltb capacity (256 * length y.equations) h)

  pub filling_refuses : {number place : ℕ} → counting ≡ refused number place → filling ≡ refused number place
  filling_refuses e = rw (by_count, e)

  pub filling_accepted : (y : Synthesis) → filling ≡ accepted y → (counting ≡ accepted y) × (256 * length y.equations ≤ capacity)
  filling_accepted y e =
      let (y', is, fits) = and_then-accepted counting (in_table capacity) (sym by_count ∙ e) in
      let (room, same) = refuse_accepted (ltb capacity (256 * length y'.equations)) 10 0 (accepted y') fits in
      let z : y' ≡ y = accepted_is same in
      (is ∙ ap accepted z, rw z at (ltb-false capacity (256 * length y'.equations) room))

  pub filled_as_counted : FillsAsCounted counting filling capacity
  filled_as_counted = record {
    refused = λ number place e. ap counted_of (filling_refuses (counted_refuses counting number place e));
    enough = λ n e room.
        let (y, is, n-is) = counted_accepts counting n e in
        ap counted_of (filling_accepts is (omega (arith, room, n-is))) ∙ ap accepted (sym n-is);
    too_short = λ n e h. let (y, is, n-is) = counted_accepts counting n e in ap counted_of (filling_too_short is (omega (arith, h, n-is)));
    same = λ n e. let (y, is, n-is) = counted_accepts filling n e in is ∙ sym (filling_accepted y is).0;
  }

-- a table with room for as many rows as the limit allows is never too short
pub filling_within_lem : (limit : ℕ) (s : List ℕ) (capacity : ℕ) → 256 * limit ≤ capacity → filling_of limit s capacity ≡ synthesis_of limit s
filling_within_lem limit s capacity room = on (synthesis_of limit s) refl
  where
    on : (o : Outcome Synthesis) → synthesis_of limit s ≡ o → filling_of limit s capacity ≡ synthesis_of limit s
    on (accepted y) e =
        let few = synthesis_accepts limit s (λ y. length y.equations ≤ limit) (λ r read h few. few) y e in
        filling_accepts capacity (filling_by_count limit s capacity) e (omega (arith, few, room)) ∙ sym e
    on (refused number place) e = filling_refuses capacity (filling_by_count limit s capacity) e ∙ sym e

pub fills_as_counted : (limit : ℕ) (s : List ℕ) (capacity : ℕ) → FillsAsCounted (synthesis_of limit s) (filling_of limit s capacity) capacity
fills_as_counted limit s capacity = filled_as_counted capacity (filling_by_count limit s capacity)

pub short_fills_as_counted : ShortFillsAsCounted
short_fills_as_counted limit s capacity = filled_as_counted capacity (short_filling-by_count limit s capacity)
