-- What is answered and left of the short table. Counting for it is refused as counting is; it is filled, as the long one is, from a closed list; and
-- under the renaming from the long table it drops, keeps and monitors alike.
use Prim.Native.Nat.{ℕ, ◌*◌, ◌≤◌, ◌<◌}
use mathlib.Core.Path.{◌≡◌, refl, sym, ◌∙◌, ap, subst}
use mathlib.Core.List.{List}
use native.Mathlib.Omega.{arith}
use lib.ListN.{length}
use Rattle.reading.specs.Rule.{Rule}
use Rattle.reading.specs.File.{accepted, rule_of}
use Rattle.synthesis.specs.Monitor.{Monitors, lookup}
use Rattle.synthesis.specs.Table.{WellFormedTable}
use Rattle.synthesis.specs.Building.{Synthesis, with_equations, synthesis_of, counted_of, table_after, table_left, numbered_answer, shortened, short_of, short_filling_of}
use Rattle.synthesis.specs.Promises.{SameAfterRows}
use Rattle.synthesis.specs.ShortPromises.{RefusesAlike, ShortRefusesAlike, ShortRefusedUnchanged, ShortFillsAccepted, ShortOfRule, ShortDropsAlike}
use Rattle.synthesis.specs.ShortPromises.{ShortMonitors, ShortDrops, ShortInRange, ShortRest}
use Rattle.synthesis.proofs.Monitors.MonitorLaws.{drops_violations}
use Rattle.synthesis.proofs.Monitors.Renaming.{renamed_runs, renamed_monitors}
use Rattle.synthesis.proofs.Tables.SynthesisOutcomes.{synthesis_accepts, counted_accepts, counted_refuses}
use Rattle.synthesis.proofs.Tables.SynthesisOutcomes.{short_accepts, short_accepted, short_refused, short_filling-by_count, filling_accepted}
use Rattle.synthesis.proofs.Tables.TableMonitors.{table_numbered, filled_well_formed, filled_same_after}
use Rattle.synthesis.proofs.Tables.Built.{outcome_unchanged, zero_rows, zero_rows_lem, fills_count, table_monitors}
use Rattle.synthesis.proofs.Numberings.Finding.{ClosedUnder}
use Rattle.synthesis.proofs.Quotients.Firsts.{firsts_length}
use Rattle.synthesis.proofs.Quotients.Quotient.{firsts_closed}
use Rattle.synthesis.proofs.Quotients.ShortTables.{count, classes, number, count_some, rule_inside, rule_settled, some_class, number_zero}
use Rattle.synthesis.proofs.Quotients.ShortTables.{shortened_count, Shortens, counted_shortens, shortens, fills_long, rows_rename}

-- ---- answers

module _ (limit : ℕ) (s : List ℕ) where
  -- there is a class, and there are no more than equations
  shortened_few : (y : Synthesis) → synthesis_of limit s ≡ accepted y
      → (1 ≤ length (shortened y).equations) × (length (shortened y).equations ≤ length y.equations)
  shortened_few = synthesis_accepts limit s (λ y. (1 ≤ length (shortened y).equations) × (length (shortened y).equations ≤ length y.equations))
      (λ r read h few.
      rw (shortened_count (with_equations limit r)) (some_class limit r few, firsts_length (classes limit r) (count limit r)))

  refuses_alike : RefusesAlike limit s
  refuses_alike = record {
    refused = λ number place. (
      λ e. ap counted_of ((short_refused limit s number place).0 (counted_refuses (short_of limit s) number place e)),
      λ e. ap counted_of ((short_refused limit s number place).1 (counted_refuses (synthesis_of limit s) number place e)),
    );
    counted = λ n e.
        let (y, is, n-is) = counted_accepts (synthesis_of limit s) n e in
        let (some, few) = shortened_few y is in
        (length (shortened y).equations, ap counted_of (short_accepts limit s is), some, omega (arith, few, n-is));
  }

  -- where counting for the short table answers a count, so does counting
  pub short_counted_long : (m : ℕ) → counted_of (short_of limit s) ≡ accepted m → (n : ℕ) × (counted_of (synthesis_of limit s) ≡ accepted n)
  short_counted_long m e =
      let (z, is, m-is) = counted_accepts (short_of limit s) m e in
      let (y, synthesis, made) = short_accepted limit s z is in
      (length y.equations, ap counted_of synthesis)

pub short_refuses_alike : ShortRefusesAlike
short_refuses_alike = refuses_alike

pub short_refused_unchanged : ShortRefusedUnchanged
short_refused_unchanged limit mark s table = outcome_unchanged mark table (short_filling_of limit s (length table))

shortened_rule : (y : Synthesis) → (shortened y).rule ≡ y.rule
unfolding shortened
shortened_rule y = refl

pub short_of-rule : ShortOfRule
short_of-rule limit s z e =
    let (y, synthesis, made) = short_accepted limit s z e in
    let read = synthesis_accepts limit s (λ y. rule_of s ≡ accepted y.rule) (λ r read h few. read) y synthesis in
    read ∙ ap accepted (sym (shortened_rule y) ∙ ap (λ (y : Synthesis). y.rule) made)

-- the rule of a file whose short table is filled
filled_rule : (limit : ℕ) (s : List ℕ) (capacity n : ℕ) → counted_of (short_filling_of limit s capacity) ≡ accepted n → (r : Rule) × (rule_of s ≡ accepted r)
filled_rule limit s capacity n e =
    let (z, is, n-is) = counted_accepts (short_filling_of limit s capacity) n e in
    (z.rule, short_of-rule limit s z (filling_accepted capacity (short_filling-by_count limit s capacity) z is).0)

pub short_fills_accepted : ShortFillsAccepted
short_fills_accepted limit mark s table n below bytes e =
    let (r, read) = filled_rule limit s (length table) n e in
    (r, record { below = below; bytes = bytes; read = read; counted = e; left_is = refl })

-- ---- the short table as a monitor

pub short_drops_alike : ShortDropsAlike
short_drops_alike limit mark s table r n long b table' m short b' w bytes =
    let alike = renamed_runs 256 (λ k. k < n) (lookup 256 mark long) (lookup 256 mark short) (number limit r) (rows_rename b' table long n b) 0 w
    (omega (arith, fills_count b, count_some limit r)) bytes in
    let zero = number_zero limit r (shortens b').counted.few in
    record { verdicts_alike = rw zero at alike.judges; kept_alike = rw zero at alike.keeps }

pub short_monitors : ShortMonitors
short_monitors limit mark s table r n short b =
    let n = count limit r in
    let table' = zero_rows n in
    let long = table_left limit mark s table' in
    let b' = fills_long b table' (omega (arith, zero_rows_lem n)) in
    subst (Monitors r (lookup 256 mark short)) (number_zero limit r (shortens b).counted.few)
    (renamed_monitors r (λ k. k < n) (lookup 256 mark long) (lookup 256 mark short) (number limit r)
    (rows_rename b table' long n b') 0 (count_some limit r) (table_monitors limit mark s table' r n long b'))

pub short_drops : ShortDrops
short_drops limit mark s table r n short b = drops_violations r (lookup 256 mark short) 0 (short_monitors limit mark s table r n short b)

-- ---- the rows of the table

-- the equations of a synthesis lead to each other, there is one, and there are at most as many as the limit
record ClosedWithin (limit : ℕ) (z : Synthesis) : Type 0 where
  closed : ClosedUnder 256 z.answer z.equations
  some : 0 < length z.equations
  few : length z.equations ≤ limit

-- the first equations of the classes do so
closed_short : (limit : ℕ) (s : List ℕ) (y : Synthesis) → synthesis_of limit s ≡ accepted y → ClosedWithin limit (shortened y)
unfolding shortened
closed_short limit s = synthesis_accepts limit s (λ y. ClosedWithin limit (shortened y)) (λ r read h few. record {
  closed = firsts_closed (rule_settled limit r few) (rule_inside limit r few);
  some = some_class limit r few;
  few = omega (arith, firsts_length (classes limit r) (count limit r), few);
})

module _ (limit mark : ℕ) (s table : List ℕ) (z : Synthesis) (e : short_filling_of limit s (length table) ≡ accepted z) where
  filled_closed : ClosedWithin limit z × (256 * length z.equations ≤ length table)
  filled_closed =
      let (short, room) = filling_accepted (length table) (short_filling-by_count limit s (length table)) z e in
      let (y, is, made) = short_accepted limit s z short in
      (rw made at (closed_short limit s y is), room)

  pub short_well_formed : WellFormedTable limit mark (length z.equations) (table_after mark (short_filling_of limit s (length table)) table)
  short_well_formed =
      let (c, room) = filled_closed in
      rw e (filled_well_formed limit mark z.answer z.equations table room c.closed c.some c.few)

  -- each entry of the table is what its row answers, by numbers
  pub short_numbers : limit ≤ mark → (k c : ℕ) → c < 256 → k < length z.equations
      → lookup 256 mark (table_after mark (short_filling_of limit s (length table)) table) k c ≡ numbered_answer z k c
  short_numbers below k c b h =
      let (w, room) = filled_closed in
      let few : length z.equations ≤ mark = omega (arith, w.few) in
      rw e (table_numbered 256 mark z.answer z.equations w.closed table room few k c h b)

-- ---- the entries after the last row

module _ {limit mark : ℕ} {s table : List ℕ} {r : Rule} {n : ℕ} {left : List ℕ} (x : Shortens limit mark s table r n left) where
  shortens_rest : SameAfterRows n table left
  shortens_rest = rw (x.filled_is, x.count_is) (filled_same_after limit mark _ _ table x.room)

pub short_in_range : ShortInRange
short_in_range limit mark s table r n left b =
    let (z, is, n-is) = counted_accepts (short_filling_of limit s (length table)) n b.counted in
    rw (b.left_is, n-is) (short_well_formed limit mark s table z is)

pub short_rest : ShortRest
short_rest limit mark s table r n left b = shortens_rest (shortens b)

-- the same from the count alone, whatever the mark
pub short_counted_rest : (limit mark : ℕ) (s table : List ℕ) (n : ℕ) → counted_of (short_filling_of limit s (length table)) ≡ accepted n
    → SameAfterRows n table (table_after mark (short_filling_of limit s (length table)) table)
short_counted_rest limit mark s table n e =
    let (r, read) = filled_rule limit s (length table) n e in
    shortens_rest (counted_shortens limit mark s table r n read e)
