-- Two limits and two marks. Either table is filled from the same synthesis under both limits. An entry means the number of the equation that its row's equation
-- answers, whatever the mark, so the two tables mean the same; and then they are renamings of each other, under the same names.
use Prim.Native.Nat.{ℕ, ◌≤◌, ◌<◌}
use mathlib.Core.Path.{◌≡◌, sym, ◌∙◌, ap}
use mathlib.Core.Logic.{◌⊎◌, inl, inr}
use mathlib.Core.List.{List}
use native.Mathlib.Decide.{dec_le}
use native.Mathlib.Omega.{arith}
use lib.Dec.{ltb}
use lib.ListN.{length}
use borrow.Author.Tests.{lt-ltb, le-ltb, ltb-true}
use Rattle.reading.specs.File.{Outcome, accepted, and_then, refused}
use Rattle.reading.proofs.Basics.Outcomes.{accepted_is, refuse_refused, and_then-refused, never_refused}
use Rattle.synthesis.specs.Monitor.{lookup}
use Rattle.synthesis.specs.Table.{WellFormedTable}
use Rattle.synthesis.specs.Building.{Synthesis, within_limit, synthesis_of, in_table, filling_of, counted_of, table_after}
use Rattle.synthesis.specs.Building.{numbered_answer, short_of, short_filling_of}
use Rattle.synthesis.specs.LimitPromises.{Stays, OldRulesStay, FillMore, SameMeaning, MeanTheSame, RowsMeanTheSame, ShortRowsMeanTheSame}
use Rattle.synthesis.proofs.Monitors.Renaming.{Renames, renamed_runs}
use Rattle.synthesis.proofs.Tables.WellFormedTables.{lookup_inside}
use Rattle.synthesis.proofs.Tables.SynthesisOutcomes.{synthesis_accepts, counted_accepts, counted_refuses, short_accepts, short_accepted}
use Rattle.synthesis.proofs.Tables.SynthesisOutcomes.{filling_by_count, short_filling-by_count, filling_accepts, filling_accepted}
use Rattle.synthesis.proofs.Tables.Limits.{limits_agree}
use Rattle.synthesis.proofs.Tables.Built.{built_numbers, accepted_well_formed}
use Rattle.synthesis.proofs.Quotients.ShortFillings.{short_numbers, short_well_formed}

-- ---- counting under two limits

short_more : (limit limit' : ℕ) (s : List ℕ) → limit ≤ limit' → (z : Synthesis) → short_of limit s ≡ accepted z → short_of limit' s ≡ accepted z
short_more limit limit' s h z e =
    let (y, is, made) = short_accepted limit s z e in
    short_accepts limit' s ((limits_agree limit limit' s h).accepts y is) ∙ ap accepted made

module _ (limit limit' : ℕ) (s : List ℕ) (h : limit ≤ limit') where
  stays_counted : (n : ℕ) → counted_of (synthesis_of limit s) ≡ accepted n → (counted_of (synthesis_of limit' s) ≡ accepted n) × (n ≤ limit)
  stays_counted n e =
      let (y, is, n-is) = counted_accepts (synthesis_of limit s) n e in (
        ap counted_of ((limits_agree limit limit' s h).accepts y is) ∙ ap accepted (sym n-is),
        omega (arith, n-is, synthesis_accepts limit s (λ y. length y.equations ≤ limit) (λ r read sat few. few) y is),
      )

  counted_within : (n : ℕ) → counted_of (synthesis_of limit' s) ≡ accepted n → n ≤ limit → counted_of (synthesis_of limit s) ≡ accepted n
  counted_within n e few =
      let (y, is, n-is) = counted_accepts (synthesis_of limit' s) n e in
      rw ((limits_agree limit limit' s h).by_limit, is, le-ltb limit (length y.equations) (omega (arith, few, n-is))) (ap accepted (sym n-is))

  stays : Stays limit limit' s
  stays = record {
    counted = λ n. (stays_counted n, λ (e, few). counted_within n e few);
    short_counted = λ m e.
        let (z, is, m-is) = counted_accepts (short_of limit s) m e in
        ap counted_of (short_more limit limit' s h z is) ∙ ap accepted (sym m-is);
    others = λ number place other. (
      λ e. ap counted_of ((limits_agree limit limit' s h).others number place other (counted_refuses (synthesis_of limit s) number place e)),
      λ e. ap counted_of ((limits_agree limit limit' s h).refuses number place (counted_refuses (synthesis_of limit' s) number place e)),
    );
    nine = λ place e.
        and_then-refused (synthesis_of limit' s) (within_limit limit) (sym (limits_agree limit limit' s h).by_limit ∙ counted_refuses (synthesis_of limit s) 9 place e)
        (λ is. inr (ap counted_of is)) λ y is within.
        refuse_refused (λ k p. ((n : ℕ) × (limit < n) × (counted_of (synthesis_of limit' s) ≡ accepted n)) ⊎ (counted_of (synthesis_of limit' s) ≡ refused 9 place))
        (ltb limit (length y.equations)) 9 0 (accepted y) within
        (λ over. inl (length y.equations, ltb-true limit (length y.equations) over, ap counted_of is)) (λ f e'. absurd (never_refused e'));
    over = λ n more e.
        let (y, is, n-is) = counted_accepts (synthesis_of limit' s) n e in
        rw ((limits_agree limit limit' s h).by_limit, is, lt-ltb limit (length y.equations) (omega (arith, more, n-is)));
    still_nine = λ place e. ap counted_of ((limits_agree limit limit' s h).refuses 9 place (counted_refuses (synthesis_of limit' s) 9 place e));
  }

pub old_rules_stay : OldRulesStay
old_rules_stay = stays

-- ---- two tables that answer alike

same_meaning : (n mark mark' limit : ℕ) (left left' : List ℕ) → WellFormedTable limit mark n left
    → ((k c : ℕ) → k < n → c < 256 → lookup 256 mark left k c ≡ lookup 256 mark' left' k c) → SameMeaning n mark mark' left left'
same_meaning n mark mark' limit left left' wf rows =
    let renames : Renames 256 (λ k. k < n) (lookup 256 mark left) (lookup 256 mark' left') (λ k. k) = record {
      invariant = λ k j c h b q. lookup_inside wf k c j h q;
      drops = λ k c h b q. sym (rows k c h b) ∙ q;
      follows = λ k j c h b q. sym (rows k c h b) ∙ q;
    } in
    let runs = renamed_runs 256 (λ k. k < n) (lookup 256 mark left) (lookup 256 mark' left') (λ k. k) renames in
    record {
      rows = rows;
      keeps = λ k w h bytes. sym (runs k w h bytes).keeps;
      judges = λ k w h bytes. sym (runs k w h bytes).judges;
      ends = λ k w h bytes. sym (runs k w h bytes).ends;
    }

-- ---- either filling

module _ (counting_of : (limit : ℕ) → List ℕ → Outcome Synthesis) (outcome_of : (limit : ℕ) → List ℕ → (capacity : ℕ) → Outcome Synthesis)
    (by_count : (limit : ℕ) (s : List ℕ) (capacity : ℕ) → outcome_of limit s capacity ≡ and_then (counting_of limit s) (in_table capacity))
    (more : (limit limit' : ℕ) (s : List ℕ) → limit ≤ limit' → (y : Synthesis) → counting_of limit s ≡ accepted y → counting_of limit' s ≡ accepted y) where
  fill_more : FillMore outcome_of
  fill_more limit limit' mark s table r n left h below b =
      let (y, is, n-is) = counted_accepts (outcome_of limit s (length table)) n b.counted in
      let (counts, room) = filling_accepted (length table) (by_count limit s (length table)) y is in
      let is' = filling_accepts (length table) (by_count limit' s (length table)) (more limit limit' s h y counts) room in
      record {
        below = below;
        bytes = b.bytes;
        read = b.read;
        counted = ap counted_of is' ∙ ap accepted (sym n-is);
        left_is = b.left_is ∙ ap (λ (o : Outcome Synthesis). table_after mark o table) (is ∙ sym is');
      }

  -- what is accepted under two limits is the same
  same_synthesis : (limit limit' : ℕ) (s : List ℕ) (y y' : Synthesis) → counting_of limit s ≡ accepted y → counting_of limit' s ≡ accepted y' → y ≡ y'
  same_synthesis limit limit' s y y' e e' = on (dec_le limit limit')
    where
      on : Dec (limit ≤ limit') → y ≡ y'
      on (yes h) = accepted_is (sym (more limit limit' s h y e) ∙ e')
      on (no h) = sym (accepted_is (sym (more limit' limit s (omega arith) y' e') ∙ e))

  -- and so are its entries, by numbers
  module _ (numbers : (limit mark : ℕ) (s table : List ℕ) → limit ≤ mark → (k c : ℕ) → c < 256 → (y : Synthesis)
      → outcome_of limit s (length table) ≡ accepted y → k < length y.equations
      → lookup 256 mark (table_after mark (outcome_of limit s (length table)) table) k c ≡ numbered_answer y k c)
      (well_formed : (limit mark : ℕ) (s table : List ℕ) (y : Synthesis) → outcome_of limit s (length table) ≡ accepted y
      → WellFormedTable limit mark (length y.equations) (table_after mark (outcome_of limit s (length table)) table)) where
    mean_the_same : MeanTheSame outcome_of
    mean_the_same limit mark limit' mark' s table table' n n' below below' e e' =
        let (y, is, n-is) = counted_accepts (outcome_of limit s (length table)) n e in
        let (y', is', n-is') = counted_accepts (outcome_of limit' s (length table')) n' e' in
        let same = same_synthesis limit limit' s y y' (filling_accepted (length table) (by_count limit s (length table)) y is).0
        (filling_accepted (length table') (by_count limit' s (length table')) y' is').0 in
        let count : n ≡ n' = n-is ∙ ap (λ (y : Synthesis). length y.equations) same ∙ sym n-is' in (
          count,
          same_meaning n mark mark' limit _ _ (rw n-is (well_formed limit mark s table y is)) λ k c h b.
              numbers limit mark s table below k c b y is (omega (arith, h, n-is))
              ∙ sym (numbers limit' mark' s table' below' k c b y (is' ∙ ap accepted (sym same)) (omega (arith, h, n-is))),
        )

pub fills_more : FillMore filling_of
fills_more = fill_more synthesis_of filling_of filling_by_count (λ limit limit' s h. (limits_agree limit limit' s h).accepts)

pub short_fills_more : FillMore short_filling_of
short_fills_more = fill_more short_of short_filling_of short_filling-by_count short_more

pub rows_mean_the_same : RowsMeanTheSame
rows_mean_the_same =
    mean_the_same synthesis_of filling_of filling_by_count (λ limit limit' s h. (limits_agree limit limit' s h).accepts)
    built_numbers accepted_well_formed

pub short_rows_mean_the_same : ShortRowsMeanTheSame
short_rows_mean_the_same = mean_the_same short_of short_filling_of short_filling-by_count short_more
    (λ limit mark s table below k c b z e. short_numbers limit mark s table z e below k c b) short_well_formed
