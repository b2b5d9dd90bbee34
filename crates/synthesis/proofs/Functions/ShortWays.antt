-- What the short table is filled from: a law for each way out of the code. It is refused as counting is. Else the long table answers as the equations do by
-- their numbers, so it has their classes, and the rows that are filled in are those of the quotient.
use Prim.Native.Nat.{ℕ, ◌*◌, ◌≤◌, ◌<◌}
use mathlib.Core.Path.{◌≡◌, refl, sym, ◌∙◌, ap, subst}
use mathlib.Core.List.{List}
use native.Mathlib.Omega.{arith}
use lib.ListN.{length, take, replicate}
use Rattle.std.proofs.lemmas.List.{length-replicate, take-replicate}
use Rattle.reading.specs.File.{Outcome, accepted}
use Rattle.synthesis.specs.Monitor.{mark, most, Answer, lookup}
use Rattle.synthesis.specs.Table.{WellFormedTable, filled}
use Rattle.synthesis.specs.Merging.{up_to, merged, rounds, firsts}
use Rattle.synthesis.specs.Building.{Synthesis, synthesis_of, filling_of, counted_of, table_left, numbered_answer, classes_of, shortened, short_of}
use Rattle.synthesis.specs.Arrays.{AreClasses}
use Rattle.synthesis.specs.Numbering.{listed, AreNumbered, IsNumberingOf}
use Rattle.synthesis.specs.Plans.{ShortPlanned}
use Rattle.synthesis.specs.declared.renumbering.Numbering.{Numbering}
use Rattle.synthesis.proofs.Tables.FilledTables.{filled_cong}
use Rattle.synthesis.proofs.Tables.WellFormedTables.{lookup_inside}
use Rattle.synthesis.proofs.Tables.SynthesisOutcomes.{short_accepts}
use Rattle.synthesis.proofs.Tables.SynthesisOutcomes.{filling_by_count, filling_accepts}
use Rattle.synthesis.proofs.Tables.Built.{accepted_well_formed, built_numbers}
use Rattle.synthesis.proofs.Quotients.Together.{rounds_length}
use Rattle.synthesis.proofs.Quotients.RoundsAgree.{rounds_cong}
use Rattle.synthesis.proofs.Quotients.Settled.{Inside}
use Rattle.synthesis.proofs.Quotients.Refinement.{settled}
use Rattle.synthesis.proofs.Quotients.Firsts.{first_at}
use Rattle.synthesis.proofs.Functions.NumberingClasses.{numbered_front}

-- ---- the classes of a long table

module _ {n : ℕ} {long : List ℕ} (wf : WellFormedTable most mark n long) where
  long_inside : Inside 256 (lookup 256 mark long) n
  long_inside k c j h b = lookup_inside wf k c j h

  long_classes : AreClasses n (rounds 256 (lookup 256 mark long) n n)
  long_classes = (settled 256 (lookup 256 mark long) n long_inside).are_classes

  -- the classes at first, which are all 0, in the front of an array
  abbrev at_first : List ℕ
  at_first = take n (replicate most 0)

  at_first-length : length at_first ≡ n
  at_first-length = ap length (take-replicate n most 0 wf.few) ∙ length-replicate n 0

  -- what merging needs
  pub long_merges : WellFormedTable most mark (length at_first) long × (length at_first ≡ length at_first) × (at_first ≡ replicate (length at_first) 0)
  long_merges = (
    subst (λ (k : ℕ). WellFormedTable most mark k long) (sym at_first-length) wf,
    refl,
    take-replicate n most 0 wf.few ∙ ap (λ (k : ℕ). replicate k 0) (sym at_first-length),
  )

  -- and what it gives
  module _ (after : List ℕ) (is : after ≡ rounds 256 (lookup 256 mark long) (length at_first) (length at_first)) where
    pub long_merged : after ≡ rounds 256 (lookup 256 mark long) n n
    long_merged = is ∙ ap (λ (k : ℕ). rounds 256 (lookup 256 mark long) k k) at_first-length

    pub merged_length : length after ≡ n
    merged_length = ap length long_merged ∙ rounds_length 256 (lookup 256 mark long) n n

    pub merged_classes : AreClasses n after
    merged_classes = rw long_merged long_classes

-- ---- a long table of the rule

module _ (s : List ℕ) (y : Synthesis) (is : synthesis_of most s ≡ accepted y) (scratch long : List ℕ)
    (room : 256 * length y.equations ≤ length scratch) (Filled-is : long ≡ filled mark y.answer y.equations 256 scratch) where
  fills : filling_of most s (length scratch) ≡ accepted y
  fills = filling_accepts (length scratch) (filling_by_count most s (length scratch)) is room

  -- it is what filling leaves
  long_left : long ≡ table_left most mark s scratch
  long_left = Filled-is ∙ rw fills

  pub long_well_formed : WellFormedTable most mark (length y.equations) long
  long_well_formed = rw long_left (accepted_well_formed most mark s scratch y fills)

  pub long_answers : (k c : ℕ) → k < length y.equations → c < 256 → lookup 256 mark long k c ≡ numbered_answer y k c
  long_answers k c h b = rw long_left (built_numbers most mark s scratch (omega arith) k c b y fills h)

-- ---- the plan from a long table and the numbers of its classes

-- answers that agree with those of the equations, by their numbers, have the same classes
numbered_classes : (y : Synthesis) (n : ℕ) → n ≡ length y.equations → (answer : ℕ → ℕ → Answer ℕ)
    → ((k c : ℕ) → k < n → c < 256 → answer k c ≡ numbered_answer y k c) → rounds 256 answer n n ≡ classes_of y
numbered_classes y n n-is answer agree =
    rounds_cong 256 answer (numbered_answer y) n agree n ∙ ap (λ (k : ℕ). rounds 256 (numbered_answer y) k k) n-is

-- there are as many as the short table has rows
numbered_count : (y : Synthesis) (n : Numbering) → n.equations ≡ length y.equations → IsNumberingOf (classes_of y) n
    → n.count ≡ length (shortened y).equations
unfolding shortened
numbered_count y n n-is numbered = numbered.count_is ∙ ap (λ (k : ℕ). length (firsts (classes_of y) k)) n-is

module _ {o : Outcome Synthesis} {y : Synthesis} (is : o ≡ accepted y) where
  pub short_planned : {n : Numbering} {long : List ℕ} → n.equations ≡ length y.equations → WellFormedTable most mark n.equations long
      → ((k c : ℕ) → k < length y.equations → c < 256 → lookup 256 mark long k c ≡ numbered_answer y k c)
      → IsNumberingOf (rounds 256 (lookup 256 mark long) n.equations n.equations) n → ShortPlanned o long n
  short_planned {n} {long} all wf agree numbered =
      let agree' : (k c : ℕ) → k < n.equations → c < 256 → lookup 256 mark long k c ≡ numbered_answer y k c = λ k c h b. agree k c (omega arith) b in
      record {
        synthesis = y;
        is = is;
        fills = record { all = all; well_formed = wf; answers = agree'; numbered = rw (numbered_classes y n.equations all (lookup 256 mark long) agree') at numbered };
      }

-- ---- what filling from it gives

module _ (s : List ℕ) {n : Numbering} {long : List ℕ} (d : ShortPlanned (synthesis_of most s) long n) where
  pub short_is : short_of most s ≡ accepted (shortened d.synthesis)
  short_is = short_accepts most s d.is

  pub short_count : n.count ≡ length (shortened d.synthesis).equations
  short_count = numbered_count d.synthesis n d.fills.all d.fills.numbered

  pub short_counted : accepted n.count ≡ counted_of (short_of most s)
  short_counted = rw (short_is, short_count)

  pub short_filled : (table after : List ℕ)
      → ((classes : List ℕ) → AreNumbered classes n → after ≡ filled mark (merged classes (lookup 256 mark long)) (listed n) 256 table)
      → after ≡ filled mark (shortened d.synthesis).answer (shortened d.synthesis).equations 256 table
  unfolding shortened
  short_filled table after left =
      let y = d.synthesis in
      let classes = classes_of y in
      let fs : listed n ≡ firsts classes n.equations = d.fills.numbered.firsts_are in
      rw fs at (left classes (numbered_front _ _ _ _ _ d.fills.numbered))
      ∙ filled_cong mark 256 (merged classes (lookup 256 mark long)) (merged classes (numbered_answer y)) (firsts classes n.equations)
      (λ i code h b. ap (up_to classes) (d.fills.answers _ code (first_at classes n.equations i h).below b)) table
      ∙ rw d.fills.all
