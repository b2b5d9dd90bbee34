-- No table with fewer rows drops as the short one. A word of kept codes leads from row 0 to each row of the short table. In a rival that drops alike, the
-- words lead to rows that drop as those of the short table; as no two of these drop alike, no two words lead to one row.
use Prim.Native.Nat.{ℕ, ◌≤◌, ◌<◌}
use mathlib.Core.Path.{◌≡◌, sym, ◌∙◌}
use mathlib.Core.List.{List, []}
use native.Mathlib.Decide.{dec_lt}
use native.Mathlib.Omega.{arith}
use lib.ListN.{length, get_or}
use Rattle.reading.specs.Rule.{Rule, Bytes, All}
use Rattle.synthesis.specs.Monitor.{Answer, ended, lookup}
use Rattle.synthesis.specs.Answering.{first_of, answer_of}
use Rattle.synthesis.specs.Search.{index_of}
use Rattle.synthesis.specs.Merging.{DropAlike}
use Rattle.synthesis.specs.Building.{equations_of, with_equations, FillsShort}
use Rattle.synthesis.specs.ShortPromises.{ShortMerges, ShortIsMinimal, ShortestMonitor}
use Rattle.synthesis.proofs.Monitors.Runs.{run_induction}
use Rattle.synthesis.proofs.Monitors.Renaming.{renamed_runs}
use Rattle.synthesis.proofs.Monitors.DroppingAlike.{alike_after, renamed_alike, monitors_drop_alike}
use Rattle.synthesis.proofs.Numberings.Indices.{Member}
use Rattle.synthesis.proofs.Numberings.Tabulating.{Injective, injective_fits}
use Rattle.synthesis.proofs.Tables.WellFormedTables.{lookup_inside}
use Rattle.synthesis.proofs.Tables.Equations.{first_index, first_member, equations_distinct, equations_reached}
use Rattle.synthesis.proofs.Tables.Built.{fills_count}
use Rattle.synthesis.proofs.Quotients.NumberedAnswers.{numbered_renames}
use Rattle.synthesis.proofs.Quotients.Quotient.{class_member, number_of-first, rows_apart}
use Rattle.synthesis.proofs.Quotients.Firsts.{first_at}
use Rattle.synthesis.proofs.Quotients.Settled.{Inside}
use Rattle.synthesis.proofs.Quotients.ShortTables.{count, classes, numbered, class_firsts, number, count_some, rule_closed, rule_inside, rule_settled, number_zero}
use Rattle.synthesis.proofs.Quotients.ShortTables.{shortens, firsts_few, short_renames, rows_rename}
use Rattle.synthesis.proofs.Quotients.ShortFillings.{short_monitors}

-- ---- rivals of any monitor

-- a run stays among equations that lead to each other alone
ended_inside : (codes : ℕ) (answer : ℕ → ℕ → Answer ℕ) (rows : ℕ) → Inside codes answer rows → (e : ℕ) (w : List ℕ) → e < rows → All (λ c. c < codes) w
    → ended answer e w < rows
ended_inside codes answer rows inside =
    run_induction answer (λ e w. e < rows → All (λ c. c < codes) w → ended answer e w < rows) (λ e h all. h)
    (λ e c w q ih h all. rw q (ih h all.1))
    (λ e e' c w q ih h all. rw q (ih (inside e c e' h all.0 q) all.1))

-- Words lead from row 0 to each of n rows, of which no two drop alike.
pub record Separated (codes : ℕ) (answer : ℕ → ℕ → Answer ℕ) (n : ℕ) : Type 0 where
  pub word : ℕ → List ℕ
  pub fits : (i : ℕ) → i < n → All (λ c. c < codes) (word i)
  pub ends : (i : ℕ) → i < n → ended answer 0 (word i) ≡ i
  pub apart : (i j : ℕ) → i < n → j < n → DropAlike codes answer i answer j → i ≡ j

-- the row of a rival for row i
abbrev pub rival_row : {codes : ℕ} {answer : ℕ → ℕ → Answer ℕ} {n : ℕ} → Separated codes answer n → (rival : ℕ → ℕ → Answer ℕ) → ℕ → ℕ
rival_row separated rival i = ended rival 0 (separated.word i)

-- a row of a rival drops as one row alone
pub rival_apart : {codes : ℕ} {answer : ℕ → ℕ → Answer ℕ} {n : ℕ} → Separated codes answer n → (rival : ℕ → ℕ → Answer ℕ) (i i' j : ℕ) → i < n → i' < n
    → DropAlike codes answer i rival j → DropAlike codes answer i' rival j → i ≡ i'
rival_apart separated rival i i' j h h' one other = separated.apart i i' h h' (λ w all. one w all ∙ sym (other w all))

module _ {codes : ℕ} {answer : ℕ → ℕ → Answer ℕ} {n : ℕ} (separated : Separated codes answer n) (rival : ℕ → ℕ → Answer ℕ)
    (alike : DropAlike codes answer 0 rival 0) where
  pub rival_alike : (i : ℕ) → i < n → DropAlike codes answer i rival (rival_row separated rival i)
  rival_alike i h = rw (separated.ends i h) at (alike_after codes answer rival 0 0 alike (separated.word i) (separated.fits i h))

  pub rival_injective : Injective (rival_row separated rival) n
  rival_injective i j h h' same =
      rival_apart separated rival i j (rival_row separated rival j) h h' (rw same at (rival_alike i h)) (rival_alike j h')

  module _ (rows : ℕ) (inside : Inside codes rival rows) (some : 0 < rows) where
    pub rival_below : (i : ℕ) → i < n → rival_row separated rival i < rows
    rival_below i h = ended_inside codes rival rows inside 0 (separated.word i) some (separated.fits i h)

    no_fewer : n ≤ rows
    no_fewer = injective_fits (rival_row separated rival) n rows rival_injective rival_below

-- ---- the short table

-- a function from what there is for each number below n
choose : {A : Type 0} (P : ℕ → A → Type 0) (n : ℕ) (other : A) → ((i : ℕ) → i < n → (a : A) × P i a)
    → (f : ℕ → A) × ((i : ℕ) → i < n → P i (f i))
choose {A} P n other some = (λ i. pick i (dec_lt i n), λ i h. picked i h (dec_lt i n))
  where
    pick : (i : ℕ) → Dec (i < n) → A
    pick i (yes h) = (some i h).0
    pick i (no h) = other

    picked : (i : ℕ) → i < n → (d : Dec (i < n)) → P i (pick i d)
    picked i h (yes h') = (some i h').1
    picked i h (no none) = absurd (none h)

module _ {limit mark : ℕ} {s table : List ℕ} {r : Rule} {n : ℕ} {short : List ℕ} (b : FillsShort limit mark s table r n short) where
  few : count limit r ≤ limit
  few = (shortens b).counted.few

  -- a word leads to each row
  record LeadsTo (i : ℕ) (w : List ℕ) : Type 0 where
    bytes : Bytes w
    ends : ended (lookup 256 mark short) 0 w ≡ i

  row_reached : (i : ℕ) → i < n → (w : List ℕ) × LeadsTo i w
  row_reached i h =
      let es = equations_of limit r in
      let y = with_equations limit r in
      let below : i < length (class_firsts limit r) = omega (arith, (shortens b).count_is) in
      let k = get_or (class_firsts limit r) i 0 in
      let k_below = (first_at (classes limit r) (count limit r) i below).below in
      let reached = equations_reached limit r k k_below in
      let w = reached.word in
      let numbers = (renamed_runs 256 (λ e. Member e es) (answer_of r) (numbered limit r) (λ e. index_of e es)
      (numbered_renames y (rule_closed limit r few)) (first_of r) w (first_member limit r) reached.codes_of).ends in
      let rows = (renamed_runs 256 (λ k. k < count limit r) (numbered limit r) (lookup 256 mark short) (number limit r) (short_renames b) 0 w
      (count_some limit r) reached.codes_of).ends in
      let at-k : ended (numbered limit r) 0 w ≡ k = rw (first_index limit r, reached.ends, equations_distinct limit r k k_below) at numbers in (
        w,
        record {
          bytes = reached.codes_of;
          ends = rw (number_zero limit r few, at-k, number_of-first (rule_settled limit r few) (rule_inside limit r few) i below) at rows;
        },
      )

  rows_differ : (i j : ℕ) → i < n → j < n → DropAlike 256 (lookup 256 mark short) i (lookup 256 mark short) j → i ≡ j
  rows_differ =
      rw ((shortens b).filled_is, (shortens b).count_is)
      (rows_apart (rule_settled limit r few) (rule_inside limit r few) mark table (shortens b).room (omega (arith, firsts_few (shortens b), b.below)))

  pub separated : Separated 256 (lookup 256 mark short) n
  separated =
      let (word, leads) = choose LeadsTo n [] row_reached in
      record {
        word = word;
        fits = λ i h. (leads i h).bytes;
        ends = λ i h. (leads i h).ends;
        apart = rows_differ;
      }

pub short_merges : ShortMerges
short_merges limit mark s table r n long b table' m short b' =
    let renames = rows_rename b' table long n b in
    let zero : DropAlike 256 (lookup 256 mark long) 0 (lookup 256 mark short) (number limit r 0) =
    renamed_alike 256 (lookup 256 mark long) (lookup 256 mark short) (λ k. k < n) (number limit r) renames 0 (omega (arith, fills_count b, count_some limit r)) in
    record {
      start = rw (number_zero limit r (shortens b').counted.few) at zero;
      each = λ k h. (
        number limit r k,
        omega (arith, class_member (rule_settled limit r (few b')) (rule_inside limit r (few b')) k (omega (arith, fills_count b)), (shortens b').count_is),
        renamed_alike 256 (lookup 256 mark long) (lookup 256 mark short) (λ k. k < n) (number limit r) renames k h,
      );
      apart = rows_differ b';
    }

pub short_is_minimal : ShortIsMinimal
short_is_minimal limit mark s table r n short b rows rival wf alike =
    no_fewer (separated b) (lookup 256 mark rival) alike rows (λ k c j h code. lookup_inside wf k c j h) wf.some

pub shortest_monitor : ShortestMonitor
shortest_monitor limit mark s table r n short b rows rival wf monitors =
    short_is_minimal limit mark s table r n short b rows rival wf
    (monitors_drop_alike r (lookup 256 mark short) 0 (lookup 256 mark rival) 0 (short_monitors limit mark s table r n short b) monitors)
