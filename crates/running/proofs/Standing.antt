-- A rule on duty stands by its spell: it is in the equation to which its own table leads by the scans kept in the spell, all of which the table keeps. So
-- it drops the next scan exactly where that would violate its rule, and a scan that all keep leaves each standing by a longer spell.
use Prim.Native.Nat.{ℕ, ◌*◌, ◌<◌}
use mathlib.Core.Path.{◌≡◌, refl, ◌∙◌}
use mathlib.Core.Logic.{◌↔◌, inl, inr}
use mathlib.Core.Bool.{true}
use mathlib.Core.List.{List, [], ◌∷◌, ◌++◌, append-nil, append_assoc, map}
use lib.ListN.{take, drop}
use lib.Seq.{append_snoc}
use Rattle.reading.specs.Rule.{All, Bytes}
use Rattle.reading.proofs.Basics.ByteLaws.{bytes_append}
use Rattle.synthesis.specs.Joined.{Some}
use Rattle.synthesis.specs.Violation.{ViolatesRule}
use Rattle.synthesis.specs.Monitor.{Answer, dropped, next, kept, ended, Monitors, lookup}
use Rattle.synthesis.specs.Table.{WellFormedTable}
use Rattle.synthesis.proofs.Monitors.Runs.{run_induction, kept_last, ended_last}
use Rattle.synthesis.proofs.Monitors.MonitorLaws.{drops_violations, kept_safe}
use Rattle.synthesis.proofs.Tables.WellFormedTables.{lookup_inside, same_row, same_rows_well_formed}
use Rattle.running.specs.Running.{start, moved}
use Rattle.running.specs.Duty.{own_answer, moved_to, moved_by, together, fits_at, at_start}
use Rattle.running.specs.Spells.{Coming, Spell, begun, longer}
use Rattle.running.specs.declared.OnDuty.{OnDuty}
use Rattle.running.proofs.Tables.{fits_well_formed, well_formed_fits}
use Rattle.running.proofs.TogetherLaws.{OwnDrop, together_next, moved_by_lem}
use Rattle.running.proofs.Alongside.{Along, none, one}

-- ---- a rule and its spell

-- the same number, base and count
pub record Alike (d : OnDuty) (s : Spell) : Type 0 where
  pub number : d.number ≡ s.number
  pub base : d.base ≡ s.base
  pub count : d.count ≡ s.count

pub record Stands (limit mark : ℕ) (d : OnDuty) (s : Spell) : Type 0 where
  pub alike : Alike d s
  pub table : WellFormedTable limit mark s.count s.table
  pub monitors : Monitors s.rule (lookup 256 mark s.table) 0
  pub bytes : Bytes s.kept
  pub whole : kept (lookup 256 mark s.table) 0 s.kept ≡ s.kept
  pub ends : ended (lookup 256 mark s.table) 0 s.kept ≡ d.equation
  pub inside : d.equation < s.count

-- a spell's rows are lent
abbrev pub Lent : (tables : List ℕ) → Spell → Type 0
Lent tables s = take (256 * s.count) (drop s.base tables) ≡ take (256 * s.count) s.table

-- a rule that comes on
pub stands_first : (limit mark : ℕ) (x : Coming) → Monitors x.rule (lookup 256 mark (drop x.base x.tables)) 0
    → fits_at limit mark x.tables (at_start x.number x.base x.count) ≡ true
    → Stands limit mark (at_start x.number x.base x.count) (begun x)
stands_first limit mark x monitors fit =
    let well = fits_well_formed limit mark (drop x.base x.tables) x.count (moved start 0) fit in
    record {
      alike = record { number = refl; base = refl; count = refl };
      table = well.0;
      monitors = monitors;
      bytes = tt;
      whole = refl;
      ends = refl;
      inside = well.1;
    }

module _ {limit mark : ℕ} {d : OnDuty} {s : Spell} (h : Stands limit mark d s) where
  pub stands_safe : ViolatesRule s.rule s.kept → ⊥
  stands_safe = rw h.whole at (kept_safe s.rule (lookup 256 mark s.table) 0 h.monitors s.kept h.bytes)

  module _ (tables : List ℕ) (lent : Lent tables s) where
    -- its own answer is that of the table with which it came on
    own_answer_lem : (c : ℕ) → own_answer mark tables c d ≡ lookup 256 mark s.table (ended (lookup 256 mark s.table) 0 s.kept) c
    own_answer_lem c = rw (h.alike.base, same_row h.table (drop s.base tables) lent d.equation h.inside, h.ends)

    pub stands_drops : (c : ℕ) → c < 256 → (own_answer mark tables c d ≡ dropped) ↔ ViolatesRule s.rule (s.kept ++ (c ∷ []))
    stands_drops c b =
        rw (own_answer_lem c)
        (rw h.whole at (drops_violations s.rule (lookup 256 mark s.table) 0 h.monitors s.kept c h.bytes b))

    pub stands_next : (c e : ℕ) → c < 256 → own_answer mark tables c d ≡ next e → Stands limit mark (moved_to d e) (longer (c ∷ []) s)
    stands_next c e b q =
        let L = lookup 256 mark s.table in
        let answer : L (ended L 0 s.kept) c ≡ next e = rw (own_answer_lem c) at q in
        record {
          alike = record { number = h.alike.number; base = h.alike.base; count = h.alike.count };
          table = h.table;
          monitors = h.monitors;
          bytes = bytes_append s.kept (c ∷ []) h.bytes (b, tt);
          whole = kept_last L 0 s.kept c answer ∙ rw h.whole;
          ends = ended_last L 0 s.kept c answer;
          inside = lookup_inside h.table d.equation c e h.inside (rw (← h.ends) answer);
        }

    pub stands_fit : fits_at limit mark tables d ≡ true
    stands_fit =
        rw (h.alike.base, h.alike.count)
        (well_formed_fits limit mark (drop s.base tables) s.count (moved start d.equation)
        (same_rows_well_formed h.table (drop s.base tables) lent) h.inside)

-- ---- all of them

module _ (mark : ℕ) (tables : List ℕ) where
  -- a scan that each keeps
  moved_along : (c : ℕ) {R S : OnDuty → Spell → Type 0}
      → ((d : OnDuty) (s : Spell) (e : ℕ) → R d s → own_answer mark tables c d ≡ next e → S (moved_to d e) s) → {ds : List OnDuty} {ss : List Spell}
      → Along R ds ss → (Some (OwnDrop mark tables c) ds → ⊥) → Along S (map (moved_by mark tables c) ds) ss
  moved_along c step none keeps = none
  moved_along c {R} {S} step (one {x = d} {y = s} {xs = ds} {ys = ss} h rest) keeps =
      on (own_answer mark tables c d) refl (moved_along c step rest (λ l. keeps (inr l)))
    where
      on : (a : Answer ℕ) → own_answer mark tables c d ≡ a → Along S (map (moved_by mark tables c) ds) ss
          → Along S (map (moved_by mark tables c) (d ∷ ds)) (s ∷ ss)
      on dropped q more = absurd (keeps (inl q))
      on (next e) q more = one {x = moved_by mark tables c d} {y = s} (rw (moved_by_lem mark tables c d e q) (step d s e h q)) more

  -- What each kept scan leaves true of every rule and its spell, a run does.
  pub run_along : (Code : ℕ → Type 0) (R : OnDuty → Spell → Type 0)
      → ((d : OnDuty) (s : Spell) (c e : ℕ) → Code c → R d s → own_answer mark tables c d ≡ next e → R (moved_to d e) (longer (c ∷ []) s))
      → (ds : List OnDuty) (w : List ℕ) → All Code w → (ss : List Spell) → Along R ds ss
      → Along (λ d s. R d (longer (kept (together mark tables) ds w) s)) (ended (together mark tables) ds w) ss
  run_along Code R step ds w codes ss h =
      run_induction (together mark tables)
      (λ ds w. All Code w → (u : List ℕ) → Along (λ d s. R d (longer u s)) ds ss
      → Along (λ d s. R d (longer (u ++ kept (together mark tables) ds w) s)) (ended (together mark tables) ds w) ss)
      (λ ds codes u h. rw append-nil h)
      (λ ds c w q ih codes u h. rw q (ih codes.1 u h))
      (λ ds ds' c w q ih codes u h.
      let went = together_next mark tables c ds ds' q in
      let longer-by : Along (λ d s. R d (longer (u ++ (c ∷ [])) s)) ds' ss =
      rw went.1 (moved_along c (λ d s e r a. rw append_assoc at (step d (longer u s) c e codes.0 r a)) h went.0) in
      rw (q, ← append_snoc u c (kept (together mark tables) ds' w)) (ih codes.1 (u ++ (c ∷ [])) longer-by))
      ds w codes [] (simp append-nil h)

-- So the rules that are lent their rows stand by the longer spells.
pub run_stands : {limit mark : ℕ} (tables : List ℕ) {ds : List OnDuty} {ss : List Spell} → Along (λ d s. Stands limit mark d s × Lent tables s) ds ss
    → (w : List ℕ) → Bytes w
    → Along (λ d s. Stands limit mark d (longer (kept (together mark tables) ds w) s) × Lent tables s) (ended (together mark tables) ds w) ss
run_stands {limit} {mark} tables {ds} {ss} h w bytes =
    run_along mark tables (λ c. c < 256) (λ d s. Stands limit mark d s × Lent tables s)
    (λ d s c e b r q. (stands_next r.0 tables r.1 c e b q, r.1)) ds w bytes ss h
