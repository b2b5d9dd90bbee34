-- Rules between whose comings no scan was kept, and who stay on duty alone, have one stream: the same was kept in all their spells. So each run drops
-- exactly what would violate one of them after it, which is what would violate their join.
use Prim.Native.Nat.{ℕ, ◌≤◌}
use mathlib.Core.Path.{◌≡◌, sym, subst}
use mathlib.Core.Logic.{◌↔◌, inr}
use mathlib.Core.List.{List, [], ◌∷◌, ◌++◌, map}
use native.Mathlib.Omega.{arith}
use lib.ListN.{length, get_or, take, length-append}
use lib.Seq.{drop-length, drop-append-le}
use Rattle.reading.specs.Rule.{Rule, All, WellFormedRule, Bytes}
use Rattle.synthesis.specs.Violation.{ViolatesRule}
use Rattle.synthesis.specs.Joined.{joined, Some}
use Rattle.synthesis.specs.Monitor.{kept, verdicts}
use Rattle.synthesis.proofs.Joins.JoinLaws.{join_violates}
use Rattle.running.specs.Calls.{History, no_calls, with_verdict}
use Rattle.running.specs.Duty.{on_duty, together}
use Rattle.running.specs.Spells.{DutyCall, Spell, longer, Desk, new_desk, after, OrderlyOrRefused, LendsRows, Quiet}
use Rattle.running.specs.Promises.{Sifted}
use Rattle.running.specs.SpellPromises.{since, JoinSifts, JoinsAsOne, JoinsHowever}
use Rattle.running.proofs.ListTests.{none_has}
use Rattle.running.proofs.SiftingAlike.{sifted_alike, filled_sifts}
use Rattle.running.proofs.Alongside.{Along, along_some, along_change, along_with, along_mapped}
use Rattle.running.proofs.DutyDrops.{run_drops_by_spells}
use Rattle.running.proofs.Days.{ran_on, Kept, kept_after, fit_not_refused}
use Rattle.running.proofs.SpellDays.{Standing, standing_safe, run_standing, standing_after}
use Rattle.running.proofs.SiftedMore.{sifted_none, with_run_of, sifted_more}

-- a rule's spell, in which this was kept
abbrev KeptIn : List ℕ → Rule → Spell → Type 0
KeptIn u q s = (s.rule ≡ q) × (s.kept ≡ u)

-- the spells of a desk are those of the rules, with what a history kept
abbrev SpellsKept : Rule → List Rule → Desk → History → Type 0
SpellsKept r rs desk h = Along (KeptIn h.kept) (r ∷ rs) desk.spells

-- How a desk stands to what it was at the join.
record Joint (limit mark : ℕ) (r : Rule) (rs : List Rule) (before desk : Desk) : Type 0 where
  standing : Standing limit mark desk
  more_scans : length before.scans ≤ length desk.scans
  more_kept : length before.kept ≤ length desk.kept
  more_verdicts : length before.verdicts ≤ length desk.verdicts
  spells : SpellsKept r rs desk (since before desk)
  sifted : Sifted (joined r rs) (since before desk)

none_kept_in : (r : Rule) (rs : List Rule) (ss : List Spell) → map (λ s. s.rule) ss ≡ r ∷ rs → All (λ s. s.kept ≡ []) ss
    → Along (KeptIn []) (r ∷ rs) ss
none_kept_in r rs ss rules none_kept = rw rules at (along_with (along_mapped (λ s. s.rule) ss) none_kept)

since_run : (mark : ℕ) (before desk : Desk) (call : DutyCall) → length before.scans ≤ length desk.scans
    → length before.kept ≤ length desk.kept → length before.verdicts ≤ length desk.verdicts
    → since before (ran_on mark desk call) ≡ with_run_of (together mark call.tables) (on_duty desk.duty) (since before desk) call.scans
since_run mark before desk call s k v =
    let T = together mark call.tables in
    let ds = on_duty desk.duty in
    rw (
      drop-append-le (length before.scans) desk.scans call.scans s,
      drop-append-le (length before.kept) desk.kept (kept T ds call.scans) k,
      drop-append-le (length before.verdicts) desk.verdicts (verdicts T ds call.scans) v,
    )

module _ (limit mark : ℕ) (r : Rule) (rs : List Rule) (wfs : All WellFormedRule (r ∷ rs)) where
  -- the join is violated where a spell's rule is, whatever comes after what was kept
  joint_violates : (u : List ℕ) (ss : List Spell) → Along (KeptIn u) (r ∷ rs) ss → (more : List ℕ → List ℕ)
      → Some (λ s. ViolatesRule s.rule (more s.kept)) ss ↔ ViolatesRule (joined r rs) (more u)
  joint_violates u ss along more =
      let join = join_violates r rs wfs (more u) in
      let some =
      along_some {P = λ q. ViolatesRule q (more u)} {Q = λ s. ViolatesRule s.rule (more s.kept)}
      (λ q s is. rw (is.0, is.1) (λ v. v, λ v. v)) along in
      (λ v. join.1 (some.1 v), λ v. some.0 (join.0 v))

  joint_safe : (u : List ℕ) (desk : Desk) → Standing limit mark desk → Along (KeptIn u) (r ∷ rs) desk.spells → ViolatesRule (joined r rs) u → ⊥
  joint_safe u desk standing along v =
      none_has (λ s. ViolatesRule s.rule s.kept) desk.spells (standing_safe standing) ((joint_violates u desk.spells along (λ l. l)).1 v)

  module _ (before : Desk) where
    joint_first : Standing limit mark before → map (λ s. s.rule) before.spells ≡ r ∷ rs → All (λ s. s.kept ≡ []) before.spells
        → Joint limit mark r rs before before
    joint_first standing rules none_kept =
        let is : since before before ≡ no_calls = rw (drop-length before.scans, drop-length before.kept, drop-length before.verdicts) in
        let spells = none_kept_in r rs before.spells rules none_kept in
        record {
          standing = standing;
          more_scans = omega arith;
          more_kept = omega arith;
          more_verdicts = omega arith;
          spells = subst (SpellsKept r rs before) (sym is) spells;
          sifted = subst (Sifted (joined r rs)) (sym is) (sifted_none (joined r rs) (joint_safe [] before standing spells));
        }

    joint_run : (desk : Desk) (call : DutyCall) → Joint limit mark r rs before desk → Bytes call.scans → LendsRows desk call
        → Joint limit mark r rs before (ran_on mark desk call)
    joint_run desk call h bytes lends =
        let T = together mark call.tables in
        let ds = on_duty desk.duty in
        let w = call.scans in
        let had = since before desk in
        let is = since_run mark before desk call h.more_scans h.more_kept h.more_verdicts in
        let now = run_standing desk call h.standing bytes lends in
        let spells : Along (KeptIn (had.kept ++ kept T ds w)) (r ∷ rs) (ran_on mark desk call).spells =
        along_change (longer (kept T ds w)) (λ q s k. (k.0, rw k.1)) h.spells in
        let drops = run_drops_by_spells desk call bytes (along_with h.standing.along lends) in
        record {
          standing = now;
          more_scans = simp length-append (omega arith);
          more_kept = simp length-append (omega arith);
          more_verdicts = simp length-append (omega arith);
          spells = subst (SpellsKept r rs (ran_on mark desk call)) (sym is) spells;
          sifted =
              subst (Sifted (joined r rs)) (sym is)
              (sifted_more (joined r rs) had h.sifted T ds w
              (λ i b.
              let join = joint_violates had.kept desk.spells h.spells
              (λ l. (l ++ with_verdict 0 (take i (verdicts T ds w)) (take i w)) ++ (get_or w i 0 ∷ [])) in
              (λ e. join.0 ((drops i b).0 e), λ v. (drops i b).1 (join.1 v)))
              (joint_safe (had.kept ++ kept T ds w) (ran_on mark desk call) now spells));
        }

    stays_joint : Kept limit mark (λ desk e. OrderlyOrRefused limit mark desk e × Quiet limit mark desk e) (Joint limit mark r rs before)
    stays_joint = record {
      by_run = λ desk call h may fit. let (bytes, lends) = fit_not_refused fit may.0 in joint_run desk call h bytes lends;
      by_coming = λ desk x h may fit well. fit_not_refused fit (inr may.1);
      by_going = λ desk number h may fit. fit_not_refused fit (inr may.1);
    }

pub join_sifts : JoinSifts
join_sifts limit mark es later r rs day =
    let desk = after limit mark new_desk es in
    (kept_after (stays_joint limit mark r rs day.well_formed desk) desk later
    (joint_first limit mark r rs day.well_formed desk (standing_after es day.orderly) day.rules day.none_kept) day.quiet).sifted

pub joins_however : JoinsHowever
joins_however limit mark es later r rs day q says limit' mark' s table n left fills h calls same =
    let desk = after limit mark new_desk es in
    let joins = join_violates r rs day.well_formed in
    sifted_alike (joined r rs) q (λ w. (λ v. (says w).1 ((joins w).0 v), λ v. (joins w).1 ((says w).0 v))) (since desk (after limit mark desk later)) h
    (join_sifts limit mark es later r rs day) (filled_sifts limit' mark' s table q n left fills h calls) (sym same)

pub joins_as_one : (limit mark : ℕ) → JoinsAsOne limit mark
joins_as_one limit mark es later r rs day = joins_however limit mark es later r rs day (joined r rs) (join_violates r rs day.well_formed)
