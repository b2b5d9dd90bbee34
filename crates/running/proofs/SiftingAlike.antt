-- Demand 2 tells the verdicts: whether a scan is dropped goes by the scans kept before it, and these go by the verdicts before. So, from the first scan on,
-- two callers with the same scans have the same verdicts, if the same lists violate their rules; and alike rules are violated by the same lists.
use Prim.Native.Nat.{ℕ, zero, suc, ◌≤◌, ◌<◌}
use mathlib.Core.Path.{◌≡◌, refl, sym, ap, ◌∙◌}
use mathlib.Core.Logic.{◌↔◌, ◌⊎◌, inl, inr}
use mathlib.Core.List.{List, [], ◌∷◌, ◌++◌}
use native.Mathlib.Omega.{arith}
use lib.ListN.{length, get_or, take}
use lib.Seq.{take-suc, take_all}
use Rattle.reading.specs.Rule.{Rule}
use Rattle.synthesis.specs.Violation.{ViolatesRule}
use Rattle.synthesis.specs.Building.{Fills, FillsShort}
use Rattle.synthesis.proofs.EmptyPatterns.AlikeLaws.{violated_alike}
use Rattle.running.specs.Calls.{History, with_verdict, kept_before}
use Rattle.running.specs.Promises.{Sifted, SiftsOn, SiftedAlike, RulesDropAlike}
use Rattle.running.proofs.DemandTwo.{drops_exactly, short_drops_exactly}

-- ---- two callers

module _ (r r' : Rule) (violated : (w : List ℕ) → ViolatesRule r w ↔ ViolatesRule r' w) (h h' : History) (one : Sifted r h) (other : Sifted r' h')
    (scans : h.scans ≡ h'.scans) where
  inside : (i : ℕ) → i < length h.scans → i < length h'.scans
  inside i b = rw (← scans) b

  -- one verdict, where those before are the same
  verdict_same : (i : ℕ) → i < length h.scans → take i h.verdicts ≡ take i h'.verdicts → get_or h.verdicts i 0 ≡ get_or h'.verdicts i 0
  verdict_same i b before = on (one.kept_or_dropped i b) (other.kept_or_dropped i (inside i b))
    where
      list : kept_before h i ++ (get_or h.scans i 0 ∷ []) ≡ kept_before h' i ++ (get_or h'.scans i 0 ∷ [])
      list = rw (before, scans)

      dropped : (get_or h.verdicts i 0 ≡ 1) ↔ (get_or h'.verdicts i 0 ≡ 1)
      dropped =
          let here = one.drops i b in
          let there = other.drops i (inside i b) in
          let same = violated (kept_before h i ++ (get_or h.scans i 0 ∷ [])) in
          (λ e. there.1 (rw list at (same.0 (here.0 e))), λ e. here.1 (same.1 (rw (← list) at (there.0 e))))

      on : (get_or h.verdicts i 0 ≡ 0) ⊎ (get_or h.verdicts i 0 ≡ 1) → (get_or h'.verdicts i 0 ≡ 0) ⊎ (get_or h'.verdicts i 0 ≡ 1)
          → get_or h.verdicts i 0 ≡ get_or h'.verdicts i 0
      on (inl z) (inl z') = z ∙ sym z'
      on (inl z) (inr d') = dropped.1 d' ∙ sym d'
      on (inr d) v' = d ∙ sym (dropped.0 d)

  fronts_same : (i : ℕ) → i ≤ length h.scans → take i h.verdicts ≡ take i h'.verdicts
  fronts_same zero b = refl
  fronts_same (suc i) b =
      let before = fronts_same i (omega arith) in
      rw (
        take-suc h.verdicts i 0 (omega (arith, one.one_each)),
        take-suc h'.verdicts i 0 (omega (arith, other.one_each, inside i (omega arith))),
        before,
        verdict_same i (omega arith) before,
      )

  verdicts_same : h.verdicts ≡ h'.verdicts
  verdicts_same =
      let front = fronts_same (length h.scans) (omega arith) in
      sym (take_all (length h.scans) h.verdicts (omega (arith, one.one_each)))
      ∙ front
      ∙ take_all (length h.scans) h'.verdicts (omega (arith, other.one_each, ap length scans))

pub sifted_alike : SiftedAlike
sifted_alike r r' violated h h' one other scans =
    let verdicts = verdicts_same r r' violated h h' one other scans in
    let kept : with_verdict 0 h.verdicts h.scans ≡ with_verdict 0 h'.verdicts h'.scans = rw (verdicts, scans) in
    record { verdicts = verdicts; kept = one.kept ∙ kept ∙ sym other.kept }

-- ---- filled tables

pub filled_sifts : (limit mark : ℕ) (s table : List ℕ) (r : Rule) (n : ℕ) (left : List ℕ)
    → Fills limit mark s table r n left ⊎ FillsShort limit mark s table r n left → SiftsOn limit mark r n left
filled_sifts limit mark s table r n left (inl fills) = drops_exactly limit mark s table r n left fills
filled_sifts limit mark s table r n left (inr fills) = short_drops_exactly limit mark s table r n left fills

pub rules_drop_alike : RulesDropAlike
rules_drop_alike limit mark s table r n left filled limit' mark' s' table' r' n' left' filled' alike h calls h' calls' =
    sifted_alike r r' (violated_alike r r' alike) h h' (filled_sifts limit mark s table r n left filled h calls)
    (filled_sifts limit' mark' s' table' r' n' left' filled' h' calls')
