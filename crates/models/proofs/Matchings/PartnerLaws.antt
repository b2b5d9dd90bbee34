-- The states with a partner step are found step by step: one more step adds at most its source. A row is inside such a set exactly where what they have in common
-- is the row.
use Prim.Native.Nat.{ℕ, ◌+◌, ◌*◌, ◌%◌, ◌^◌, ◌<◌, ◌≤◌}
use Rattle.std.proofs.lemmas.Grind.{common_steps}
use mathlib.Core.Path.{◌≡◌}
use mathlib.Core.Logic.{◌⊎◌, inl, inr, ⊎_elim}
use mathlib.Core.List.{List}
use native.Mathlib.Nat.{lt_of_not-le}
use native.Mathlib.Decide.{dec_le}
use native.Mathlib.Omega.{arith}
use lib.ListN.{length, get_or}
use Rattle.synthesis.specs.NodeSet.{Has, empty_set, singleton, union, intersection}
use Rattle.synthesis.proofs.Unfolding.NodeSetLaws.{has_none, has_common, same_members_same_set}
use Rattle.synthesis.proofs.Unfolding.MemberLaws.{has_singleton_iff, union_iff}
use Rattle.models.specs.Phone.{no_step}
use Rattle.models.specs.Relating.{IsPartner, PartnerStep, Partners, HavePartners}
use Rattle.models.specs.declared.Step.{Step}

-- ---- one step

-- a bit that is shifted to a state of 64
pub shifted : (s : ℕ) → s < 64 → 1 * 2 ^ s % 2 ^ 64 ≡ singleton s
shifted s h = grind (arith, common_steps)

-- ---- the steps so far

pub no_partners : (steps : List Step) (label targets : ℕ) → Partners steps 0 label targets empty_set
no_partners steps label targets = record { is = λ s. (λ h. absurd (has_none s h), λ p. absurd (omega (arith, p.inside))) }

-- A partner is the last of so many steps, or one before it.
module _ (steps : List Step) (n label targets s : ℕ) where
  abbrev LastIsPartner : Type 0
  LastIsPartner = ((get_or steps n no_step).from ≡ s) × ((get_or steps n no_step).label ≡ label) × Has targets (get_or steps n no_step).to

  partner_later : PartnerStep steps n label targets s → PartnerStep steps (n + 1) label targets s
  partner_later p = record { index = p.index; inside = omega (arith, p.inside); from_is = p.from_is; label_is = p.label_is; leads = p.leads }

  partner_last : LastIsPartner → PartnerStep steps (n + 1) label targets s
  partner_last (from, label, leads) = record { index = n; inside = omega arith; from_is = from; label_is = label; leads = leads }

  partner_cases : PartnerStep steps (n + 1) label targets s → PartnerStep steps n label targets s ⊎ LastIsPartner
  partner_cases p = on (dec_le n p.index)
    where
      on : Dec (n ≤ p.index) → PartnerStep steps n label targets s ⊎ LastIsPartner
      on (yes h) = let last : p.index ≡ n = omega (arith, p.inside) in inr (rw (← last) (p.from_is, p.label_is, p.leads))
      on (no h) = inl (record { index = p.index; inside = lt_of_not-le h; from_is = p.from_is; label_is = p.label_is; leads = p.leads })

module _ {steps : List Step} {n label targets states : ℕ} (so_far : Partners steps n label targets states) where
  pub next_partner : IsPartner (get_or steps n no_step) label targets
      → Partners steps (n + 1) label targets (union states (singleton (get_or steps n no_step).from))
  next_partner leads = record {
    is = λ s.
        let last = has_singleton_iff (get_or steps n no_step).from s in
        let members = union_iff states (singleton (get_or steps n no_step).from) s (so_far.is s) last in (
          λ h. ⊎_elim (partner_later steps n label targets s) (λ from. partner_last steps n label targets s (from, leads.0, leads.1)) (members.0 h),
          λ p. members.1 (⊎_elim inl (λ q. inr q.0) (partner_cases steps n label targets s p)),
        );
  }

  pub next_no_partner : (IsPartner (get_or steps n no_step) label targets → ⊥) → Partners steps (n + 1) label targets states
  next_no_partner none = record {
    is = λ s. (
      λ h. partner_later steps n label targets s ((so_far.is s).0 h),
      λ p. ⊎_elim (so_far.is s).1 (λ q. absurd (none (q.1, q.2))) (partner_cases steps n label targets s p),
    );
  }

-- ---- a set inside another

inside_all : (a b : ℕ) → intersection a b ≡ a → (s : ℕ) → Has a s → Has b s
inside_all a b e s h = ((has_common a b s).0 (rw e h)).1

all_inside : (a b : ℕ) → ((s : ℕ) → Has a s → Has b s) → intersection a b ≡ a
all_inside a b h = same_members_same_set _ _ (λ s. (λ x. ((has_common a b s).0 x).0, λ x. (has_common a b s).1 (x, h s x)))

-- ---- each step has partners

module _ (steps others : List Step) (i : ℕ) (rows : List ℕ) {found : ℕ}
    (partners : Partners others (length others) (get_or steps i no_step).label (get_or rows (get_or steps i no_step).to 0) found) where
  abbrev related : ℕ
  related = get_or rows (get_or steps i no_step).from 0

  pub next_has_partners : HavePartners steps i others rows → intersection related found ≡ related → HavePartners steps (i + 1) others rows
  next_has_partners before e j t h r = on (dec_le i j)
    where
      on : Dec (i ≤ j) → PartnerStep others (length others) (get_or steps j no_step).label (get_or rows (get_or steps j no_step).to 0) t
      on (yes y) =
          let last : j ≡ i = omega arith in
          let r' : Has related t = rw last at r in
          rw last ((partners.is t).0 (inside_all related found e t r'))
      on (no earlier) = before j t (lt_of_not-le earlier) r

  pub lacks_partners : i < length steps → (intersection related found ≡ related → ⊥) → HavePartners steps (length steps) others rows → ⊥
  lacks_partners h differ all = differ (all_inside related found (λ t r. (partners.is t).1 (all i t h r)))
