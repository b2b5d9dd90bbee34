-- Which rules are accepted: those that some finite model satisfies, with no more equations than the limit. A rule that the empty list doesn't
-- violate is satisfied by the phone that does nothing, and one that it violates by no model.
use Prim.Native.Nat.{ℕ, ◌*◌, ◌≤◌}
use mathlib.Core.Path.{◌≡◌, refl, sym, ◌∙◌}
use mathlib.Core.Logic.{◌↔◌}
use mathlib.Core.Bool.{Bool, true, false, true≢false}
use mathlib.Core.List.{List, []}
use native.Mathlib.Decide.{dec_le}
use native.Mathlib.Omega.{arith}
use lib.Dec.{ltb}
use lib.ListN.{length}
use Rattle.reading.specs.Rule.{Rule, Bytes}
use Rattle.reading.specs.File.{Outcome, accepted, refuse, rule_of, refused}
use Rattle.reading.proofs.Accepting.Accepted.{accepts_encodings}
use Rattle.synthesis.specs.Violation.{ViolatesRule}
use Rattle.synthesis.specs.Answering.{unsatisfiable}
use Rattle.synthesis.specs.Building.{equations_of, Synthesis, with_equations, synthesis_of, filling_of, counted_of, short_of, short_filling_of}
use Rattle.synthesis.specs.Building.{preview_limit, preview_of, preview_filling_of}
use Rattle.synthesis.specs.Promises.{FillsAsCounted}
use Rattle.synthesis.proofs.Monitors.RuleMonitor.{unsatisfiable_iff}
use Rattle.synthesis.proofs.Tables.SynthesisOutcomes.{synthesis_of_lem, fills_as_counted, short_fills_as_counted}
use Rattle.synthesis.proofs.Tables.Equations.{file_well_formed, answers_count, reaches_equations, refuses_too_many}
use Rattle.synthesis.proofs.Tables.Built.{refuses_violated_by_empty}
use Rattle.synthesis.proofs.Tables.Pages.{preview_within}
use Rattle.synthesis.proofs.Tables.Previews.{preview_fills_as_counted}
use Rattle.synthesis.proofs.Quotients.ShortFillings.{short_refuses_alike, short_counted_long}
use Rattle.enforcement.specs.Model.{Model, Finite, Satisfies}
use Rattle.models.specs.Phone.{Phone, model_of, PhoneWithinLimits}
use Rattle.models.specs.Promises.{Acceptable, AcceptsExactly, ShortAcceptsExactly, FillsWithRoom, FillsExactly, ShortFillsExactly}
use Rattle.models.specs.Promises.{PreviewAcceptsExactly, PreviewFillsExactly, RefusesUnsatisfiable}
use Rattle.enforcement.proofs.QuietModels.{empty_safe, quiet_satisfies}
use Rattle.models.proofs.Phones.PhoneStates.{phones_finite}

-- ---- a rule is satisfiable exactly when the empty list doesn't violate it

-- the phone model with one state and no step
abbrev still_phone : Phone
still_phone = record { states = 1; steps = [] }

abbrev still : Model
still = model_of still_phone

still_within_limits : PhoneWithinLimits still_phone
still_within_limits = record {
  well_formed = record { some_states = omega arith; few_states = omega arith; steps = tt };
  few_steps = omega arith;
}

still_satisfies : (r : Rule) → (ViolatesRule r [] → ⊥) → Satisfies still r
still_satisfies r = (quiet_satisfies still (λ s t a x. absurd (omega (arith, x.inside))) r).1

-- ---- a file that is a rule

-- accepted, where neither of the two checks refuses
unrefused_counted : (y : Synthesis) (b b' : Bool) (o : Outcome Synthesis) → o ≡ refuse b 8 0 (refuse b' 9 0 (accepted y))
    → (counted_of o ≡ refused 8 0 → ⊥) → (counted_of o ≡ refused 9 0 → ⊥) → (n : ℕ) × (counted_of o ≡ accepted n)
unrefused_counted y true b' o e eight nine = absurd (eight (rw e))
unrefused_counted y false true o e eight nine = absurd (nine (rw e))
unrefused_counted y false false o e eight nine = (length y.equations, rw e)

module _ (limit : ℕ) (s : List ℕ) (bytes : Bytes s) where
  unrefused_satisfies : (r : Rule) → rule_of s ≡ accepted r → (counted_of (synthesis_of limit s) ≡ refused 8 0 → ⊥) → Satisfies still r
  unrefused_satisfies r read other = still_satisfies r (λ v. other ((refuses_violated_by_empty limit s bytes r read).1 v))

  -- so some finite model satisfies a rule that isn't refused with 8
  pub unrefused_satisfiable : (r : Rule) → rule_of s ≡ accepted r → (counted_of (synthesis_of limit s) ≡ refused 8 0 → ⊥)
      → (m : Model) × Finite m × Satisfies m r
  unrefused_satisfiable r read other = (still, phones_finite still_phone, unrefused_satisfies r read other)

  pub counted_acceptable : (n : ℕ) → counted_of (synthesis_of limit s) ≡ accepted n → Acceptable limit s
  counted_acceptable n e =
      let counts = answers_count limit s n e in
      let r = counts.rule in
      let stands = (accepts_encodings s bytes r).0 counts.is in
      record {
        rule = r;
        within_limits = stands.0;
        encoded = stands.1;
        equations = equations_of limit r;
        few = omega (arith, counts.count, counts.few);
        closed = (reaches_equations limit s bytes r n counts.is e).closed;
        model = still;
        finite = phones_finite still_phone;
        satisfied = unrefused_satisfies r counts.is (λ refused. let z : ◌≡◌ {A = ℕ} 0 1 = cc in omega arith);
      }

  module _ (r : Rule) (read : rule_of s ≡ accepted r) where
    refused_unsatisfiable : counted_of (synthesis_of limit s) ≡ refused 8 0 → (m : Model) → Satisfies m r → ⊥
    refused_unsatisfiable e m sat = empty_safe m r sat ((refuses_violated_by_empty limit s bytes r read).0 e)

    unsatisfiable_refused : (Satisfies still r → ⊥) → counted_of (synthesis_of limit s) ≡ refused 8 0
    unsatisfiable_refused none = (refuses_violated_by_empty limit s bytes r read).1 (on (unsatisfiable r) refl)
      where
        on : (b : Bool) → unsatisfiable r ≡ b → ViolatesRule r []
        on true q = (unsatisfiable_iff r (file_well_formed s bytes r read)).0 q
        on false q = absurd (none (still_satisfies r (λ v. true≢false (sym ((unsatisfiable_iff r (file_well_formed s bytes r read)).1 v) ∙ q))))

  pub acceptable_counted : Acceptable limit s → (n : ℕ) × (counted_of (synthesis_of limit s) ≡ accepted n)
  acceptable_counted a =
      let r = a.rule in
      let read : rule_of s ≡ accepted r = (accepts_encodings s bytes r).1 (a.within_limits, a.encoded) in
      let eight : counted_of (synthesis_of limit s) ≡ refused 8 0 → ⊥ = λ e. refused_unsatisfiable r read e a.model a.satisfied in
      unrefused_counted (with_equations limit r) (unsatisfiable r) (ltb limit (length (equations_of limit r))) (synthesis_of limit s) (synthesis_of_lem limit s r read)
      eight (λ e. (refuses_too_many limit s r read eight).0 e a.equations a.few a.closed)

-- ---- the promises

pub accepts_exactly : AcceptsExactly
accepts_exactly limit s bytes = (λ (n, e). counted_acceptable limit s bytes n e, acceptable_counted limit s bytes)

pub short_accepts_exactly : ShortAcceptsExactly
short_accepts_exactly limit s bytes =
    let accepts = accepts_exactly limit s bytes in (
      λ (m, e). accepts.0 (short_counted_long limit s m e),
      λ a. let (n, e) = accepts.1 a in let (m, e', some, few) = (short_refuses_alike limit s).counted n e in (m, e'),
    )

-- filling, where counting answers a count exactly for these rules
filled_with_room : (limit : ℕ) (s : List ℕ) (counting filling : Outcome Synthesis) (capacity : ℕ)
    → ((n : ℕ) × (counted_of counting ≡ accepted n)) ↔ Acceptable limit s → FillsAsCounted counting filling capacity
    → FillsWithRoom limit s counting filling capacity
filled_with_room limit s counting filling capacity accepts fills = (
  λ (n, e).
      let counted : counted_of counting ≡ accepted n = rw (← fills.same n e) e in
      (accepts.0 (n, counted), λ m e'. on m e' (dec_le (256 * m) capacity) n e),
  λ (a, room). let (n, e) = accepts.1 a in (n, fills.enough n e (room n e)),
)
  where
    on : (m : ℕ) → counted_of counting ≡ accepted m → Dec (256 * m ≤ capacity) → (n : ℕ) → counted_of filling ≡ accepted n → 256 * m ≤ capacity
    on m e' (yes h) n e = h
    on m e' (no h) n e =
        let short : counted_of filling ≡ refused 10 0 = fills.too_short m e' (omega (arith, h)) in
        absurd (let z : ◌≡◌ {A = ℕ} 0 1 = cc in omega arith)

pub fills_exactly : FillsExactly
fills_exactly limit s capacity bytes =
    filled_with_room limit s (synthesis_of limit s) (filling_of limit s capacity) capacity (accepts_exactly limit s bytes) (fills_as_counted limit s capacity)

pub short_fills_exactly : ShortFillsExactly
short_fills_exactly limit s capacity bytes =
    filled_with_room limit s (short_of limit s) (short_filling_of limit s capacity) capacity (short_accepts_exactly limit s bytes)
    (short_fills_as_counted limit s capacity)

pub preview_accepts_exactly : PreviewAcceptsExactly
preview_accepts_exactly s bytes =
    let accepts = accepts_exactly preview_limit s bytes in (
      λ (n, e). accepts.0 (n, (preview_within s n).0 e),
      λ a. let (n, e) = accepts.1 a in (n, (preview_within s n).1 e),
    )

pub preview_fills_exactly : PreviewFillsExactly
preview_fills_exactly s capacity bytes =
    filled_with_room preview_limit s (preview_of s) (preview_filling_of s capacity) capacity (preview_accepts_exactly s bytes)
    (preview_fills_as_counted s capacity)

pub refuses_unsatisfiable : RefusesUnsatisfiable
refuses_unsatisfiable limit s r bytes read =
    let refused = refused_unsatisfiable limit s bytes r read in
    let refuses = unsatisfiable_refused limit s bytes r read in
    record {
      no_model = (refused, λ none. refuses (none still));
      no_finite = (λ e m finite. refused e m, λ none. refuses (none still (phones_finite still_phone)));
      no_phone = (λ e y within_limits. refused e (model_of y), λ none. refuses (none still_phone still_within_limits));
    }
