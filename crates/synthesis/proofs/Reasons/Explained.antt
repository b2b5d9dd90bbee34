-- What is said of a scan is as promised. The scans before it are followed: at the first that is dropped the rule is violated first; where none is, the
-- places of these scans with the one that is asked for are the ff nodes that it opens, and the lowest of them is said. Each answer excludes the others.
use Prim.Native.Nat.{ℕ, suc, ◌+◌}
use mathlib.Core.Path.{◌≡◌, refl, sym, ◌∙◌, ap, subst}
use mathlib.Core.Logic.{◌↔◌, inl, inr}
use mathlib.Core.Bool.{false, true≢false}
use mathlib.Core.List.{List, [], ◌∷◌, ◌++◌}
use native.Mathlib.Omega.{arith}
use lib.ListN.{length, take}
use Rattle.reading.specs.Rule.{WellFormed, Rule, RuleWithinLimits}
use Rattle.reading.specs.File.{accepted, rule_of, Outcome, refused}
use Rattle.reading.proofs.Basics.Outcomes.{accepted_is}
use Rattle.reading.proofs.Accepting.Accepted.{accepts_encodings}
use Rattle.reading.proofs.Numbering.NodeLaws.{node_fits}
use Rattle.synthesis.specs.Violation.{ViolatesRule}
use Rattle.synthesis.specs.Monitor.{ended, Suppresses}
use Rattle.synthesis.specs.Opening.{OpensToFalsity}
use Rattle.synthesis.specs.Answering.{first_of, answer_of, unsatisfiable}
use Rattle.synthesis.specs.Building.{synthesis_of, counted_of}
use Rattle.synthesis.specs.Reason.{ViolatesAt, LowestPlace, FirstViolated, OpensFalsity, LowestOpened}
use Rattle.synthesis.specs.Reason.{lowest_reason, opened_falsities, opened_after, explanation_of, reason_of}
use Rattle.synthesis.specs.ReasonPromises.{Explained, ReasonsExactly}
use Rattle.synthesis.proofs.Monitors.RuleMonitor.{unsatisfiable_opens, violated_iff_suppressed}
use Rattle.synthesis.proofs.Reasons.Fronts.{extended, first_violated_unique, first_violates}
use Rattle.synthesis.proofs.Reasons.Alone.{violates_somewhere}
use Rattle.synthesis.proofs.Reasons.OpenedPlaces.{places_opened}
use Rattle.synthesis.proofs.Reasons.LowestNodes.{least_map, least_unique, said_of_opened}
use Rattle.synthesis.proofs.Reasons.Following.{Follows, all_kept, first_dropped, follows}
use Rattle.synthesis.proofs.Tables.SynthesisOutcomes.{synthesis_accepts, counted_accepts, counted_refuses, accepts_as}
use Rattle.std.specs.Prelude.{Option, Some, None}

-- ---- answers told apart

refused_same : {i j : ℕ} {reason : Outcome (Option ℕ)} → reason ≡ refused 17 i → reason ≡ refused 17 j → i ≡ j
refused_same e e' = cc

node_same : {m n : ℕ} {reason : Outcome (Option ℕ)} → reason ≡ accepted (Some m) → reason ≡ accepted (Some n) → m ≡ n
node_same e e' = cc

kept_not_refused : {i : ℕ} {reason : Outcome (Option ℕ)} → reason ≡ accepted None → reason ≡ refused 17 i → ⊥
kept_not_refused e e' = let z : ◌≡◌ {A = ℕ} 0 1 = cc in omega arith

kept_not_node : {m : ℕ} {reason : Outcome (Option ℕ)} → reason ≡ accepted None → reason ≡ accepted (Some m) → ⊥
kept_not_node e e' = let z : ◌≡◌ {A = ℕ} 0 1 = cc in omega arith

node_not_refused : {m i : ℕ} {reason : Outcome (Option ℕ)} → reason ≡ accepted (Some m) → reason ≡ refused 17 i → ⊥
node_not_refused e e' = let z : ◌≡◌ {A = ℕ} 0 1 = cc in omega arith

-- ---- the three answers

module _ (r : Rule) (w : List ℕ) (c : ℕ) where
  abbrev with_scan : List ℕ
  with_scan = w ++ (c ∷ [])

  -- the equation to which the list leads
  abbrev ended_in : ℕ
  ended_in = ended (answer_of r) (first_of r) w

  -- what is known of each
  data Said (reason : Outcome (Option ℕ)) : Type 0 where
    unfit : (i : ℕ) → FirstViolated r w i → reason ≡ refused 17 i → Said reason
    keeps : (ViolatesRule r with_scan → ⊥) → ((m : ℕ) → OpensFalsity r ended_in c m → ⊥) → reason ≡ accepted None → Said reason
    drops : (m : ℕ) → (ViolatesRule r w → ⊥) → ViolatesRule r with_scan → LowestPlace r with_scan m → LowestOpened r ended_in c m
        → reason ≡ accepted (Some m) → Said reason

  scans_violate : ViolatesRule r w → ViolatesRule r with_scan
  scans_violate = extended r w (c ∷ [])

  -- so each is said exactly where that holds
  said_explained : WellFormed (length r.patterns) [] r.formula → (reason : Outcome (Option ℕ)) → Said reason → Explained r w c reason
  said_explained wf reason (unfit i first is) =
      let violated = first_violates r w i first in
      record {
        unfit = λ j. (
          λ q. rw (← (refused_same is q)) first,
          λ first'. is ∙ ap (refused 17) (first_violated_unique r w i j first first'),
        );
        kept = (λ q. absurd (kept_not_refused q is), λ none. absurd (none (scans_violate violated)));
        node = λ m. (λ q. absurd (node_not_refused q is), λ (none, low). absurd (none violated));
        opened = λ m. (λ q. absurd (node_not_refused q is), λ (none, low). absurd (none violated));
        inside = λ m q. absurd (node_not_refused q is);
        only = inr (inr (i, is));
      }
  said_explained wf reason (keeps none nothing is) = record {
    unfit = λ i. (λ q. absurd (kept_not_refused is q), λ first. absurd (none (scans_violate (first_violates r w i first))));
    kept = (λ q. none, λ none'. is);
    node = λ m. (λ q. absurd (kept_not_node is q), λ (safe, low). absurd (none (((violates_somewhere r wf).somewhere with_scan).1 (m, low.holds))));
    opened = λ m. (λ q. absurd (kept_not_node is q), λ (safe, low). absurd (nothing m low.holds));
    inside = λ m q. absurd (kept_not_node is q);
    only = inl is;
  }
  said_explained wf reason (drops m safe violated low opened is) = record {
    unfit = λ i. (λ q. absurd (node_not_refused is q), λ first. absurd (safe (first_violates r w i first)));
    kept = (λ q. absurd (kept_not_node q is), λ none. absurd (none violated));
    node = λ n. (λ q. rw (← (node_same is q)) (safe, low), λ (safe', low'). is ∙ ap (λ (k : ℕ). accepted (Some k)) (least_unique low low'));
    opened = λ n. (λ q. rw (← (node_same is q)) (safe, opened), λ (safe', low'). is ∙ ap (λ (k : ℕ). accepted (Some k)) (least_unique opened low'));
    inside = λ n q. omega (arith, node_same is q, node_fits opened.holds.1.1);
    only = inr (inl (m, is));
  }

  -- ---- what is computed

  module _ (within : RuleWithinLimits r) (satisfiable : unsatisfiable r ≡ false) where
    wf : WellFormed (length r.patterns) [] r.formula
    wf = within.well_formed.formula

    unopened : OpensToFalsity r.formula 0 → ⊥
    unopened o = true≢false (sym ((unsatisfiable_opens r wf).1 o) ∙ satisfiable)

    suppressed : (v : List ℕ) → ViolatesRule r v ↔ Suppresses (answer_of r) (first_of r) v
    suppressed = violated_iff_suppressed r wf satisfiable

    -- where all scans are kept, by what the scan opens
    said_kept : (Suppresses (answer_of r) (first_of r) w → ⊥) → Said (accepted (lowest_reason (opened_falsities r ended_in c)))
    said_kept none =
        said_of_opened r within ended_in c (λ o. Said (accepted o))
        (λ nothing. keeps (λ v. let (m, a) = somewhere.0 v in nothing m ((places m).0 a)) nothing refl)
        (λ m low.
        let place = least_map (λ n. ((places n).1, (places n).0)) low in
        drops m (λ v. none ((suppressed w).0 v)) (somewhere.1 (m, place.holds)) place low refl)
      where
        somewhere : ViolatesRule r with_scan ↔ ((m : ℕ) × ViolatesAt r 0 with_scan m)
        somewhere = (violates_somewhere r wf).somewhere with_scan

        places : (m : ℕ) → ViolatesAt r 0 with_scan m ↔ OpensFalsity r ended_in c m
        places = places_opened r wf unopened w none c

    said : Said (reason_of (opened_after r w c))
    said = on (follows (answer_of r) w (first_of r) 0)
      where
        on : Follows (answer_of r) (first_of r) 0 w → Said (reason_of (opened_after r w c))
        on (all_kept none o) = rw o (said_kept none)
        on (first_dropped j h none s o) =
            let start : 0 + j ≡ j = omega arith in
            unfit j (record { inside = h; before = λ v. none ((suppressed (take j w)).0 v); violated = (suppressed (take (suc j) w)).1 s }) (rw (o, start))

    pub rule_explained : Explained r w c (reason_of (opened_after r w c))
    rule_explained = said_explained wf (reason_of (opened_after r w c)) said

-- ---- a rule file that is counted

module _ (limit : ℕ) (s : List ℕ) (r : Rule) (n : ℕ) (read : rule_of s ≡ accepted r) (counted : counted_of (synthesis_of limit s) ≡ accepted n) where
  pub counted_satisfiable : unsatisfiable r ≡ false
  counted_satisfiable =
      let (y, is, count) = counted_accepts (synthesis_of limit s) n counted in
      synthesis_accepts limit s (λ y. unsatisfiable r ≡ false) (λ r' read' h few. rw (accepted_is (sym read ∙ read')) h) y is

  pub counted_explanation : (w : List ℕ) (c : ℕ) → explanation_of limit s w c ≡ opened_after r w c
  unfolding explanation_of
  counted_explanation w c =
      let (y, is, count) = counted_accepts (synthesis_of limit s) n counted in
      rw (is, accepts_as limit s r read y is)

-- ---- the promise

pub reasons_exactly : ReasonsExactly
unfolding explanation_of
reasons_exactly limit s bytes w c = record {
  refused = λ number place e. rw (counted_refuses (synthesis_of limit s) number place e);
  explained = λ r n read e.
      subst (λ o. Explained r w c (reason_of o)) (sym (counted_explanation limit s r n read e w c))
      (rule_explained r w c ((accepts_encodings s bytes r).0 read).0 (counted_satisfiable limit s r n read e));
}
