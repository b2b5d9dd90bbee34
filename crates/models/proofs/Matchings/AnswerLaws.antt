-- What matching answers: a law for each way out, and what its calls ask for.
use mathlib.Core.Path.{◌≡◌, refl, sym, ◌∙◌, ap}
use mathlib.Core.Logic.{◌↔◌, inl, inr}
use mathlib.Core.Bool.{Bool, true, false, true≢false}
use mathlib.Core.List.{List}
use Prim.Native.Nat.{ℕ, ◌≤◌}
use native.Mathlib.Omega.{arith}
use Rattle.std.specs.Prelude.{Result, Ok, Err, MatchResult}
use Rattle.reading.specs.Rule.{Bytes}
use Rattle.reading.specs.File.{Outcome, accepted, refused}
use Rattle.reading.specs.Refusals.{number, as_outcome}
use Rattle.reading.specs.declared.refusals.Refusal.{Refusal}
use Rattle.reading.proofs.Basics.Outcomes.{never_refused, refused_same}
use Rattle.models.specs.Phone.{Phone, phone_of}
use Rattle.models.specs.Judging.{stored, model_reading_of}
use Rattle.models.specs.Pairs.{Pair, pairs_of, matching, first_refused, second_refused, pairs_refused, matching_of, MatchedAs, Matches}
use Rattle.models.specs.Pairs.{said, refused_first, refused_second, refused_pairs}
use Rattle.models.specs.Relating.{Relates, RelatedAs, MatchedBy}
use Rattle.models.specs.declared.Step.{Step}
use Rattle.models.specs.declared.MatchError.{MatchError}
use Rattle.models.specs.declared.PhoneModel.{PhoneModel}
use Rattle.models.specs.declared.pairing.Relation.{Relation}
use Rattle.models.proofs.Files.ReadModels.{ModelRead, model_read, model_unread, steps_are}
use Rattle.models.proofs.Matchings.Bisimulations.{matched_matches}

-- ---- what is matched

module _ (f g l : List ℕ) where
  pub matching_first : {number place : ℕ} → phone_of f ≡ refused number place → matching_of f g l ≡ first_refused number place
  unfolding matching_of
  matching_first e = rw e

  module _ {a : Phone} (one : phone_of f ≡ accepted a) where
    pub matching_second : {number place : ℕ} → phone_of g ≡ refused number place → matching_of f g l ≡ second_refused number place
    unfolding matching_of
    matching_second e = rw (one, e)

    module _ {b : Phone} (other : phone_of g ≡ accepted b) where
      pub matching_pairs : {number place : ℕ} → pairs_of l a.states b.states ≡ refused number place → matching_of f g l ≡ pairs_refused number place
      unfolding matching_of
      matching_pairs e = rw (one, other, e)

      pub matching_accepts : {ps : List Pair} → pairs_of l a.states b.states ≡ accepted ps → matching_of f g l ≡ matching a b ps
      unfolding matching_of
      matching_accepts e = rw (one, other, e)

-- ---- what a result was before its refusal was mapped

pub mapped_ok : {A : Type 0} (r : Result A Refusal) {x : A} → MatchResult r (λ y. ◌≡◌ {A = Result A MatchError} (Ok x) (Ok y)) (λ e. ⊥) → r ≡ Ok x
mapped_ok (Ok y) same = cc
mapped_ok (Err e) never = absurd never

pub mapped_err : {A : Type 0} (r : Result A Refusal) (make : Refusal → MatchError) {d : MatchError}
    → MatchResult r (λ y. ◌≡◌ {A = Result A MatchError} (Err d) (Ok y)) (λ e. d ≡ make e) → (e : Refusal) × (r ≡ Err e) × (d ≡ make e)
mapped_err (Ok y) make same = let z : ◌≡◌ {A = ℕ} 0 1 = cc in absurd (omega arith)
mapped_err (Err e) make is = (e, refl, is)

-- the model of a file that was read
pub read_mapped : {f : List ℕ} (read : Result PhoneModel Refusal) → as_outcome read ≡ model_reading_of (phone_of f) → Bytes f
    → {model : PhoneModel} → MatchResult read (λ y. ◌≡◌ {A = Result PhoneModel MatchError} (Ok model) (Ok y)) (λ e. ⊥) → ModelRead f model
read_mapped {f} read tells bytes {model} cases = model_read f bytes (rw (mapped_ok read cases) at tells)

-- ---- the ways out

-- the states of a model that was read
pub states_few : {f : List ℕ} {model : PhoneModel} → ModelRead f model → model.states ≤ 64
states_few m = omega (arith, ap (λ (x : PhoneModel). x.states) m.has.is_stored, m.has.within_limits.well_formed.few_states)

module _ (f g l : List ℕ) where
  pub answers_first : {number place : ℕ} → refused number place ≡ model_reading_of (phone_of f)
      → MatchedAs (matching_of f g l) (refused_first number place)
  answers_first read = rw (matching_first f g l (model_unread f read)) refl

  module _ {one : PhoneModel} (m : ModelRead f one) where
    pub answers_second : {number place : ℕ} → refused number place ≡ model_reading_of (phone_of g)
        → MatchedAs (matching_of f g l) (refused_second number place)
    answers_second read = rw (matching_second f g l m.phone_is (model_unread g read)) refl

    module _ {other : PhoneModel} (n : ModelRead g other) where
      -- in terms of the models' own counts
      related_pairs : (result : Result Relation Refusal) → RelatedAs (pairs_of l one.states other.states) result
          → RelatedAs (pairs_of l m.has.phone.states n.has.phone.states) result
      related_pairs result related =
          rw (← ap (λ (x : PhoneModel). x.states) m.has.is_stored, ← ap (λ (x : PhoneModel). x.states) n.has.is_stored) related

      pub answers_pairs : (e : Refusal) → RelatedAs (pairs_of l one.states other.states) (Err e)
          → MatchedAs (matching_of f g l) (refused_pairs (number e.fault) e.place)
      answers_pairs e related = rw (matching_pairs f g l m.phone_is n.phone_is (on _ refl (related_pairs (Err e) related))) refl
        where
          on : (o : Outcome (List Pair)) → pairs_of l m.has.phone.states n.has.phone.states ≡ o → RelatedAs o (Err e)
              → pairs_of l m.has.phone.states n.has.phone.states ≡ refused (number e.fault) e.place
          on (accepted ps) read (r, accepts, _) = let z : ◌≡◌ {A = ℕ} 0 1 = cc in absurd (omega arith)
          on (refused number' place') read refuses = let (same, same') = refused_same refuses in read ∙ rw (same, same')

      module _ {relation : Relation} (related : RelatedAs (pairs_of l one.states other.states) (Ok relation)) where
        -- the pairs of the list, and that the rows and columns are their relation
        listed : (ps : List Pair) × (pairs_of l m.has.phone.states n.has.phone.states ≡ accepted ps) × Relates ps relation.rows relation.columns
        listed = on _ refl (related_pairs (Ok relation) related)
          where
            on : (o : Outcome (List Pair)) → pairs_of l m.has.phone.states n.has.phone.states ≡ o → RelatedAs o (Ok relation)
                → (ps : List Pair) × (pairs_of l m.has.phone.states n.has.phone.states ≡ accepted ps) × Relates ps relation.rows relation.columns
            on (accepted ps) read (r, accepts, relates) = let same : relation ≡ r = cc in (ps, read, rw same relates)
            on (refused number place) read refuses = absurd (never_refused refuses)

        -- the steps of the two models, and what was found of them
        pub answers_said : {steps others : List Step} → ((y : Phone) → one ≡ stored y → steps ≡ y.steps)
            → ((y : Phone) → other ≡ stored y → others ≡ y.steps)
            → (r : Bool) → (r ≡ true) ↔ MatchedBy steps others relation.rows relation.columns → MatchedAs (matching_of f g l) (said r)
        answers_said one_are other_are r matched =
            let (ps, read, relates) = listed in
            let iff = matched_matches m.has.phone n.has.phone relates in
            let same : (r ≡ true) ↔ MatchedBy m.has.phone.steps n.has.phone.steps relation.rows relation.columns =
            rw (steps_are m one_are, steps_are n other_are) at matched in
            rw (matching_accepts f g l m.phone_is n.phone_is read) (on r (λ e. iff.0 (same.0 e)) (λ h. same.1 (iff.1 h)))
          where
            on : {ps : List Pair} (r : Bool) → (r ≡ true → Matches m.has.phone n.has.phone ps) → (Matches m.has.phone n.has.phone ps → r ≡ true)
                → MatchedAs (matching m.has.phone n.has.phone ps) (said r)
            on true finds found = inl (refl, finds refl)
            on false finds found = inr (refl, λ h. true≢false (sym (found h)))
