-- The places at which a list violates a rule are the ff nodes that its last code opens after the codes before it. Opening carries a place along, and a
-- place is reached through what opening gives; so, under a code that an equation keeps, the places of the list at the equation are those of the rest at
-- the next one, by induction on the run.
use Prim.Native.Nat.{ℕ, suc}
use mathlib.Core.Path.{◌≡◌, refl}
use mathlib.Core.Logic.{◌↔◌}
use mathlib.Core.Bool.{true}
use mathlib.Core.List.{List, [], ◌∷◌, ◌++◌}
use lib.ListN.{length}
use Rattle.reading.specs.Rule.{Formula, necessity, WellFormed, Rule}
use Rattle.reading.specs.Nodes.{EnclosingMax, Node}
use Rattle.synthesis.specs.Violation.{covered_by}
use Rattle.synthesis.specs.Monitor.{next, ended, Suppresses, now, later}
use Rattle.synthesis.specs.NodeSet.{Has}
use Rattle.synthesis.specs.Opening.{Opens, falsity_itself, necessity_itself, first_part, second_part, body_of-max, body_of-variable}
use Rattle.synthesis.specs.Opening.{IsFalsity, OpensToFalsity, Leads, leads, Answers}
use Rattle.synthesis.specs.Answering.{first_of, answer_of}
use Rattle.synthesis.specs.Reason.{ViolatesAt, at_falsity, in_first, in_second, after_code_lem, in_body, in_variable_lem, OpensFalsity}
use Rattle.synthesis.proofs.Unfolding.AnsweringLaws.{answers_as_defined}
use Rattle.synthesis.proofs.Monitors.Runs.{run_induction}

module _ (r : Rule) where
  abbrev root : Formula
  root = r.formula

  -- ---- opening and places

  opens_place : {k n m : ℕ} {w : List ℕ} → Opens root k n → ViolatesAt r n w m → ViolatesAt r k w m
  opens_place (falsity_itself n) v = v
  opens_place (necessity_itself n) v = v
  opens_place (first_part n o) v = in_first n (opens_place o v)
  opens_place (second_part n o) v = in_second n (opens_place o v)
  opens_place (body_of-max n o) v = in_body n (opens_place o v)
  opens_place (body_of-variable n b o) v = in_variable_lem n b (opens_place o v)

  -- node n is the ff node m, or a necessity after which the rest of the list violates the rule at m
  data EndsAt (n m : ℕ) : List ℕ → Type 0 where
    there : {w : List ℕ} → n ≡ m → IsFalsity root n → EndsAt n m w
    onward : {p c : ℕ} {ms : List EnclosingMax} {f : Formula} {w : List ℕ} → Node root n ms (necessity p f)
        → covered_by r.patterns p c ≡ true → ViolatesAt r (suc n) w m → EndsAt n m (c ∷ w)

  -- opening node k gives such a node
  abbrev OpensEndAt : (k m : ℕ) → List ℕ → Type 0
  OpensEndAt k m w = (n : ℕ) × Opens root k n × EndsAt n m w

  opens_end_at_map : {k k' m : ℕ} {w : List ℕ} → ((n : ℕ) → Opens root k' n → Opens root k n) → OpensEndAt k' m w → OpensEndAt k m w
  opens_end_at_map step (n, o, e) = (n, step n o, e)

  place_opens : {k m : ℕ} {w : List ℕ} → ViolatesAt r k w m → OpensEndAt k m w
  place_opens {k} (at_falsity {ms = ms} n) = (k, falsity_itself n, there refl (ms, n))
  place_opens (in_first n v) = opens_end_at_map (λ j o. first_part n o) (place_opens v)
  place_opens (in_second n v) = opens_end_at_map (λ j o. second_part n o) (place_opens v)
  place_opens {k} (after_code_lem n h v) = (k, necessity_itself n, onward n h v)
  place_opens (in_body n v) = opens_end_at_map (λ j o. body_of-max n o) (place_opens v)
  place_opens (in_variable_lem n b v) = opens_end_at_map (λ j o. body_of-variable n b o) (place_opens v)

  -- ---- equations and places

  -- a member of the equation e takes the first code of a list, and the rest violates what comes after it, at m
  data EquationAt (e m : ℕ) : List ℕ → Type 0 where
    member_at : {n p c : ℕ} {ms : List EnclosingMax} {f : Formula} {w : List ℕ} → Has e n → Node root n ms (necessity p f)
        → covered_by r.patterns p c ≡ true → ViolatesAt r (suc n) w m → EquationAt e m (c ∷ w)

  -- what ends in a member of e, which has no ff node, goes on there
  ends_in_member : {m n : ℕ} {w : List ℕ} (e : ℕ) → Has e n → (IsFalsity root n → ⊥) → EndsAt n m w → EquationAt e m w
  ends_in_member e member clean (there q f) = absurd (clean f)
  ends_in_member e member clean (onward node h v) = member_at member node h v

  -- the last code opens the place
  last_place : (e c m : ℕ) → EquationAt e m (c ∷ []) ↔ OpensFalsity r e c m
  last_place e c m = (to, from)
    where
      at_end : {n : ℕ} → Leads r e c n → EndsAt n m [] → OpensFalsity r e c m
      at_end l (there q f) = rw (← q) (l, f)

      to : EquationAt e m (c ∷ []) → OpensFalsity r e c m
      to (member_at member node h v) = let (n, o, ends) = place_opens v in at_end (leads member node h o) ends

      from : OpensFalsity r e c m → EquationAt e m (c ∷ [])
      from (leads member node h o, (ms, ff)) = member_at member node h (opens_place o (at_falsity ff))

  -- a code that is kept leaves the place to the rest
  next_place : (e c e' : ℕ) → Answers r e c (next e') → (m : ℕ) (w : List ℕ) → EquationAt e m (c ∷ w) ↔ EquationAt e' m w
  next_place e c e' (clean, members) m w = (to, from)
    where
      to : EquationAt e m (c ∷ w) → EquationAt e' m w
      to (member_at member node h v) =
          let (n, o, ends) = place_opens v in
          let l = leads member node h o in
          ends_in_member e' ((members n).1 l) (clean n l) ends

      led : {n m : ℕ} {w : List ℕ} → Leads r e c n → ViolatesAt r n w m → EquationAt e m (c ∷ w)
      led (leads member node h o) v = member_at member node h (opens_place o v)

      from : {w : List ℕ} → EquationAt e' m w → EquationAt e m (c ∷ w)
      from (member_at {n} member node h v) = led ((members n).0 member) (after_code_lem node h v)

  module _ (wf : WellFormed (length r.patterns) [] root) where
    run_place : (c m e : ℕ) (w : List ℕ) → (Suppresses (answer_of r) e w → ⊥)
        → EquationAt e m (w ++ (c ∷ [])) ↔ OpensFalsity r (ended (answer_of r) e w) c m
    run_place c m =
        run_induction (answer_of r)
        (λ e w. (Suppresses (answer_of r) e w → ⊥) → EquationAt e m (w ++ (c ∷ [])) ↔ OpensFalsity r (ended (answer_of r) e w) c m)
        (λ e none. last_place e c m)
        (λ e d w q h none. absurd (none (now q)))
        (λ e e' d w q h none.
        let rest = h (λ l. none (later q l)) in
        let step = next_place e d e' (rw q at ((answers_as_defined r wf).answers e d)) m (w ++ (c ∷ [])) in
        rw q (λ a. rest.0 (step.0 a), λ b. step.1 (rest.1 b)))

    first_place : (OpensToFalsity root 0 → ⊥) → (m : ℕ) (w : List ℕ) → ViolatesAt r 0 w m ↔ EquationAt (first_of r) m w
    first_place clean m w = (to, from)
      where
        to : ViolatesAt r 0 w m → EquationAt (first_of r) m w
        to v =
            let (n, o, ends) = place_opens v in
            ends_in_member (first_of r) (((answers_as_defined r wf).first n).1 o) (λ f. clean (n, o, f)) ends

        from : {w : List ℕ} → EquationAt (first_of r) m w → ViolatesAt r 0 w m
        from (member_at {n} member node h v) = opens_place (((answers_as_defined r wf).first n).0 member) (after_code_lem node h v)

    pub places_opened : (OpensToFalsity root 0 → ⊥) → (w : List ℕ) → (Suppresses (answer_of r) (first_of r) w → ⊥) → (c m : ℕ)
        → ViolatesAt r 0 (w ++ (c ∷ [])) m ↔ OpensFalsity r (ended (answer_of r) (first_of r) w) c m
    places_opened clean w none c m =
        let a = first_place clean m (w ++ (c ∷ [])) in
        let b = run_place c m (first_of r) w none in
        (λ v. b.0 (a.0 v), λ o. a.1 (b.1 o))
