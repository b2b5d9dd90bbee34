-- In a join each formula is alike to what it was alone: its patterns cover the same codes, with more patterns after them or before them. So a list
-- violates the join of two rules exactly when it violates one of them; and for more rules by induction on their list.
use mathlib.Core.Path.{sym, subst}
use Prim.Native.Nat.{ℕ, ◌+◌, ◌≤◌}
use mathlib.Core.Logic.{◌↔◌, ◌⊎◌, inl, inr, ⊎_elim, ⊎_map}
use mathlib.Core.Bool.{false}
use mathlib.Core.List.{List, [], ◌∷◌, ◌++◌}
use native.Mathlib.Omega.{arith}
use lib.ListN.{length, length-append, get_or-append}
use lib.Seq.{get_or-append-add}
use Rattle.reading.specs.Pattern.{WellFormedPattern}
use Rattle.reading.specs.Rule.{Formula, truth, falsity, both, necessity, max, variable, Guards, guarded, WellFormed, Rule, WellFormedRule}
use Rattle.reading.specs.Numbered.{no_pattern}
use Rattle.reading.specs.declared.Pattern.{Pattern}
use Rattle.reading.proofs.Basics.AllLaws.{all_append}
use Rattle.synthesis.specs.Violation.{covered_by, Violates, by_first, by_second, ViolatesRule}
use Rattle.synthesis.specs.Alike.{AlikeButAfterEmpty, same_truth, same_falsity, same_both, same_necessity, same_max, same_variable}
use Rattle.synthesis.specs.Joined.{shifted, joined_with, joined}
use Rattle.synthesis.specs.JoinPromises.{JoinWellFormed, JoinViolates}
use Rattle.synthesis.proofs.EmptyPatterns.AlikeLaws.{formulas_violated_alike}

-- ---- well-formed formulas

-- with more patterns
more_patterns : {n m : ℕ} → n ≤ m → (g : Guards) (f : Formula) → WellFormed n g f → WellFormed m g f
more_patterns h g truth wf = tt
more_patterns h g falsity wf = tt
more_patterns h g (both f f') (wf, wf') = (more_patterns h g f wf, more_patterns h g f' wf')
more_patterns h g (necessity p f) (known, wf) = (omega arith, more_patterns h (guarded g) f wf)
more_patterns h g (max f) wf = more_patterns h (false ∷ g) f wf
more_patterns h g (variable d) wf = wf

-- behind k patterns
shifted_well_formed : (k n : ℕ) (g : Guards) (f : Formula) → WellFormed n g f → WellFormed (k + n) g (shifted k f)
shifted_well_formed k n g truth wf = tt
shifted_well_formed k n g falsity wf = tt
shifted_well_formed k n g (both f f') (wf, wf') = (shifted_well_formed k n g f wf, shifted_well_formed k n g f' wf')
shifted_well_formed k n g (necessity p f) (known, wf) = (omega arith, shifted_well_formed k n (guarded g) f wf)
shifted_well_formed k n g (max f) wf = shifted_well_formed k n (false ∷ g) f wf
shifted_well_formed k n g (variable d) wf = wf

-- ---- alike formulas

module _ (ps qs : List Pattern) where
  -- with the patterns qs after its own
  first_alike : (g : Guards) (f : Formula) → WellFormed (length ps) g f → AlikeButAfterEmpty (covered_by ps) (covered_by (ps ++ qs)) f f
  first_alike g truth wf = same_truth
  first_alike g falsity wf = same_falsity
  first_alike g (both f f') (wf, wf') = same_both (first_alike g f wf) (first_alike g f' wf')
  first_alike g (necessity p f) (known, wf) =
      same_necessity {p = p} {p' = p} (λ c. rw (get_or-append ps qs no_pattern p known)) (first_alike (guarded g) f wf)
  first_alike g (max f) wf = same_max (first_alike (false ∷ g) f wf)
  first_alike g (variable d) wf = same_variable

  -- with the patterns ps before its own
  shifted_alike : (f : Formula) → AlikeButAfterEmpty (covered_by qs) (covered_by (ps ++ qs)) f (shifted (length ps) f)
  shifted_alike truth = same_truth
  shifted_alike falsity = same_falsity
  shifted_alike (both f f') = same_both (shifted_alike f) (shifted_alike f')
  shifted_alike (necessity p f) = same_necessity {p = p} {p' = length ps + p} (λ c. rw (get_or-append-add ps qs p no_pattern)) (shifted_alike f)
  shifted_alike (max f) = same_max (shifted_alike f)
  shifted_alike (variable d) = same_variable

-- ---- two rules

module _ (r q : Rule) (wf : WellFormedRule r) where
  two_well_formed : WellFormedRule q → WellFormedRule (joined_with r q)
  two_well_formed wf' = record {
    patterns = all_append WellFormedPattern r.patterns q.patterns wf.patterns wf'.patterns;
    formula =
        subst (λ (n : ℕ). WellFormed n [] (both r.formula (shifted (length r.patterns) q.formula))) (sym (length-append r.patterns q.patterns))
        (more_patterns (omega arith) [] r.formula wf.formula, shifted_well_formed (length r.patterns) _ [] q.formula wf'.formula);
  }

  two_violated : (w : List ℕ) → ViolatesRule (joined_with r q) w ↔ (ViolatesRule r w ⊎ ViolatesRule q w)
  two_violated w = (there, ⊎_elim (λ v. by_first (first.0 v)) (λ v. by_second (second.0 v)))
    where
      first : ViolatesRule r w ↔ Violates (covered_by (r.patterns ++ q.patterns)) [] r.formula w
      first = formulas_violated_alike (first_alike r.patterns q.patterns [] r.formula wf.formula) w

      second : ViolatesRule q w ↔ Violates (covered_by (r.patterns ++ q.patterns)) [] (shifted (length r.patterns) q.formula) w
      second = formulas_violated_alike (shifted_alike r.patterns q.patterns q.formula) w

      there : ViolatesRule (joined_with r q) w → ViolatesRule r w ⊎ ViolatesRule q w
      there (by_first v) = inl (first.1 v)
      there (by_second v) = inr (second.1 v)

-- ---- any number of rules

pub join_well_formed : JoinWellFormed
join_well_formed r [] (wf, wfs) = wf
join_well_formed r (q ∷ qs) (wf, wfs) = two_well_formed r (joined q qs) wf (join_well_formed q qs wfs)

pub join_violates : JoinViolates
join_violates r [] wfs w = (inl, ⊎_elim (λ v. v) (λ none. absurd none))
join_violates r (q ∷ qs) (wf, wfs) w =
    let two = two_violated r (joined q qs) wf w in
    let others = join_violates q qs wfs w in
    (λ v. ⊎_map (λ x. x) others.0 (two.0 v), λ v. two.1 (⊎_map (λ x. x) others.1 v))
