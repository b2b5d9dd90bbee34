-- Why scans are dropped: by the number-pool rule, by a rule whose lowest ff node comes in through a variable, and by one of whose two ff nodes each scan
-- opens at most one.
use Rattle.std.specs.Prelude.{ℕ, ◌≡◌, List, [], ◌∷◌, Option, Some, None}
use Rattle.reading.specs.Rule.{truth, falsity, both, necessity, max, variable, Rule}
use Rattle.synthesis.specs.Monitor.{most}
use Rattle.synthesis.specs.Reason.{ViolatesAt, only_falsity, explanation_of, reason_of}
use Rattle.examples.specs.Examples.{pattern, rule, ReadAs, pool_file, pool_rule}
use Rattle.reading.specs.File.{Outcome, accepted, refused}

-- what is said of a scan after others, under a rule file
abbrev pub reason : (s w : List ℕ) → (c : ℕ) → Outcome (Option ℕ)
reason s w c = reason_of (explanation_of most s w c)

-- max X of both "after an issue of 5, ff" and "after a cancel of 5, both after an issue of 5, ff, and X". Its nodes: 0 max, 1 both, 2 necessity, 3 ff,
-- 4 necessity, 5 both, 6 necessity, 7 ff, 8 variable.
abbrev pub two_places_file : List ℕ
two_places_file = 1 ∷ 1 ∷ 5 ∷ 5 ∷ 1 ∷ 2 ∷ 5 ∷ 5 ∷ 6 ∷ 4 ∷ 5 ∷ 0 ∷ 3 ∷ 5 ∷ 1 ∷ 4 ∷ 5 ∷ 0 ∷ 3 ∷ 7 ∷ 0 ∷ []

abbrev pub two_places_rule : Rule
two_places_rule =
    rule (pattern 1 5 5 ∷ pattern 2 5 5 ∷ [])
    (max (both (necessity 0 falsity) (necessity 1 (both (necessity 0 falsity) (variable 0)))))

-- both "after an issue of 5, ff" and "after a cancel of 5, ff". Its nodes: 0 both, 1 necessity, 2 ff, 3 necessity, 4 ff.
abbrev pub either_file : List ℕ
either_file = 1 ∷ 1 ∷ 5 ∷ 5 ∷ 1 ∷ 2 ∷ 5 ∷ 5 ∷ 4 ∷ 5 ∷ 0 ∷ 3 ∷ 5 ∷ 1 ∷ 3 ∷ []

abbrev pub either_rule : Rule
either_rule = rule (pattern 1 5 5 ∷ pattern 2 5 5 ∷ []) (both (necessity 0 falsity) (necessity 1 falsity))

pub record ReasonExamples : Type 0 where
  -- after a cancel, an issue of the number is dropped by the rule's only ff, node 4: patterns aren't counted
  pub pool_dropped : reason pool_file (37 ∷ []) 5 ≡ accepted (Some 4)
  pub pool_place : ViolatesAt pool_rule 0 (37 ∷ 5 ∷ []) 4
  -- after a sync it is kept
  pub pool_kept : reason pool_file (37 ∷ 128 ∷ []) 5 ≡ accepted None
  -- a list that has the issue after the cancel is no list of kept scans, whatever comes after it
  pub pool_unfit : (c : ℕ) → reason pool_file (37 ∷ 5 ∷ []) c ≡ refused 17 1
  -- nor is one that goes on from it; the place is that of the issue
  pub pool_longer : (c : ℕ) → reason pool_file (37 ∷ 5 ∷ 128 ∷ 5 ∷ []) c ≡ refused 17 1
  -- what is wrong with the rule file comes first: 7 at 1, and 8 at 0
  pub bad_file : (w : List ℕ) (c : ℕ) → reason (6 ∷ 7 ∷ 0 ∷ []) w c ≡ refused 7 1
  pub bad_rule : (w : List ℕ) (c : ℕ) → reason (3 ∷ []) w c ≡ refused 8 0
  -- After a cancel, an issue violates the other rule at 7, which is met first, and through the variable at 3, which is lower.
  pub two_file : ReadAs two_places_file two_places_rule (accepted 3)
  pub met_first : ViolatesAt two_places_rule 0 (37 ∷ 5 ∷ []) 7
  pub by_variable : ViolatesAt two_places_rule 0 (37 ∷ 5 ∷ []) 3
  pub two_dropped : reason two_places_file (37 ∷ []) 5 ≡ accepted (Some 3)
  -- Each scan is dropped by the ff that it opens, and not by the lowest of the rule; so a list of one such scan is unfit at 0.
  pub either_file_lem : ReadAs either_file either_rule (accepted 2)
  pub either_issue : reason either_file [] 5 ≡ accepted (Some 2)
  pub either_cancel : reason either_file [] 37 ≡ accepted (Some 4)
  pub either_other : reason either_file [] 6 ≡ accepted None
  pub either_unfit : (c : ℕ) → reason either_file (37 ∷ []) c ≡ refused 17 0
  -- the rule that has no ff but node 4
  pub either_only : only_falsity either_rule 4 ≡ rule either_rule.patterns (both (necessity 0 truth) (necessity 1 falsity))
