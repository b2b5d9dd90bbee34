-- Patterns with nothing in them, by rules that aren't in the paper: what is measured, read and listed of them; that a necessity with one is a node like any
-- other, also where equations are counted; and what two rules that differ only after one have in common, and what they don't.
use Rattle.std.specs.Prelude.{ℕ, zero, suc, ◌≤◌, ◌≡◌, List, [], ◌∷◌, ◌++◌, map, length, Some, None}
use Rattle.reading.specs.Pattern.{extent_of}
use Rattle.reading.specs.Rule.{Formula, truth, falsity, both, necessity, max, variable, Rule}
use Rattle.reading.specs.File.{accepted, rule_of, refused}
use Rattle.reading.specs.declared.Pattern.{Pattern}
use Rattle.synthesis.specs.Violation.{ViolatesRule}
use Rattle.synthesis.specs.Alike.{RulesAlike, DifferAfterEmpty, AfterEmpty}
use Rattle.synthesis.specs.Monitor.{mark, most}
use Rattle.synthesis.specs.Building.{table_left}
use Rattle.running.specs.Running.{start, moved, Run, run_of}
use Rattle.listing.specs.Text.{text}
use Rattle.examples.specs.Examples.{pattern, rule, ReadAs}
use Rattle.examples.specs.NumberingExamples.{Numbers}
use Rattle.examples.specs.PatternMeaning.{never}
use Rattle.examples.specs.ReasonExamples.{reason}
use Rattle.examples.specs.ModelExamples.{never_rule}
use Rattle.examples.specs.ShortExamples.{idle_rule}
use Rattle.examples.specs.RefusalExamples.{times}
use Rattle.examples.specs.PreviewExamples.{ShownAtDeskOnly}

-- ---- alone

-- tt, and an empty pattern that no necessity names
abbrev pub unused_file : List ℕ
unused_file = 1 ∷ 0 ∷ 5 ∷ 5 ∷ 2 ∷ []

abbrev pub unused_rule : Rule
unused_rule = rule (pattern 0 5 5 ∷ []) truth

abbrev pub unused_listing : List ℕ
unused_listing = text "patterns 1\n" ++ text "p 0 none 0\n" ++ text "equations 1\n" ++ text "0 0 255 0\n"

-- "after none, ff"
abbrev pub after_none_file : List ℕ
after_none_file = 1 ∷ 0 ∷ 5 ∷ 5 ∷ 5 ∷ 0 ∷ 3 ∷ []

abbrev pub after_none_rule : Rule
after_none_rule = never (pattern 0 5 5 ∷ []) 0

abbrev pub after_none_listing : List ℕ
after_none_listing =
    text "patterns 1\n"
    ++ text "p 0 none 0\n"
    ++ text "equations 2\n"
    ++ text "0 0 255 1\n"
    ++ text "1 0 255 1\n"

pub record EmptyPatterns : Type 0 where
  -- a mask of 0: the lowest code is absent and the count 0, whatever the slots are
  pub measured : (first last : ℕ) → extent_of (pattern 0 first last) ≡ record { lowest = None; count = 0 }
  -- the slots are kept as written, also where first is over last
  pub slots_kept : ReadAs (1 ∷ 0 ∷ 30 ∷ 2 ∷ 2 ∷ []) (rule (pattern 0 30 2 ∷ []) truth) (accepted 1)
  -- 1 0 5 5 2: one equation, the empty set
  pub unused : Numbers unused_file unused_rule (0 ∷ []) unused_listing
  pub unused_extents : map extent_of unused_rule.patterns ≡ record { lowest = None; count = 0 } ∷ []
  -- 1 0 5 5 5 0 3: two, {0} and the empty set, though every scan is kept
  pub after_none : Numbers after_none_file after_none_rule (1 ∷ 0 ∷ []) after_none_listing
  -- its ff stands after an empty pattern
  pub ff_after_none : AfterEmpty after_none_rule 1
  -- 1 0 0 0 6 5 0 7 0: no 7, for a necessity guards a variable also with an empty pattern; {1} and the empty set
  pub guards : ReadAs (1 ∷ 0 ∷ 0 ∷ 0 ∷ 6 ∷ 5 ∷ 0 ∷ 7 ∷ 0 ∷ []) (rule (pattern 0 0 0 ∷ []) (max (necessity 0 (variable 0)))) (accepted 2)

-- ---- at the limits

-- n times "after a code of pattern 0", then "after a code of pattern p, tt"
unfoldable pub chain_then : (p n : ℕ) → Formula
chain_then p zero = necessity p truth
chain_then p (suc n) = necessity 0 (chain_then p n)

-- The paper's two families, with "after none, tt" where they have tt: pattern 1 of the one is empty, and pattern 2 of the other.
abbrev pub empty_chain_file : (n : ℕ) → List ℕ
empty_chain_file n = 1 ∷ 255 ∷ 0 ∷ 31 ∷ 1 ∷ 0 ∷ 0 ∷ 0 ∷ times n (5 ∷ 0 ∷ []) (5 ∷ 1 ∷ 2 ∷ [])

abbrev pub empty_chain_rule : (n : ℕ) → Rule
empty_chain_rule n = rule (pattern 255 0 31 ∷ pattern 0 0 0 ∷ []) (chain_then 1 n)

abbrev pub empty_window_file : (m : ℕ) → List ℕ
empty_window_file m =
    1 ∷ 255 ∷ 0 ∷ 31 ∷ 1 ∷ 1 ∷ 5 ∷ 5 ∷ 1 ∷ 0 ∷ 0 ∷ 0 ∷ 6 ∷ 4 ∷ 5 ∷ 0 ∷ 7 ∷ 0 ∷ 5 ∷ 1 ∷ times m (5 ∷ 0 ∷ []) (5 ∷ 2 ∷ 2 ∷ [])

abbrev pub empty_window_rule : (m : ℕ) → Rule
empty_window_rule m =
    rule (pattern 255 0 31 ∷ pattern 1 5 5 ∷ pattern 0 0 0 ∷ [])
    (max (both (necessity 0 (variable 0)) (necessity 1 (chain_then 2 m))))

-- With tt the first has 32 equations and the second 512, as `chain_31` of specs/PreviewExamples.antt and `window_9` of specs/FamilyExamples.antt say, and
-- neither is refused. A necessity with an empty pattern is one more member, and 18 and 9 count the equations that have it.
pub record EmptyCounts : Type 0 where
  -- 33: 18 on the page
  pub chain_read : rule_of (empty_chain_file 31) ≡ accepted (empty_chain_rule 31)
  pub chain_31 : ShownAtDeskOnly (empty_chain_file 31) 33
  -- 1,024: 9
  pub window_9 : ReadAs (empty_window_file 9) (empty_window_rule 9) (refused 9 0)

-- ---- two rules that differ only after an empty pattern

-- pattern 0 is empty, and pattern 1 an issue of slot 5
abbrev pub alike_patterns : List Pattern
alike_patterns = pattern 0 5 5 ∷ pattern 1 5 5 ∷ []

-- both "after none, ff" and "after an issue of 5, ff". Its nodes: 0 both, 1 necessity, 2 ff, 3 necessity, 4 ff.
abbrev pub shorter_file : List ℕ
shorter_file = 1 ∷ 0 ∷ 5 ∷ 5 ∷ 1 ∷ 1 ∷ 5 ∷ 5 ∷ 4 ∷ 5 ∷ 0 ∷ 3 ∷ 5 ∷ 1 ∷ 3 ∷ []

abbrev pub shorter_rule : Rule
shorter_rule = rule alike_patterns (both (necessity 0 falsity) (necessity 1 falsity))

-- both "after none, max X of after an issue of 5, X" and "after an issue of 5, ff". Its nodes: 0 both, 1 necessity, 2 max, 3 necessity, 4 variable,
-- 5 necessity, 6 ff.
abbrev pub longer_file : List ℕ
longer_file = 1 ∷ 0 ∷ 5 ∷ 5 ∷ 1 ∷ 1 ∷ 5 ∷ 5 ∷ 4 ∷ 5 ∷ 0 ∷ 6 ∷ 5 ∷ 1 ∷ 7 ∷ 0 ∷ 5 ∷ 1 ∷ 3 ∷ []

abbrev pub longer_rule : Rule
longer_rule = rule alike_patterns (both (necessity 0 (max (necessity 1 (variable 0)))) (necessity 1 falsity))

abbrev pub alike_listing : List ℕ
alike_listing =
    text "patterns 2\n"
    ++ text "p 0 none 0\n"
    ++ text "p 1 5 1\n"
    ++ text "equations 2\n"
    ++ text "0 0 4 1\n"
    ++ text "0 5 5 drop\n"
    ++ text "0 6 255 1\n"
    ++ text "1 0 255 1\n"

-- the first two are dropped; with the third, which is kept, both rules are over
abbrev pub alike_scans : List ℕ
alike_scans = 5 ∷ 5 ∷ 6 ∷ 5 ∷ []

abbrev pub alike_run : Run
alike_run = record { state = moved start 1; kept = 6 ∷ 5 ∷ []; verdicts = 1 ∷ 1 ∷ 0 ∷ 0 ∷ [] }

-- the run of these scans over every table that filling leaves of a file with two equations
abbrev pub HasAlikeRun : (s : List ℕ) → Type 0
HasAlikeRun s = (table : List ℕ) → 512 ≤ length table → (output verdicts : ℕ) → 4 ≤ output → 4 ≤ verdicts
    → run_of most mark (table_left most mark s table) 2 start alike_scans output verdicts ≡ accepted alike_run

-- a rule with the same formula after the empty pattern in either part of a "both", the second after an issue of 5 too, all of it in a max
abbrev pub spread_rule : (after : Formula) → Rule
spread_rule f = rule alike_patterns (max (both (necessity 0 f) (necessity 1 (necessity 0 f))))

pub record AlikeRules : Type 0 where
  pub differ : DifferAfterEmpty shorter_rule longer_rule
  -- patterns are compared by what they cover, and not by their numbers
  pub renumbered : RulesAlike (rule (pattern 1 5 5 ∷ []) (necessity 0 falsity)) (rule alike_patterns (necessity 1 falsity))
  -- wherever the empty pattern stands, anything may follow it
  pub spread : (f g : Formula) → DifferAfterEmpty (spread_rule f) (spread_rule g)
  pub alike : RulesAlike shorter_rule longer_rule
  -- {1, 3} and {1, 5}, and the empty set: other numbers, but the same lines
  pub shorter : Numbers shorter_file shorter_rule (10 ∷ 0 ∷ []) alike_listing
  pub longer : Numbers longer_file longer_rule (34 ∷ 0 ∷ []) alike_listing
  -- the same verdicts, with both kinds among them
  pub shorter_run : HasAlikeRun shorter_file
  pub longer_run : HasAlikeRun longer_file
  -- The first scan is dropped by the ff of the second part, and the number of that node is what differs. Node 2 of the shorter rule is a lower ff, but stands
  -- after the empty pattern.
  pub shorter_reason : reason shorter_file [] 5 ≡ accepted (Some 4)
  pub longer_reason : reason longer_file [] 5 ≡ accepted (Some 6)
  pub skipped : AfterEmpty shorter_rule 2
  -- and so does all of the longer formula there, down to its variable
  pub deeper : AfterEmpty longer_rule 4

-- ---- two rules that differ after a pattern that covers a code

-- "after an issue of 5, ff" and "after an issue of 5, tt", of which 5 violates the first alone. So what stands after a pattern that covers a code counts.
pub record AfterSome : Type 0 where
  pub violated : ViolatesRule never_rule (5 ∷ [])
  pub not_violated : ViolatesRule idle_rule (5 ∷ []) → ⊥
  pub not_alike : RulesAlike never_rule idle_rule → ⊥

pub record EmptyExamples : Type 0 where
  pub patterns : EmptyPatterns
  pub counts : EmptyCounts
  pub alike_rules : AlikeRules
  pub after_some : AfterSome
