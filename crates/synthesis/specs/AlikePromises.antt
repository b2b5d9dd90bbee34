-- What this crate promises of patterns with nothing in them, as statements over the definitions; proofs/ has a theorem of each of these types. The limit on
-- equations and the mark for dropped are any, the limit up to the mark.
use Rattle.std.specs.Prelude.{ℕ, suc, ◌+◌, ◌<◌, ◌≡◌, ◌↔◌, List, Option, Some, None}
use Rattle.reading.specs.Rule.{Formula, necessity, size, Rule, Bytes}
use Rattle.reading.specs.File.{accepted, rule_of, Outcome, refused}
use Rattle.reading.specs.Nodes.{EnclosingMax, Node}
use Rattle.synthesis.specs.Violation.{covered_by, ViolatesRule}
use Rattle.synthesis.specs.Alike.{CoversNone, RulesAlike, DifferAfterEmpty, AfterEmpty}
use Rattle.synthesis.specs.Monitor.{Answer, Monitors, row_of}
use Rattle.synthesis.specs.Merging.{DropAlike}
use Rattle.synthesis.specs.Building.{synthesis_of, preview_of, short_of, counted_of, Fills, FillsShort}
use Rattle.synthesis.specs.Reason.{ViolatesAt, explanation_of, reason_of}

-- ---- violation

-- 1. Rules with the same patterns that differ only in formulas after those of no kind are alike.
abbrev pub DifferingAlike : Type 0
DifferingAlike = (r r' : Rule) → DifferAfterEmpty r r' → RulesAlike r r'

-- Alike rules are violated by the same lists, accepted or not.
abbrev pub ViolatedAlike : Type 0
ViolatedAlike = (r r' : Rule) → RulesAlike r r' → (w : List ℕ) → ViolatesRule r w ↔ ViolatesRule r' w

-- Every node of the formula after an empty pattern stands after it.
abbrev pub AllAfterEmpty : Type 0
AllAfterEmpty =
    (r : Rule) (k p : ℕ) (ms : List EnclosingMax) (f : Formula) → Node r.formula k ms (necessity p f) → CoversNone (covered_by r.patterns) p
    → (j : ℕ) → j < size f → AfterEmpty r (suc k + j)

-- No node at which a list violates a rule stands after an empty pattern, also of a rule that isn't accepted.
abbrev pub NoPlaceAfterEmpty : Type 0
NoPlaceAfterEmpty = (r : Rule) (w : List ℕ) (m : ℕ) → ViolatesAt r 0 w m → AfterEmpty r m → ⊥

-- ---- what is said of files

-- 2. Counting answers the same of two files with alike rules, for the long table, on the rule page, and for the short table: the same count, or the same
-- refusal.
pub record CountsAlike (limit : ℕ) (s s' : List ℕ) : Type 0 where
  pub long : counted_of (synthesis_of limit s) ≡ counted_of (synthesis_of limit s')
  pub page : counted_of (preview_of s) ≡ counted_of (preview_of s')
  pub short : counted_of (short_of limit s) ≡ counted_of (short_of limit s')

abbrev pub CountedAlike : Type 0
CountedAlike =
    (limit : ℕ) (s s' : List ℕ) → Bytes s → Bytes s' → (r r' : Rule) → rule_of s ≡ accepted r → rule_of s' ≡ accepted r' → RulesAlike r r'
    → CountsAlike limit s s'

-- `explain` answers the same of them but for the number of a node: both say that a scan is kept, or neither does, and both refuse alike.
pub record ExplainedAlike (reason reason' : Outcome (Option ℕ)) : Type 0 where
  pub kept : (reason ≡ accepted None) ↔ (reason' ≡ accepted None)
  pub refused : (number place : ℕ) → (reason ≡ refused number place) ↔ (reason' ≡ refused number place)

abbrev pub ExplainsAlike : Type 0
ExplainsAlike =
    (limit : ℕ) (s s' : List ℕ) → Bytes s → Bytes s' → (r r' : Rule) → rule_of s ≡ accepted r → rule_of s' ≡ accepted r' → RulesAlike r r'
    → (w : List ℕ) (c : ℕ) → ExplainedAlike (reason_of (explanation_of limit s w c)) (reason_of (explanation_of limit s' w c))

-- No reason for a dropped scan stands after an empty pattern.
abbrev pub NoReasonAfterEmpty : Type 0
NoReasonAfterEmpty =
    (limit : ℕ) (s : List ℕ) → Bytes s → (r : Rule) → rule_of s ≡ accepted r
    → (w : List ℕ) (c m : ℕ) → reason_of (explanation_of limit s w c) ≡ accepted (Some m) → AfterEmpty r m → ⊥

-- ---- monitors

-- 3. Monitors of alike rules drop alike: every list of bytes gets the same verdicts from both.
abbrev pub MonitorsAlike : Type 1
MonitorsAlike =
    (r r' : Rule) → RulesAlike r r' → (E F : Type 0) (answer : E → ℕ → Answer E) (first : E) (answer' : F → ℕ → Answer F) (first' : F)
    → Monitors r answer first → Monitors r' answer' first' → DropAlike 256 answer first answer' first'

-- two tables have as many rows, and these are the same entry for entry
pub record SameRows (n : ℕ) (left : List ℕ) (n' : ℕ) (left' : List ℕ) : Type 0 where
  pub count : n ≡ n'
  pub rows : (k : ℕ) → k < n → row_of 256 left k ≡ row_of 256 left' k

-- So it is with the tables that filling leaves of alike rules: the long ones,
abbrev pub TablesAlike : Type 0
TablesAlike =
    (limit limit' mark : ℕ) (s table : List ℕ) (r : Rule) (n : ℕ) (left : List ℕ) → Fills limit mark s table r n left
    → (s' table' : List ℕ) (r' : Rule) (n' : ℕ) (left' : List ℕ) → Fills limit' mark s' table' r' n' left' → RulesAlike r r'
    → SameRows n left n' left'

-- and the short ones.
abbrev pub ShortTablesAlike : Type 0
ShortTablesAlike =
    (limit limit' mark : ℕ) (s table : List ℕ) (r : Rule) (n : ℕ) (left : List ℕ) → FillsShort limit mark s table r n left
    → (s' table' : List ℕ) (r' : Rule) (n' : ℕ) (left' : List ℕ) → FillsShort limit' mark s' table' r' n' left' → RulesAlike r r'
    → SameRows n left n' left'

-- ---- all of these

-- The theorem `alike_promises` has this type, so that each promise has its proof.
pub record AlikePromises : Type 1 where
  pub differing_alike : DifferingAlike
  pub violated_alike : ViolatedAlike
  pub all_after_empty : AllAfterEmpty
  pub no_place_after_empty : NoPlaceAfterEmpty
  pub counted_alike : CountedAlike
  pub explains_alike : ExplainsAlike
  pub no_reason_after_empty : NoReasonAfterEmpty
  pub monitors_alike : MonitorsAlike
  pub tables_alike : TablesAlike
  pub short_tables_alike : ShortTablesAlike
