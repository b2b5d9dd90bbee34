-- The text that is due to an answer, and how far printing it came. That each line that is counted was written, no contract can say.
use Rattle.std.specs.Prelude.{ℕ, suc, ◌≡◌, Bool, true, false, cond, List, [], map, length}
use Rattle.reading.specs.Pattern.{extent_of}
use Rattle.reading.specs.File.{Outcome, accepted, refused, and_then, rule_of, by_case}
use Rattle.reading.specs.Numbered.{reading_of}
use Rattle.reading.specs.declared.NumberedRule.{NumberedRule}
use Rattle.synthesis.specs.Monitor.{mark}
use Rattle.synthesis.specs.Building.{Synthesis, synthesis_of, counted_of, table_after}
use Rattle.models.specs.Judging.{with_model, JudgedAs}
use Rattle.listing.specs.Lines.{refusal_line, judgment_line, listing}
use Rattle.listing.specs.Positions.{listing_line_at, lines_from}
use Rattle.commands.specs.declared.EquationsResult.{EquationsResult}
use Rattle.reading.specs.Refusals.{as_outcome}
use Rattle.models.specs.declared.Judgment.{Judgment}
use Rattle.models.specs.declared.Judgment.TheVariants.{Meets, Breaks}

-- The most equations of a rule that a program takes. The library takes `most`.
abbrev pub program_limit : ℕ
program_limit = 128

-- the text that is due to an outcome: the listing of the rule and its table, or the line of the refusal alone
abbrev pub text_for : Outcome Synthesis → (table : List ℕ) → List ℕ
text_for (accepted y) table = listing (map extent_of y.rule.patterns) (length y.equations) table
text_for (refused number place) table = refusal_line number place

-- the text that is due to a judgment
abbrev pub judged_text : Outcome Judgment → List ℕ
judged_text (accepted Meets) = judgment_line true
judged_text (accepted Breaks) = judgment_line false
judged_text (refused number place) = refusal_line number place

-- what `meets` hands back for a rule file and a model file
abbrev pub JudgesFiles : (s f : List ℕ) → Outcome Judgment → Type 0
JudgesFiles s f answer = JudgedAs (and_then (synthesis_of program_limit s) (with_model f)) answer

-- ---- how far printing comes

-- So many lines of a listing, one after the other from position 0 on and none of them empty, lead to a position.
pub data LeadTo (rule : NumberedRule) (table : List ℕ) (count : ℕ) : (lines at : ℕ) → Type 0 where
  first : LeadTo rule table count 0 0
  next : {lines at : ℕ} → LeadTo rule table count lines at → ((listing_line_at rule table count at).line.len ≡ 0 → ⊥)
      → LeadTo rule table count (suc lines) (listing_line_at rule table count at).next

-- Printing a listing stops after so many lines. Where all were written, the listing has no more.
pub record ListingStops (rule : NumberedRule) (table : List ℕ) (count lines : ℕ) (written : Bool) : Type 0 where
  pub at : ℕ
  pub lead : LeadTo rule table count lines at
  pub ends : written ≡ true → (listing_line_at rule table count at).line.len ≡ 0

-- The same of the text that is due to an answer, beside what was read of the rule. A refusal has one line.
abbrev pub Stops : Outcome ℕ → Outcome NumberedRule → (table : List ℕ) → (lines : ℕ) → (written : Bool) → Type 0
Stops (accepted count) read table lines written = (rule : NumberedRule) × (read ≡ accepted rule) × ListingStops rule table count lines written
Stops (refused number place) read table lines written = lines ≡ cond written 1 0

-- the text of these lines
abbrev pub printed : Outcome ℕ → Outcome NumberedRule → (table : List ℕ) → (lines : ℕ) → List ℕ
printed (accepted count) read table lines = by_case (λ rule. lines_from rule table count lines 0) (λ number place. []) read
printed (refused number place) read table lines = refusal_line number place

-- what `equations` hands back for a rule file, with a table for its rows
pub record Shows (s table : List ℕ) (r : EquationsResult) : Type 0 where
  pub answer : as_outcome r.answer ≡ counted_of (synthesis_of program_limit s)
  pub stops : Stops (as_outcome r.answer) (reading_of (rule_of s)) (table_after mark (synthesis_of program_limit s) table) r.lines r.written
