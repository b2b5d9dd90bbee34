-- What this crate promises, as statements over the definitions; proofs/ has a theorem of each of these types.
use Rattle.std.specs.Prelude.{◌≡◌, true, List, ℕ, min, ◌+◌, ◌*◌, ◌≤◌, length, take}
use Rattle.reading.specs.Rule.{Rule, Bytes}
use Rattle.reading.specs.File.{accepted, and_then, rule_of, Outcome, refused}
use Rattle.reading.specs.Numbered.{reading_of}
use Rattle.reading.specs.declared.NumberedRule.{NumberedRule}
use Rattle.synthesis.specs.Monitor.{mark, most}
use Rattle.synthesis.specs.Building.{synthesis_of, filling_of, counted_of, table_after, preview_of, preview_filling_of}
use Rattle.synthesis.specs.LimitPromises.{Stays}
use Rattle.running.specs.Calls.{History, no_calls, Calls}
use Rattle.running.specs.Promises.{Sifted}
use Rattle.models.specs.Phone.{Phone, phone_of}
use Rattle.models.specs.Judging.{model_reading_of, with_model, judging_of}
use Rattle.models.specs.Promises.{JudgedExactly}
use Rattle.listing.specs.Text.{text}
use Rattle.listing.specs.Lines.{refusal_line}
use Rattle.listing.specs.Positions.{lines_from}
use Rattle.commands.specs.declared.EquationsResult.{EquationsResult}
use Rattle.commands.specs.declared.SiftResult.{SiftResult}
use Rattle.commands.specs.Printing.{program_limit, text_for, judged_text, JudgesFiles, printed, Shows}
use Rattle.commands.specs.Sifting.{UnderRule, Sifts}
use Rattle.reading.specs.Refusals.{as_outcome}
use Rattle.models.specs.declared.Judgment.{Judgment}
use Rattle.models.specs.declared.Judgment.TheVariants.{Meets, Breaks}

-- ---- the programs' limit

-- 1. A program takes rules of at most 128 equations, whatever the library takes. With its limit the outcomes that the contracts of `count_within`, `fill_within`
-- and `judge_within` name are those under 128. Its table has 256 entries for each of so many, so that 10 never comes: the answer is that of counting. So it counts
-- n exactly where the library does and n is at most 128, and refuses with 9 what the library counts beyond; other refusals are the library's.
pub record KeepsLimit (s : List ℕ) : Type 0 where
  pub limit : program_limit ≡ 128
  pub counting : synthesis_of (min program_limit most) s ≡ synthesis_of 128 s
  pub filling : (capacity : ℕ) → filling_of (min program_limit most) s capacity ≡ filling_of 128 s capacity
  pub judging : (capacity : ℕ) (f : List ℕ) → judging_of (min program_limit most) s capacity f ≡ judging_of 128 s capacity f
  pub never_ten : (capacity : ℕ) → 256 * 128 ≤ capacity → filling_of 128 s capacity ≡ synthesis_of 128 s
  pub answers : Stays 128 most s

abbrev pub ProgramsKeep128 : Type 0
ProgramsKeep128 = (s : List ℕ) → KeepsLimit s

-- ---- what is printed

-- 2. Where `equations` says that all lines were written, the lines that it counted are, one after the other, the text that is due: none is missing.
abbrev pub PrintsAnswer : Type 0
PrintsAnswer =
    (s table : List ℕ) (r : EquationsResult) → Bytes s → Shows s table r → r.written ≡ true →
    let after = table_after mark (synthesis_of program_limit s) table in
    printed (as_outcome r.answer) (reading_of (rule_of s)) after r.lines ≡ text_for (synthesis_of program_limit s) after

-- It never counts more than 32,802 of them.
abbrev pub FewLines : Type 0
FewLines = (s table : List ℕ) (r : EquationsResult) → Shows s table r → r.lines ≤ 32802

-- The answer that it hands back is that of counting under 128, however far printing came.
abbrev pub EquationsHandsBack : Type 0
EquationsHandsBack = (s table : List ℕ) (r : EquationsResult) → Shows s table r → as_outcome r.answer ≡ counted_of (synthesis_of 128 s)

-- 3. The 4,096 bytes that each program reads of a rule file settle the answer to the whole of it.
abbrev pub SettledByBuffer : Type 0
SettledByBuffer = (s : List ℕ) → synthesis_of program_limit (take 4096 s) ≡ synthesis_of program_limit s

-- So do those that `meets` reads of a rule file and of a model file.
abbrev pub JudgmentSettledByBuffer : Type 0
JudgmentSettledByBuffer = (s f : List ℕ) → and_then (synthesis_of program_limit (take 4096 s)) (with_model (take 4096 f)) ≡ and_then (synthesis_of program_limit s) (with_model f)

-- ---- what is handed back

-- 4. The runs are the library's. Under an accepted rule, calls as the contract of `sift` has them sift by the rule, however the scans come in blocks.
abbrev pub SiftsByRule : Type 0
SiftsByRule =
    (s table : List ℕ) (r : Rule) (n : ℕ) → Bytes s → rule_of s ≡ accepted r → counted_of (synthesis_of program_limit s) ≡ accepted n
    → (h : History) → Calls most mark (UnderRule (synthesis_of program_limit s) table) h → Sifted r h

-- Under a refused one there are no calls.
abbrev pub NoCallsRefused : Type 0
NoCallsRefused =
    (s table : List ℕ) (number place : ℕ) → counted_of (synthesis_of program_limit s) ≡ refused number place
    → (h : History) → Calls most mark (UnderRule (synthesis_of program_limit s) table) h → h ≡ no_calls

-- So this is what `sift` hands back: the answer of counting, and under an accepted rule a state in which scans that were sifted by the rule leave the run.
pub record HandsBack (s : List ℕ) (x : SiftResult) : Type 0 where
  pub answer : as_outcome x.answer ≡ counted_of (synthesis_of program_limit s)
  pub state : (r : Rule) (n : ℕ) → rule_of s ≡ accepted r → counted_of (synthesis_of program_limit s) ≡ accepted n
      → (h : History) × Sifted r h × (x.state ≡ h.state)

abbrev pub SiftHandsBack : Type 0
SiftHandsBack = (s table : List ℕ) (x : SiftResult) → Bytes s → Sifts s table x → HandsBack s x

-- 5. What `meets` hands back: the refusal of the rule, if it has one, else that of the model; 10 doesn't come. Where neither is refused, it is "meets"
-- exactly when the model satisfies the rule, and else "breaks".
pub record MeetsFiles (s f : List ℕ) (answer : Outcome Judgment) : Type 1 where
  pub rule : (number place : ℕ) → counted_of (synthesis_of program_limit s) ≡ refused number place → answer ≡ refused number place
  pub model : (n : ℕ) → counted_of (synthesis_of program_limit s) ≡ accepted n
      → (number place : ℕ) → model_reading_of (phone_of f) ≡ refused number place → answer ≡ refused number place
  pub judged : (r : Rule) (n : ℕ) (y : Phone) → rule_of s ≡ accepted r → counted_of (synthesis_of program_limit s) ≡ accepted n → phone_of f ≡ accepted y
      → JudgedExactly r y answer

abbrev pub MeetsExactly : Type 1
MeetsExactly = (s f : List ℕ) (answer : Outcome Judgment) → Bytes s → JudgesFiles s f answer → MeetsFiles s f answer

-- The line that is due to a judgment.
pub record JudgedTexts : Type 0 where
  pub meets : judged_text (accepted Meets) ≡ text "meets\n"
  pub breaks : judged_text (accepted Breaks) ≡ text "breaks\n"
  pub refused : (number place : ℕ) → judged_text (refused number place) ≡ refusal_line number place

-- ---- the rule page

-- 6. Where the rule page answers n, the text of its table is the one that `equations` prints of the file, whatever tables the two are lent: the text that
-- is due to its filling, and what its lines are one after the other.
pub record TextOfPage (s table : List ℕ) (n : ℕ) (expected : List ℕ) : Type 0 where
  pub due : text_for (preview_filling_of s (length table)) (table_after mark (preview_filling_of s (length table)) table) ≡ expected
  pub line_by_line : (rule : NumberedRule) × (reading_of (rule_of s) ≡ accepted rule) × ((lines : ℕ) → 34 + 256 * n ≤ lines
      → lines_from rule (table_after mark (preview_filling_of s (length table)) table) n lines 0 ≡ expected)

abbrev pub PreviewText : Type 0
PreviewText =
    (s : List ℕ) (n : ℕ) → Bytes s → counted_of (preview_of s) ≡ accepted n → (table table' : List ℕ) → 256 * n ≤ length table → 256 * n ≤ length table'
    → TextOfPage s table n (text_for (synthesis_of program_limit s) (table_after mark (synthesis_of program_limit s) table'))

-- ---- all of these

-- The theorem `promises` has this type, so that each promise has its proof.
pub record Promises : Type 1 where
  pub programs_keep_128 : ProgramsKeep128
  pub prints_answer : PrintsAnswer
  pub few_lines : FewLines
  pub equations_hands_back : EquationsHandsBack
  pub settled_by_buffer : SettledByBuffer
  pub judgment_settled_by_buffer : JudgmentSettledByBuffer
  pub sifts_by_rule : SiftsByRule
  pub no_calls-refused : NoCallsRefused
  pub sift_hands_back : SiftHandsBack
  pub meets_exactly : MeetsExactly
  pub judged_texts : JudgedTexts
  pub preview_text : PreviewText
