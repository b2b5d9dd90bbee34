-- What `equations` prints is the text that is due: where printing stops no line follows, so the lines are all of the listing. The bytes that a
-- program reads settle its answer, since reading looks at no more.
use mathlib.Core.Path.{◌≡◌, refl, sym, ◌∙◌, ap}
use mathlib.Core.Bool.{Bool, true, cond}
use mathlib.Core.List.{List}
use Prim.Native.Nat.{ℕ, ◌+◌, ◌*◌}
use native.Mathlib.Omega.{arith}
use lib.ListN.{length}
use Rattle.std.specs.Prelude.{Result, Ok, Err}
use Rattle.reading.specs.Rule.{Bytes}
use Rattle.reading.specs.File.{Outcome, accepted, refused, and_then, rule_of}
use Rattle.reading.specs.Numbered.{reading_of, numbered}
use Rattle.reading.specs.Refusals.{as_outcome}
use Rattle.reading.specs.declared.NumberedRule.{NumberedRule}
use Rattle.reading.specs.declared.refusals.Refusal.{Refusal}
use Rattle.reading.proofs.Basics.Outcomes.{accepted_is, never_accepted}
use Rattle.reading.proofs.Accepting.Accepted.{accepts_encodings}
use Rattle.reading.proofs.Settling.Prefix.{settled_by_first_bytes as rule_settled}
use Rattle.synthesis.specs.Monitor.{mark}
use Rattle.synthesis.specs.Building.{equations_of, Synthesis, synthesis_of, counted_of, table_after}
use Rattle.synthesis.proofs.Tables.SynthesisOutcomes.{synthesis_accepts}
use Rattle.synthesis.proofs.Tables.Equations.{answers_count}
use Rattle.models.specs.Phone.{Phone}
use Rattle.models.proofs.Files.Settled.{settled_by_first_bytes as model-settled}
use Rattle.listing.proofs.AllLines.{lists_rule}
use Rattle.commands.specs.Printing.{program_limit, text_for, Stops, printed}
use Rattle.commands.specs.Promises.{PrintsAnswer, SettledByBuffer, JudgmentSettledByBuffer}
use Rattle.commands.proofs.Leading.{lines_end}

-- ---- the line of a refusal

-- It is due where reading is refused: counting is refused then too.
pub reading_refused : (table s : List ℕ) (lines : ℕ) (written : Bool) (answer : Result ℕ Refusal) (read : Result NumberedRule Refusal) {why : Refusal}
    → as_outcome answer ≡ counted_of (synthesis_of program_limit s) → as_outcome read ≡ reading_of (rule_of s) → read ≡ Err why
    → lines ≡ cond written 1 0 → Stops (as_outcome answer) (reading_of (rule_of s)) table lines written
reading_refused table s lines written (Ok n) read counted reads is one_line =
    let rule = (answers_count program_limit s n (sym counted)).is in
    absurd (never_accepted (rw (rule, is) at reads))
reading_refused table s lines written (Err why) read counted reads is one_line = one_line

-- ---- the lines of a listing

-- as many lines as the listing of an accepted rule has are the listing
accepted_prints : (s table : List ℕ) (lines : ℕ) → Bytes s → (y : Synthesis) → synthesis_of program_limit s ≡ accepted y
    → Stops (counted_of (accepted y)) (reading_of (rule_of s)) table lines true
    → printed (counted_of (accepted y)) (reading_of (rule_of s)) table lines ≡ text_for (accepted y) table
accepted_prints s table lines bytes =
    synthesis_accepts program_limit s
    (λ y. Stops (counted_of (accepted y)) (reading_of (rule_of s)) table lines true
    → printed (counted_of (accepted y)) (reading_of (rule_of s)) table lines ≡ text_for (accepted y) table)
    (λ r read satisfiable few stopped.
    let count = length (equations_of program_limit r) in
    let (rule, same, stops) = stopped in
    let is : numbered r ≡ rule = accepted_is (rw read at same) in
    let ended = rw (← is) at stops in
    rw read
    (lines_end (numbered r) table count ended.lead (ended.ends refl) (34 + 256 * count)
    ∙ lists_rule r table count (lines + (34 + 256 * count)) ((accepts_encodings s bytes r).0 read).0 (omega arith)))

pub prints_answer : PrintsAnswer
prints_answer s table r bytes shows written =
    rw shows.answer (on (synthesis_of program_limit s) refl (rw (shows.answer, written) at shows.stops))
  where
    on : (o : Outcome Synthesis) → synthesis_of program_limit s ≡ o
        → Stops (counted_of o) (reading_of (rule_of s)) (table_after mark o table) r.lines true
        → printed (counted_of o) (reading_of (rule_of s)) (table_after mark o table) r.lines ≡ text_for o (table_after mark o table)
    on (accepted y) e stops = accepted_prints s (table_after mark (accepted y) table) r.lines bytes y e stops
    on (refused number place) e stops = refl

pub settled_by_buffer : SettledByBuffer
unfolding synthesis_of
settled_by_buffer s = rw (rule_settled s 4096 (omega arith))

pub judgment_settled_by_buffer : JudgmentSettledByBuffer
judgment_settled_by_buffer s f =
    rw (settled_by_buffer s)
    (ap (λ (o : Outcome Phone). and_then (synthesis_of program_limit s) (λ y. and_then o (λ p. accepted (record { rule = y.rule; phone = p }))))
    (model-settled f 4096 (omega arith)))
