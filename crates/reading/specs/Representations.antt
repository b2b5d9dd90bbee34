-- What the enums, structures and arrays of private functions stand for, and how far a loop over records has read. No public contract cites these.
use Rattle.std.specs.Prelude.{ℕ, ◌-◌, ◌≤◌, ◌≡◌, List, ◌++◌, map, length, eqb, Result}
use Rattle.std.proofs.lemmas.List.Edits.{sets}
use Rattle.reading.specs.File.{Outcome, accepted, refuse, and_then, RecordFormat, Records, records_at, NodeRecord, Parsed}
use Rattle.reading.specs.Refusals.{as_outcome}
use Rattle.reading.specs.Rule.{Symbol, Truth, Falsity, Both, Necessity, Max, Variable}
use Rattle.reading.specs.Numbered.{nodes, padded, listed, none_listed}
use Rattle.reading.specs.declared.Pattern.{Pattern}
use Rattle.reading.specs.declared.Node.{Node}
use Rattle.reading.specs.declared.refusals.Refusal.{Refusal}
use Rattle.reading.specs.declared.patterns.Head.{Head}
use Rattle.reading.specs.declared.formulas.Symbol.{Symbol as Symbol'}
use Rattle.reading.specs.declared.formulas.Record.{Record}
use Rattle.reading.specs.declared.formulas.Rest.{Rest}

-- ---- a list of records, read one after the other

-- the record at `at`, of which `left` are left
abbrev pub record_at : {A : Type 0} → RecordFormat A → (left at : ℕ) → Outcome A
record_at r left at = refuse (eqb left 0) (r.too_many at) at (r.one at)

-- the records of an outcome, after some that were read before
abbrev pub prepend : {A : Type 0} → List A → Outcome (Records A) → Outcome (Records A)
prepend done o = and_then o (λ xs. accepted (record { list = done ++ xs.list; next = xs.next }))

-- Of at most `limit` records from `start` on n are read, up to `at`, and stand in an array, of which the rest is blank.
pub record RecordsBegun {A : Type 0} (r : RecordFormat A) (blank : A) (limit start : ℕ) (array : List A) (n at : ℕ) : Type 0 where
  pub done : List A
  pub counted : length done ≡ n
  pub few : n ≤ limit
  pub stored : array ≡ padded limit blank done
  pub rest : records_at r limit start ≡ prepend done (records_at r (limit - n) at)

-- ---- the patterns that a file begins with

abbrev pub head_of : Outcome (Records Pattern) → Outcome Head
head_of o = and_then o (λ ps. accepted (record {
  list = padded 32 none_listed (map listed ps.list);
  count = length ps.list;
  next = ps.next;
}))

-- ---- what results say of a node record and of a formula

abbrev pub symbol_of : Symbol' → Symbol
symbol_of Symbol'.Truth = Truth
symbol_of Symbol'.Falsity = Falsity
symbol_of Symbol'.Both = Both
symbol_of (Symbol'.Necessity p) = Necessity p
symbol_of Symbol'.Max = Max
symbol_of (Symbol'.Variable d) = Variable d

abbrev pub record_of : Result Record Refusal → Outcome NodeRecord
record_of x = and_then (as_outcome x) (λ r. accepted (record { symbol = symbol_of r.symbol; next = r.next }))

-- the place after a formula, and the nodes left
abbrev pub rest_of : Outcome Parsed → Outcome Rest
rest_of o = and_then o (λ f. accepted (record { next = f.next; left = f.left }))

-- The result says what comes after a formula or why it is refused, and the nodes of one that is read went to their numbers, from k on.
pub record Reads (o : Outcome Parsed) (k : ℕ) (ms : List ℕ) (before after : List Node) (r : Result Rest Refusal) : Type 0 where
  pub said : as_outcome r ≡ rest_of o
  pub written : (f : Parsed) → o ≡ accepted f → after ≡ sets before k (nodes k ms f.formula)
