-- The bytes of the kinds of records.
use Rattle.std.specs.Prelude.{ℕ, ◌<◌, ◌≡◌, ◌⊎◌, Result, MatchResult}
use Rattle.reading.specs.Rule.{pattern_kind, truth_kind, falsity_kind, both_kind, necessity_kind, max_kind, variable_kind}
use Rattle.reading.specs.declared.kind.Kind.{Kind}
use Rattle.reading.specs.declared.kind.Kind.TheVariants.{Pattern, Truth, Falsity, Both, Necessity, Max, Variable}
use Rattle.reading.specs.declared.refusals.Fault.{Fault}
use Rattle.reading.specs.declared.refusals.Fault.TheVariants.{UnknownKind}

-- the byte with which a record of a kind begins
abbrev pub byte_of : Kind → ℕ
byte_of Pattern = pattern_kind
byte_of Truth = truth_kind
byte_of Falsity = falsity_kind
byte_of Both = both_kind
byte_of Necessity = necessity_kind
byte_of Max = max_kind
byte_of Variable = variable_kind

-- the result is the kind with this byte, or no kind has it
abbrev pub Decodes : ℕ → Result Kind Fault → Type 0
Decodes byte r = MatchResult r (λ kind. byte_of kind ≡ byte) (λ fault. (fault ≡ UnknownKind) × ((byte ≡ 0) ⊎ (variable_kind < byte)))
