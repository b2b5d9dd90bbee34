-- What matching refuses, and of which input: what is read of the two files and of the list is what the answer goes by, and each has its clauses.
use Prim.Native.Nat.{ℕ}
use mathlib.Core.Path.{◌≡◌, ap}
use mathlib.Core.List.{List}
use Rattle.reading.specs.Rule.{Bytes}
use Rattle.reading.specs.File.{accepted}
use Rattle.models.specs.Phone.{Phone, PhoneWithinLimits, encode_phone, phone_of}
use Rattle.models.specs.Faults.{Fault as ModelFault}
use Rattle.models.specs.Judging.{stored, model_reading_of}
use Rattle.models.specs.declared.PhoneModel.{PhoneModel}
use Rattle.models.specs.Pairs.{matching_of, MatchedAs, MatchAnswer, refused_first, refused_second, refused_pairs}
use Rattle.models.specs.MatchPromises.{RefusedInOrder}
use Rattle.models.proofs.Files.Encoding.{accepts_phones, answers_accepted}
use Rattle.models.proofs.Files.FileFaults.{refuses_at_the_fault}
use Rattle.models.proofs.Matchings.RefusalOrder.{refuses_pairs}
use Rattle.demands.specs.Outcomes.{RefusedIff}
use Rattle.demands.specs.Refusals.{SecondRefused, in_second, PairsRefused, in_pairs}

-- a model within the limits that a file is the encoding of, and what is read of it
record IsModel (f : List ℕ) (y : Phone) : Type 0 where
  within_limits : PhoneWithinLimits y
  encoded : f ≡ encode_phone y
  read : model_reading_of (phone_of f) ≡ accepted (stored y)

encoding_read : (f : List ℕ) → Bytes f → (y : Phone) → PhoneWithinLimits y → f ≡ encode_phone y → IsModel f y
encoding_read f bytes y within is =
    record { within_limits = within; encoded = is; read = ap model_reading_of ((accepts_phones f bytes y).1 (within, is)) }

accepted_read : (f : List ℕ) → Bytes f → (m : PhoneModel) → model_reading_of (phone_of f) ≡ accepted m → (y : Phone) × IsModel f y × (m ≡ stored y)
accepted_read f bytes m e = let (y, within, is, model) = (answers_accepted f bytes m).0 e in (y, encoding_read f bytes y within is, model)

module _ (f g l : List ℕ) (bytes : Bytes f) where
  pub match_first_refused : (answer : MatchAnswer) → MatchedAs (matching_of f g l) answer → RefusedIff answer refused_first (ModelFault f)
  match_first_refused answer matched number place =
      let order = (refuses_pairs f g l answer matched).first number place in
      let fault = refuses_at_the_fault f bytes number place in
      (λ e. fault.0 (order.0 e), λ h. order.1 (fault.1 h))

  module _ (bytes' : Bytes g) (answer : MatchAnswer) (matched : MatchedAs (matching_of f g l) answer) where
    order : RefusedInOrder (model_reading_of (phone_of f)) (model_reading_of (phone_of g)) l answer
    order = refuses_pairs f g l answer matched

    pub match_second_refused : RefusedIff answer refused_second (SecondRefused f g)
    match_second_refused number place = (refused, refuses)
      where
        refused : answer ≡ refused_second number place → SecondRefused f g number place
        refused e =
            let (x, one, other) = (order.second number place).0 e in
            let (a, m, _) = accepted_read f bytes x one in
            in_second a m.within_limits m.encoded ((refuses_at_the_fault g bytes' number place).0 other)

        refuses : SecondRefused f g number place → answer ≡ refused_second number place
        refuses (in_second a within is fault) =
            (order.second number place).1 (stored a, (encoding_read f bytes a within is).read, (refuses_at_the_fault g bytes' number place).1 fault)

    pub match_pairs_refused : RefusedIff answer refused_pairs (PairsRefused f g l)
    match_pairs_refused number place = (refused, refuses)
      where
        refused : answer ≡ refused_pairs number place → PairsRefused f g l number place
        refused e =
            let (x, x', one, other, fault) = (order.pairs number place).0 e in
            let (a, m, is) = accepted_read f bytes x one in
            let (b, n, is') = accepted_read g bytes' x' other in
            in_pairs a b m.within_limits m.encoded n.within_limits n.encoded (rw (is, is') at fault)

        refuses : PairsRefused f g l number place → answer ≡ refused_pairs number place
        refuses (in_pairs a b within is within' is' fault) =
            let m = encoding_read f bytes a within is in
            let n = encoding_read g bytes' b within' is' in
            (order.pairs number place).1 (stored a, stored b, m.read, n.read, fault)
