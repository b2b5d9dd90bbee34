-- The rule that joins rules by "both": their patterns one after the other, and each later formula with the numbers that its patterns then have.
use Rattle.std.specs.Prelude.{ℕ, ◌+◌, ◌⊎◌, List, [], ◌∷◌, ◌++◌, length}
use Rattle.reading.specs.Rule.{Formula, truth, falsity, both, necessity, max, variable, Rule}

-- a formula whose patterns stand behind k others
abbrev pub shifted : (k : ℕ) → Formula → Formula
shifted k truth = truth
shifted k falsity = falsity
shifted k (both f g) = both (shifted k f) (shifted k g)
shifted k (necessity p f) = necessity (k + p) (shifted k f)
shifted k (max f) = max (shifted k f)
shifted k (variable d) = variable d

abbrev pub joined_with : Rule → Rule → Rule
joined_with r q = record {
  patterns = r.patterns ++ q.patterns;
  formula = both r.formula (shifted (length r.patterns) q.formula);
}

-- a rule and any number of others, joined in their order
abbrev pub joined : Rule → List Rule → Rule
joined r [] = r
joined r (q ∷ qs) = joined_with r (joined q qs)

-- an element of a list has a property
abbrev pub Some : {A : Type 0} → (A → Type 0) → List A → Type 0
Some P [] = ⊥
Some P (x ∷ xs) = P x ⊎ Some P xs
