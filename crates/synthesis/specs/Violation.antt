-- Which lists of codes violate a formula, by the paper's "Meaning".
use Rattle.std.specs.Prelude.{ℕ, ◌≡◌, Bool, true, List, [], ◌∷◌, get_or, drop}
use Rattle.reading.specs.Pattern.{covers}
use Rattle.reading.specs.Rule.{Formula, falsity, both, necessity, max, variable, Rule}
use Rattle.reading.specs.Numbered.{no_pattern}
use Rattle.reading.specs.declared.Pattern.{Pattern}

-- the pattern of a number covers a code
abbrev pub covered_by : List Pattern → (pattern code : ℕ) → Bool
covered_by ps p c = covers (get_or ps p no_pattern) c

-- A list of codes violates f, where `bodies` are the bodies of the maxes around f, innermost first. `covered p c`: pattern p covers the
-- code c. Every list violates ff.
pub data Violates (covered : (pattern code : ℕ) → Bool) : (bodies : List Formula) → Formula → List ℕ → Type 0 where
  by_falsity : {bodies : List Formula} {w : List ℕ} → Violates covered bodies falsity w
  by_first : {bodies : List Formula} {f g : Formula} {w : List ℕ} → Violates covered bodies f w → Violates covered bodies (both f g) w
  by_second : {bodies : List Formula} {f g : Formula} {w : List ℕ} → Violates covered bodies g w → Violates covered bodies (both f g) w
  by_code : {bodies : List Formula} {p c : ℕ} {f : Formula} {w : List ℕ} → covered p c ≡ true → Violates covered bodies f w
      → Violates covered bodies (necessity p f) (c ∷ w)
  by_body : {bodies : List Formula} {f : Formula} {w : List ℕ} → Violates covered (f ∷ bodies) f w → Violates covered bodies (max f) w
  by_variable : {bodies outer : List Formula} {d : ℕ} {f : Formula} {w : List ℕ} → drop d bodies ≡ f ∷ outer
      → Violates covered (f ∷ outer) f w → Violates covered bodies (variable d) w

-- A list of codes violates a rule.
abbrev pub ViolatesRule : Rule → List ℕ → Type 0
ViolatesRule r w = Violates (covered_by r.patterns) [] r.formula w
