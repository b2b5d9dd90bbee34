-- Which subformula a node number names: nodes are numbered from 0 in reading order.
use Rattle.std.specs.Prelude.{ℕ, suc, ◌+◌, ◌<◌, ◌≡◌, false, List, [], ◌∷◌, ◌++◌, get_or, drop}
use Rattle.reading.specs.Rule.{Formula, truth, falsity, both, necessity, max, variable, size, Guards, guarded}
use Rattle.reading.specs.declared.Node.{Node as NumberedNode}
use Rattle.reading.specs.declared.Node.TheVariants.{Truth, Falsity, Both, Necessity, Max, Variable}

-- a max node around a formula: its number and its body
pub record EnclosingMax : Type 0 where
  pub number : ℕ
  pub body : Formula

-- stands for a max that isn't there
abbrev pub no_max : EnclosingMax
no_max = record { number = 0; body = truth }

-- Node k of the formula `root` is f, inside the maxes ms, innermost first.
pub data Node (root : Formula) : ℕ → List EnclosingMax → Formula → Type 0 where
  whole : Node root 0 [] root
  first : {k : ℕ} {ms : List EnclosingMax} {f g : Formula} → Node root k ms (both f g) → Node root (suc k) ms f
  second : {k : ℕ} {ms : List EnclosingMax} {f g : Formula} → Node root k ms (both f g) → Node root (k + suc (size f)) ms g
  after : {k : ℕ} {ms : List EnclosingMax} {p : ℕ} {f : Formula} → Node root k ms (necessity p f) → Node root (suc k) ms f
  body : {k : ℕ} {ms : List EnclosingMax} {f : Formula} → Node root k ms (max f) → Node root (suc k) (record { number = k; body = f } ∷ ms) f

-- which of the maxes around a node are guarded there
abbrev pub guards_at : {root : Formula} {k : ℕ} {ms : List EnclosingMax} {f : Formula} → Node root k ms f → Guards
guards_at whole = []
guards_at (first n) = guards_at n
guards_at (second n) = guards_at n
guards_at (after n) = guarded (guards_at n)
guards_at (body n) = false ∷ guards_at n

-- One element for each node of a formula that begins at node k, in reading order: `own` of its number, of the maxes around it, of each
-- of which `keep` says what is kept, and of its formula.
abbrev pub preorder : {M A : Type 0} → (keep : EnclosingMax → M) → (own : ℕ → List M → Formula → A) → ℕ → List M → Formula → List A
preorder keep own k ms truth = own k ms truth ∷ []
preorder keep own k ms falsity = own k ms falsity ∷ []
preorder keep own k ms (both f g) = own k ms (both f g) ∷ (preorder keep own (suc k) ms f ++ preorder keep own (k + suc (size f)) ms g)
preorder keep own k ms (necessity p f) = own k ms (necessity p f) ∷ preorder keep own (suc k) ms f
preorder keep own k ms (max f) = own k ms (max f) ∷ preorder keep own (suc k) (keep (record { number = k; body = f }) ∷ ms) f
preorder keep own k ms (variable d) = own k ms (variable d) ∷ []

-- What node k says by number: its formula, its parts by their numbers, and the max of a variable.
pub data Resolves (root : Formula) (k : ℕ) (ms : List EnclosingMax) : NumberedNode → Formula → Type 0 where
  is_truth : Resolves root k ms Truth truth
  is_falsity : Resolves root k ms Falsity falsity
  is_both : {m : ℕ} {f g : Formula} → Node root (suc k) ms f → Node root m ms g → Resolves root k ms (Both m) (both f g)
  is_necessity : {p : ℕ} {f : Formula} → Node root (suc k) ms f → Resolves root k ms (Necessity p) (necessity p f)
  is_max : {f : Formula} → Node root (suc k) (record { number = k; body = f } ∷ ms) f → Resolves root k ms Max (max f)
  is_variable : {m d : ℕ} {f : Formula} → get_or ms d no_max ≡ record { number = m; body = f } → Node root m (drop (suc d) ms) (max f) → m < k
      → Resolves root k ms (Variable m) (variable d)
