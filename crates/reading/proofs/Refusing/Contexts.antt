-- The node records of formulas in prefix order, one after the other. A list of contexts says which formulas are still due, and a symbol that may
-- come next takes the first of them away and adds its parts. A context is what counts of the maxes around a formula: which of them are guarded, or,
-- if guards aren't asked for, how many there are. Whatever has gone well so far can be completed, by tt for each formula that is due.
use mathlib.Core.Path.{◌≡◌, refl, ap, ◌∙◌}
use mathlib.Core.Bool.{true, false}
use mathlib.Core.List.{List, [], ◌∷◌, ◌++◌, map, append_assoc, append-nil}
use Prim.Native.Nat.{ℕ, suc, ◌<◌}
use lib.ListN.{length, get_or, length-map}
use Rattle.reading.specs.Rule.{Formula, truth, falsity, both, necessity, max, variable, Guards, guarded, WellFormed}
use Rattle.reading.specs.Rule.{Symbol, Truth, Falsity, Both, Max, Necessity, Variable}
use Rattle.reading.specs.Faults.{Bound}

-- ---- contexts

pub record Contexts : Type 1 where
  pub Context : Type 0
  pub below : Context → Context
  pub inside : Context → Context
  pub Binds : Context → ℕ → Type 0

-- which maxes are guarded
abbrev pub guards : Contexts
guards = record {
  Context = Guards;
  below = guarded;
  inside = λ g. false ∷ g;
  Binds = λ g d. (d < length g) × (get_or g d false ≡ true);
}

-- how many maxes there are
abbrev pub depths : Contexts
depths = record { Context = ℕ; below = λ k. k; inside = suc; Binds = λ k d. d < k }

-- ---- formulas and their symbols

abbrev pub symbols : Formula → List Symbol
symbols truth = Truth ∷ []
symbols falsity = Falsity ∷ []
symbols (both f g) = Both ∷ (symbols f ++ symbols g)
symbols (necessity p f) = Necessity p ∷ symbols f
symbols (max f) = Max ∷ symbols f
symbols (variable d) = Variable d ∷ []

module _ (K : Contexts) (n : ℕ) where
  -- a formula that fits into a context, after n patterns
  abbrev pub Fits : K.Context → Formula → Type 0
  Fits c truth = Unit
  Fits c falsity = Unit
  Fits c (both f g) = Fits c f × Fits c g
  Fits c (necessity p f) = (p < n) × Fits (K.below c) f
  Fits c (max f) = Fits (K.inside c) f
  Fits c (variable d) = K.Binds c d

  -- a symbol that may come in a context, and the contexts of its parts
  abbrev pub Allows : K.Context → Symbol → Type 0
  Allows c Truth = Unit
  Allows c Falsity = Unit
  Allows c Both = Unit
  Allows c (Necessity p) = p < n
  Allows c Max = Unit
  Allows c (Variable d) = K.Binds c d

  abbrev pub parts : K.Context → Symbol → List K.Context
  parts c Truth = []
  parts c Falsity = []
  parts c Both = c ∷ c ∷ []
  parts c (Necessity p) = K.below c ∷ []
  parts c Max = K.inside c ∷ []
  parts c (Variable d) = []

-- the symbols lead from what was due to what is still due
pub data Consumes (K : Contexts) (n : ℕ) : List K.Context → List Symbol → List K.Context → Type 0 where
  done : {due : List K.Context} → Consumes K n due [] due
  more : {c : K.Context} {due due' : List K.Context} {x : Symbol} {xs : List Symbol} → Allows K n c x → Consumes K n (parts K n c x ++ due) xs due'
      → Consumes K n (c ∷ due) (x ∷ xs) due'

module _ {K : Contexts} {n : ℕ} where
  -- what is due follows from the symbols
  pub consumes_same : {due a b : List K.Context} {xs : List Symbol} → Consumes K n due xs a → Consumes K n due xs b → a ≡ b
  consumes_same done done = refl
  consumes_same (more allows rest) (more allows' rest') = consumes_same rest rest'

  pub consumes_split : (xs : List Symbol) {ys : List Symbol} {due due' : List K.Context} → Consumes K n due (xs ++ ys) due'
      → (mid : List K.Context) × Consumes K n due xs mid × Consumes K n mid ys due'
  consumes_split [] {due = due} consumes = (due, done, consumes)
  consumes_split (x ∷ xs) (more allows rest) = let (mid, first, second) = consumes_split xs rest in (mid, more allows first, second)

  pub consumes_join : {due mid due' : List K.Context} {xs ys : List Symbol} → Consumes K n due xs mid → Consumes K n mid ys due'
      → Consumes K n due (xs ++ ys) due'
  consumes_join done second = second
  consumes_join (more allows rest) second = more allows (consumes_join rest second)

  -- the symbols of a formula that fits take its context away
  pub formula_consumes : (f : Formula) {c : K.Context} {due due' : List K.Context} {ys : List Symbol} → Fits K n c f → Consumes K n due ys due'
      → Consumes K n (c ∷ due) (symbols f ++ ys) due'
  formula_consumes truth fits rest = more tt rest
  formula_consumes falsity fits rest = more tt rest
  formula_consumes (both f g) {c = c} {due = due} {due' = due'} {ys = ys} fits rest =
      let parts-consumed : Consumes K n (c ∷ c ∷ due) ((symbols f ++ symbols g) ++ ys) due' =
      rw (append_assoc (symbols f) (symbols g) ys) (formula_consumes f fits.0 (formula_consumes g fits.1 rest)) in
      more tt parts-consumed
  formula_consumes (necessity p f) fits rest = more fits.0 (formula_consumes f fits.1 rest)
  formula_consumes (max f) fits rest = more tt (formula_consumes f fits rest)
  formula_consumes (variable d) fits rest = more fits rest

-- ---- completing

pub data FitAll (K : Contexts) (n : ℕ) : List K.Context → List Formula → Type 0 where
  fits_nil : FitAll K n [] []
  fits_cons : {c : K.Context} {due : List K.Context} {f : Formula} {fs : List Formula} → Fits K n c f → FitAll K n due fs
      → FitAll K n (c ∷ due) (f ∷ fs)

abbrev pub all_symbols : List Formula → List Symbol
all_symbols [] = []
all_symbols (f ∷ fs) = symbols f ++ all_symbols fs

-- tt for each formula that is due
abbrev pub truths : {C : Type 0} → List C → List Symbol
truths [] = []
truths (c ∷ due) = Truth ∷ truths due

-- formulas for all that was due, whose symbols begin with xs
pub record Completed (K : Contexts) (n : ℕ) (due : List K.Context) (xs : List Symbol) (due' : List K.Context) : Type 0 where
  pub formulas : List Formula
  pub fit : FitAll K n due formulas
  pub are : all_symbols formulas ≡ xs ++ truths due'

module _ {K : Contexts} {n : ℕ} where
  truths_completed : (due : List K.Context) → Completed K n due [] due
  truths_completed [] = record { formulas = []; fit = fits_nil; are = refl }
  truths_completed (c ∷ due) =
      let h = truths_completed due in
      record { formulas = truth ∷ h.formulas; fit = fits_cons tt h.fit; are = ap (λ (l : List Symbol). Truth ∷ l) h.are }

  module _ (c : K.Context) (due due' : List K.Context) (xs : List Symbol) where
    -- formulas for the parts of a symbol, and one for the symbol
    with_parts : (x : Symbol) → Allows K n c x → (fs : List Formula) → FitAll K n (parts K n c x ++ due) fs → all_symbols fs ≡ xs ++ truths due'
        → Completed K n (c ∷ due) (x ∷ xs) due'
    with_parts Truth allows fs fit e =
        record { formulas = truth ∷ fs; fit = fits_cons tt fit; are = ap (λ (l : List Symbol). Truth ∷ l) e }
    with_parts Falsity allows fs fit e =
        record { formulas = falsity ∷ fs; fit = fits_cons tt fit; are = ap (λ (l : List Symbol). Falsity ∷ l) e }
    with_parts Both allows (f ∷ (g ∷ fs)) (fits_cons a (fits_cons b fit)) e = record {
      formulas = both f g ∷ fs;
      fit = fits_cons {f = both f g} (a, b) fit;
      are = ap (λ (l : List Symbol). Both ∷ l) (append_assoc (symbols f) (symbols g) (all_symbols fs) ∙ e);
    }
    with_parts Both allows (f ∷ []) (fits_cons a b) e = elim b [ ]
    with_parts Both allows [] fit e = elim fit [ ]
    with_parts (Necessity p) allows (f ∷ fs) (fits_cons a fit) e =
        record { formulas = necessity p f ∷ fs; fit = fits_cons {f = necessity p f} (allows, a) fit; are = ap (λ (l : List Symbol). Necessity p ∷ l) e }
    with_parts (Necessity p) allows [] fit e = elim fit [ ]
    with_parts Max allows [] fit e = elim fit [ ]
    with_parts Max allows (f ∷ fs) (fits_cons a fit) e =
        record { formulas = max f ∷ fs; fit = fits_cons a fit; are = ap (λ (l : List Symbol). Max ∷ l) e }
    with_parts (Variable d) allows fs fit e =
        record { formulas = variable d ∷ fs; fit = fits_cons allows fit; are = ap (λ (l : List Symbol). Variable d ∷ l) e }

  consumes_completed : {due due' : List K.Context} {xs : List Symbol} → Consumes K n due xs due' → Completed K n due xs due'
  consumes_completed {due} done = truths_completed due
  consumes_completed {due' = due'} (more {c = c} {due = due} {x = x} {xs = xs} allows rest) =
      let h = consumes_completed rest in with_parts c due due' xs x allows h.formulas h.fit h.are

  -- one formula was due
  pub consumes_completes : {c : K.Context} {due : List K.Context} {xs : List Symbol} → Consumes K n (c ∷ []) xs due
      → (f : Formula) × Fits K n c f × (symbols f ≡ xs ++ truths due)
  consumes_completes {c} {due} {xs} consumes = let h = consumes_completed consumes in on h.formulas h.fit h.are
    where
      on : (fs : List Formula) → FitAll K n (c ∷ []) fs → all_symbols fs ≡ xs ++ truths due
          → (f : Formula) × Fits K n c f × (symbols f ≡ xs ++ truths due)
      on [] fit e = elim fit [ ]
      on (f ∷ []) (fits_cons fits fits_nil) e = (f, fits, rw (append-nil (symbols f)) at e)
      on (f ∷ (f' ∷ fs)) (fits_cons fits others) e = elim others [ ]

-- ---- the two kinds of contexts

pub well_formed_fits : (n : ℕ) (f : Formula) (g : Guards) → WellFormed n g f → Fits guards n g f
well_formed_fits n truth g w = tt
well_formed_fits n falsity g w = tt
well_formed_fits n (both f f') g w = (well_formed_fits n f g w.0, well_formed_fits n f' g w.1)
well_formed_fits n (necessity p f) g w = (w.0, well_formed_fits n f (guarded g) w.1)
well_formed_fits n (max f) g w = well_formed_fits n f (false ∷ g) w
well_formed_fits n (variable d) g w = w

pub fits_well_formed : (n : ℕ) (f : Formula) (g : Guards) → Fits guards n g f → WellFormed n g f
fits_well_formed n truth g w = tt
fits_well_formed n falsity g w = tt
fits_well_formed n (both f f') g w = (fits_well_formed n f g w.0, fits_well_formed n f' g w.1)
fits_well_formed n (necessity p f) g w = (w.0, fits_well_formed n f (guarded g) w.1)
fits_well_formed n (max f) g w = fits_well_formed n f (false ∷ g) w
fits_well_formed n (variable d) g w = w

pub bound_fits : (n : ℕ) (f : Formula) (k : ℕ) → Bound n k f → Fits depths n k f
bound_fits n truth k w = tt
bound_fits n falsity k w = tt
bound_fits n (both f f') k w = (bound_fits n f k w.0, bound_fits n f' k w.1)
bound_fits n (necessity p f) k w = (w.0, bound_fits n f k w.1)
bound_fits n (max f) k w = bound_fits n f (suc k) w
bound_fits n (variable d) k w = w

pub fits_bound : (n : ℕ) (f : Formula) (k : ℕ) → Fits depths n k f → Bound n k f
fits_bound n truth k w = tt
fits_bound n falsity k w = tt
fits_bound n (both f f') k w = (fits_bound n f k w.0, fits_bound n f' k w.1)
fits_bound n (necessity p f) k w = (w.0, fits_bound n f k w.1)
fits_bound n (max f) k w = fits_bound n f (suc k) w
fits_bound n (variable d) k w = w

-- what goes well with guards goes well without
pub consumes_unguarded : {n : ℕ} {due due' : List Guards} {xs : List Symbol} → Consumes guards n due xs due'
    → Consumes depths n (map length due) xs (map length due')
consumes_unguarded done = done
consumes_unguarded (more {x = Truth} allows rest) = more tt (consumes_unguarded rest)
consumes_unguarded (more {x = Falsity} allows rest) = more tt (consumes_unguarded rest)
consumes_unguarded (more {x = Both} allows rest) = more tt (consumes_unguarded rest)
consumes_unguarded (more {c = g} {x = Necessity p} allows rest) = more allows (rw (length-map g (λ b. true)) at (consumes_unguarded rest))
consumes_unguarded (more {x = Max} allows rest) = more tt (consumes_unguarded rest)
consumes_unguarded (more {x = Variable d} allows rest) = more allows.0 (consumes_unguarded rest)
