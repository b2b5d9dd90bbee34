-- That the steps of one model have partners by the rows of a relation is one half of bisimulation, over the steps of the files: a step has an index, and labels
-- are the same as numbers exactly where they are as labels. The other half is the same with the models exchanged, and columns for rows.
use mathlib.Core.Path.{◌≡◌, refl, sym, ◌∙◌, ap}
use mathlib.Core.Logic.{◌↔◌}
use mathlib.Core.List.{List}
use Prim.Native.Nat.{ℕ}
use lib.ListN.{length, get_or}
use Rattle.enforcement.specs.Model.{Label, silent, code}
use Rattle.models.specs.Phone.{Phone, label_of, no_step, StepIn}
use Rattle.models.specs.Pairs.{Pair, Matches}
use Rattle.models.specs.Relating.{Rows, Relates, HavePartners, MatchedBy}
use Rattle.models.proofs.Phones.PhoneCodes.{label_silent, label_code}

-- two numbers with the same label are the same
pub label_same : (x y : ℕ) → label_of x ≡ label_of y → x ≡ y
label_same x y e = on (label_of y) refl
  where
    on : (a : Label) → label_of y ≡ a → x ≡ y
    on silent is = label_silent x (e ∙ is) ∙ sym (label_silent y is)
    on (code c) is = (label_code x c (e ∙ is)).0 ∙ sym (label_code y c is).0

-- ---- one half

-- each step of one model has a partner in the other from every related state
abbrev Forth : (a b : Phone) → (R : (s t : ℕ) → Type 0) → Type 0
Forth a b R = (s s' t : ℕ) (l : Label) → R s t → StepIn a.steps s l s' → (t' : ℕ) × StepIn b.steps t l t' × R s' t'

module _ (a b : Phone) {R : (s t : ℕ) → Type 0} {rows : List ℕ} (r : Rows R rows) where
  partners_forth : HavePartners a.steps (length a.steps) b.steps rows → Forth a b R
  partners_forth have s s' t l related x =
      let step = get_or a.steps x.index no_step in
      let p = have x.index t x.inside (rw x.from_is ((r.are s t).1 related)) in
      let other = get_or b.steps p.index no_step in (
        other.to,
        record { index = p.index; inside = p.inside; from_is = p.from_is; label_is = ap label_of p.label_is ∙ x.label_is; to_is = refl },
        (r.are s' other.to).0 (rw x.to_is at p.leads),
      )

  forth_partners : Forth a b R → HavePartners a.steps (length a.steps) b.steps rows
  forth_partners forth i t inside related =
      let step = get_or a.steps i no_step in
      let x : StepIn a.steps step.from (label_of step.label) step.to = record { index = i; inside = inside; from_is = refl; label_is = refl; to_is = refl } in
      let (t', y, again) = forth step.from step.to t (label_of step.label) ((r.are step.from t).0 related) x in
      record {
        index = y.index;
        inside = y.inside;
        from_is = y.from_is;
        label_is = label_same _ _ y.label_is;
        leads = rw y.to_is ((r.are step.to t').1 again);
      }

-- ---- both halves

pub matched_matches : (a b : Phone) {ps : List Pair} {rows columns : List ℕ} → Relates ps rows columns
    → MatchedBy a.steps b.steps rows columns ↔ Matches a b ps
matched_matches a b r = (
  λ by. record {
    starts = (r.in_rows.are 0 0).0 by.starts;
    bisimulation = record {
      forth = partners_forth a b r.in_rows by.forth;
      back = λ s t t' l related step. partners_forth b a r.in_columns by.back t t' s l related step;
    };
  },
  λ h. record {
    starts = (r.in_rows.are 0 0).1 h.starts;
    forth = forth_partners a b r.in_rows h.bisimulation.forth;
    back = forth_partners b a r.in_columns (λ t t' s l related step. h.bisimulation.back s t t' l related step);
  },
)
