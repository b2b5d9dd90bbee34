-- What judging answers and leaves: a law for each way out, and what its calls ask for. For an accepted rule and model, the search finds a dropped
-- step exactly where the model doesn't satisfy the rule, since the table monitors the rule.
use Prim.Native.Nat.{ℕ, ◌≤◌}
use mathlib.Core.Path.{◌≡◌, refl, sym, ◌∙◌, ap, subst}
use mathlib.Core.Logic.{◌↔◌, inl, inr}
use mathlib.Core.Bool.{Bool, true, false, true≢false}
use mathlib.Core.List.{List}
use native.Mathlib.Omega.{arith}
use lib.ListN.{length}
use Rattle.reading.specs.Rule.{Rule, Bytes}
use Rattle.reading.specs.File.{Outcome, accepted, refused}
use Rattle.synthesis.specs.Monitor.{mark, most, lookup}
use Rattle.synthesis.specs.Table.{WellFormedTable}
use Rattle.synthesis.specs.Building.{Synthesis, filling_of, counted_of, table_after, table_left, Fills}
use Rattle.synthesis.proofs.Tables.WellFormedTables.{well_formed_weaken}
use Rattle.synthesis.proofs.Tables.SynthesisOutcomes.{counted_accepts, counted_refuses}
use Rattle.synthesis.proofs.Tables.Built.{fills_accepted, table_monitors, built_well_formed}
use Rattle.enforcement.specs.Model.{SatisfiesDecided}
use Rattle.models.specs.Phone.{Phone, model_of, phone_of}
use Rattle.models.specs.Judging.{stored, model_reading_of, judging_of, JudgedAs, table_judged}
use Rattle.models.specs.Exploring.{NeverDrops, StepsWithinLimits, model_with}
use Rattle.models.specs.declared.Step.{Step}
use Rattle.models.specs.declared.PhoneModel.{PhoneModel}
use Rattle.models.specs.declared.Judgment.{Judgment}
use Rattle.enforcement.proofs.SatisfactionLaws.{satisfies_safe}
use Rattle.models.proofs.Pairs.NeverDropping.{never_drops_safe}
use Rattle.models.proofs.Files.ReadModels.{ModelRead, model_read, model_unread, steps_are, read_steps}
use Rattle.models.proofs.Phones.PhoneCodes.{phone_codes}
use Rattle.models.proofs.Phones.DecidedSets.{decided_satisfies}
use Rattle.models.proofs.Judgments.JudgingOrder.{judging_refused, judging_model_refused}
use Rattle.models.proofs.Judgments.JudgingLaws.{judging_case}
use Rattle.models.specs.declared.Judgment.TheVariants.{Meets, Breaks}

-- ---- the answer and the table

module _ (limit : ℕ) (small : limit ≤ most) (s table f : List ℕ) where
  -- what a call answers, and the table after it
  abbrev Judges : (answer : Outcome Judgment) → (after : List ℕ) → Type 0
  Judges answer after =
      JudgedAs (judging_of limit s (length table) f) answer
      × (after ≡ table_judged (judging_of limit s (length table) f) (table_left limit mark s table) table)

  -- ---- the answer where the rule or the model is refused

  refused_judges : {number place : ℕ} → judging_of limit s (length table) f ≡ refused number place
      → {answer : Outcome Judgment} → answer ≡ refused number place → Judges answer table
  refused_judges e is = rw e (is, refl)

  module _ {number place : ℕ} (filling : refused number place ≡ counted_of (filling_of limit s (length table))) where
    filling_refused : filling_of limit s (length table) ≡ refused number place
    filling_refused = counted_refuses (filling_of limit s (length table)) number place (sym filling)

    pub judges_rule_refused : {answer : Outcome Judgment} → answer ≡ refused number place → Judges answer table
    judges_rule_refused is = refused_judges (judging_refused limit s (length table) filling_refused f) is

    -- and what filling leaves then
    pub rule_leaves : {answer : Outcome Judgment} {after : List ℕ} → answer ≡ refused number place → after ≡ table_left limit mark s table → Judges answer after
    rule_leaves is left =
        rw (left ∙ ap (λ (o : Outcome Synthesis). table_after mark o table) filling_refused) (judges_rule_refused is)

  pub judges_model_refused : {n : ℕ} → accepted n ≡ counted_of (filling_of limit s (length table))
      → {number place : ℕ} → refused number place ≡ model_reading_of (phone_of f)
      → {answer : Outcome Judgment} → answer ≡ refused number place → Judges answer table
  judges_model_refused {n} filling read is =
      let (y, fills, _) = counted_accepts (filling_of limit s (length table)) n (sym filling) in
      refused_judges (judging_model_refused limit s (length table) fills f (model_unread f read)) is

  -- ---- a rule and a model that were accepted, and what the calls ask for

  -- the rule and the model of the files, the table that filling leaves, and the struct that has the model
  pub record Accepts (after : List ℕ) (model : PhoneModel) : Type 0 where
    pub rule : Rule
    pub count : ℕ
    pub fills : Fills limit mark s table rule count after
    pub read : ModelRead f model

  pub both_accepted : {n : ℕ} {after : List ℕ} {model : PhoneModel} → Bytes s → Bytes f
      → accepted model ≡ model_reading_of (phone_of f) → accepted n ≡ counted_of (filling_of limit s (length table)) → after ≡ table_left limit mark s table
      → Accepts after model
  both_accepted {n} rule_bytes bytes read counted left =
      let (rule, fills) = fills_accepted limit mark s table n (omega arith) rule_bytes (sym counted) in
      record {
        rule = rule;
        count = n;
        fills = subst (Fills limit mark s table rule n) (sym left) fills;
        read = model_read f bytes read;
      }

  module _ {after : List ℕ} {model : PhoneModel} (a : Accepts after model) where
    pub model_steps : {steps : List Step} → ((y : Phone) → model ≡ stored y → steps ≡ y.steps) → StepsWithinLimits steps
    model_steps are = read_steps a.read are

    abbrev phone : Phone
    phone = a.read.has.phone

    pub table_well_formed : (count : ℕ) × WellFormedTable most mark count after
    table_well_formed = (a.count, well_formed_weaken most small (built_well_formed limit mark s table a.rule a.count after a.fills))

    -- ---- the answer of the search

    -- nothing is dropped exactly where the model satisfies the rule
    never_drops_satisfies :
        NeverDrops (lookup 256 mark after) 0 (model_of phone) ↔ SatisfiesDecided (model_of phone) a.rule
    never_drops_satisfies =
        let m = model_of phone in
        let monitors = table_monitors limit mark s table a.rule a.count after a.fills in
        let safe = never_drops_safe ℕ a.rule (lookup 256 mark after) 0 monitors m (phone_codes phone a.read.has.within_limits.well_formed) in
        let satisfies = satisfies_safe m a.rule in
        let decided = decided_satisfies phone a.rule in
        (λ never. decided.1 (satisfies.1 (safe.0 never)), λ sat. safe.1 (satisfies.0 (decided.0 sat)))

    module _ {steps : List Step} (are : (y : Phone) → model ≡ stored y → steps ≡ y.steps)
        {r : Bool} (never : (r ≡ true) ↔ NeverDrops (lookup 256 mark after) 0 (model_with steps)) where
      judging_is : judging_of limit s (length table) f ≡ accepted (record { rule = a.rule; phone = phone })
      judging_is = judging_case a.fills f phone a.read.phone_is

      -- the search finds no dropped step exactly where there is none
      search_iff : (r ≡ true) ↔ NeverDrops (lookup 256 mark after) 0 (model_of phone)
      search_iff = rw (steps_are a.read are) at never

      pub judges_meets : r ≡ true → Judges (accepted Meets) after
      judges_meets e = rw judging_is (inl (refl, never_drops_satisfies.0 (search_iff.0 e)), a.fills.left_is)

      pub judges_breaks : r ≡ false → Judges (accepted Breaks) after
      judges_breaks e = rw judging_is (inr (refl, λ sat. true≢false (sym (search_iff.1 (never_drops_satisfies.1 sat)) ∙ e)), a.fills.left_is)
