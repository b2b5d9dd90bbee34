-- What the rule page refuses. 18 is 9 under the smaller limit, and beyond 8 a limit refuses nothing but rules with too many equations, since a file that
-- is no rule is refused with 1 to 7. Every other refusal is one of the smaller limit, and so of the desk.
use Prim.Native.Nat.{ℕ, ◌*◌, ◌≤◌, ◌<◌}
use mathlib.Core.Path.{◌≡◌, refl, sym, ◌∙◌, ap}
use mathlib.Core.Logic.{◌↔◌}
use mathlib.Core.List.{List}
use native.Mathlib.Omega.{arith}
use lib.Dec.{ltb}
use lib.ListN.{length}
use borrow.Author.Tests.{ltb-true}
use Rattle.reading.specs.Rule.{Rule, Bytes}
use Rattle.reading.specs.File.{Outcome, accepted, refused, and_then, rule_of}
use Rattle.reading.proofs.Basics.Outcomes.{never_refused, refuse_refused, and_then-refused}
use Rattle.reading.proofs.Refusing.FaultNumbers.{rule_refused_number}
use Rattle.synthesis.specs.Monitor.{mark, most}
use Rattle.synthesis.specs.Answering.{unsatisfiable}
use Rattle.synthesis.specs.Building.{equations_of, Synthesis, within_limit, synthesis_of_rule, synthesis_of, in_table, filling_of, counted_of}
use Rattle.synthesis.specs.Building.{preview_limit, on_page, preview_of, preview_filling_of}
use Rattle.synthesis.specs.PreviewPromises.{OverLimit, PreviewRefusesTooMany, PreviewRefuses, PreviewRefusedUnchanged, MoreAtDesk, DeskShowsMore}
use Rattle.synthesis.proofs.Tables.SynthesisOutcomes.{counted_accepts, counted_refuses, filling_by_count, filling_refuses, filling_accepted}
use Rattle.synthesis.proofs.Tables.Equations.{refuses_too_many}
use Rattle.synthesis.proofs.Tables.Built.{outcome_unchanged, refuses_violated_by_empty}
use Rattle.synthesis.proofs.Tables.Pages.{page_refused, page_other, page_agrees, preview_is, preview_filling-is}
use Rattle.synthesis.proofs.Tables.Previews.{preview_counts, preview_fills_as_counted}

-- ---- 18

-- Beyond 8, a limit on equations refuses a rule alone, with 9 at place 0.
beyond_eight : (limit : ℕ) (s : List ℕ) → Bytes s → (number place : ℕ) → synthesis_of limit s ≡ refused number place → 8 < number
    → (number ≡ 9) × (place ≡ 0) × (r : Rule) × (rule_of s ≡ accepted r)
unfolding synthesis_of
beyond_eight limit s bytes number place e over =
    and_then-refused (rule_of s) (synthesis_of_rule limit) e
    (λ is. absurd (omega (arith, over, (rule_refused_number s bytes number place is).1)))
    (λ r read e'.
    refuse_refused Beyond (unsatisfiable r) 8 0 _ e' (λ t h. absurd (omega (arith, h)))
    (λ f e''. refuse_refused Beyond (ltb limit (length (equations_of limit r))) 9 0 _ e'' (λ t h. (refl, refl, r, read)) (λ f' e'''. absurd (never_refused e'''))) over)
  where
    Beyond : (number place : ℕ) → Type 0
    Beyond number place = 8 < number → (number ≡ 9) × (place ≡ 0) × (r : Rule) × (rule_of s ≡ accepted r)

-- a limit refuses with 9 exactly what is over it
nine_over_limit : (limit : ℕ) (s : List ℕ) (place : ℕ) → Bytes s → (synthesis_of limit s ≡ refused 9 place) ↔ ((place ≡ 0) × OverLimit limit s)
nine_over_limit limit s place bytes = (refused_nine, refuses_nine)
  where
    refused_nine : synthesis_of limit s ≡ refused 9 place → (place ≡ 0) × OverLimit limit s
    refused_nine e =
        let (_, place_is, r, read) = beyond_eight limit s bytes 9 place e (omega arith) in
        let nine : counted_of (synthesis_of limit s) ≡ refused 9 0 = ap counted_of e ∙ ap (refused 9) place_is in
        let not_eight : counted_of (synthesis_of limit s) ≡ refused 8 0 → ⊥ =
        λ eight. let z : refused 9 0 ≡ refused 8 0 = sym nine ∙ eight in let w : ◌≡◌ {A = ℕ} 9 8 = cc in omega arith in (
          place_is,
          record {
            rule = r;
            is = read;
            not_by_empty = λ v. not_eight ((refuses_violated_by_empty limit s bytes r read).1 v);
            none_closed = (refuses_too_many limit s r read not_eight).0 nine;
          },
        )

    refuses_nine : (place ≡ 0) × OverLimit limit s → synthesis_of limit s ≡ refused 9 place
    refuses_nine (place_is, over) =
        counted_refuses (synthesis_of limit s) 9 0
        ((refuses_too_many limit s over.rule over.is
        (λ eight. over.not_by_empty ((refuses_violated_by_empty limit s bytes over.rule over.is).0 eight))).1 over.none_closed)
        ∙ ap (refused 9) (sym place_is)

pub preview_refuses_too_many : PreviewRefusesTooMany
preview_refuses_too_many s place bytes = (
  λ e.
      page_refused (synthesis_of preview_limit s) 18 place (sym (preview_is s) ∙ counted_refuses (preview_of s) 18 place e)
      (λ nine is. (nine_over_limit preview_limit s place bytes).0 nine)
      (λ other is. absurd (omega (arith, (beyond_eight preview_limit s bytes 18 place is (omega arith)).0))),
  λ h. rw (preview_is s, (nine_over_limit preview_limit s place bytes).1 h),
)

-- ---- the page's refusals at the desk

never_nine : (o : Outcome Synthesis) (place : ℕ) → counted_of (on_page o) ≡ refused 9 place → ⊥
never_nine o place e =
    page_refused o 9 place (counted_refuses (on_page o) 9 place e) (λ nine is. omega (arith, is)) (λ other is. other refl)

-- a refusal other than 18 is one other than 9 under the smaller limit
others : (o : Outcome Synthesis) {P : Type 0} (number place : ℕ) → (number ≡ 18 → ⊥) → counted_of (on_page o) ≡ refused number place
    → ((number ≡ 9 → ⊥) → o ≡ refused number place → P) → P
others o number place not-18 e same =
    page_refused o number place (counted_refuses (on_page o) number place e) (λ nine is. absurd (not-18 is)) same

-- which the larger limit has too
filling_others : (s : List ℕ) (capacity number place : ℕ) → (number ≡ 9 → ⊥) → filling_of preview_limit s capacity ≡ refused number place
    → filling_of most s capacity ≡ refused number place
filling_others s capacity number place other e =
    and_then-refused (synthesis_of preview_limit s) (in_table capacity) (sym (filling_by_count preview_limit s capacity) ∙ e)
    (λ is. filling_refuses capacity (filling_by_count most s capacity) ((page_agrees s).others number place other is))
    (λ y is fits. sym ((page_agrees s).fills y is capacity) ∙ e)

filling_refused : (s : List ℕ) (capacity number place : ℕ) → (number ≡ 18 → ⊥)
    → counted_of (on_page (filling_of preview_limit s capacity)) ≡ refused number place → counted_of (filling_of most s capacity) ≡ refused number place
filling_refused s capacity number place not-18 e =
    others (filling_of preview_limit s capacity) number place not-18 e (λ other is. ap counted_of (filling_others s capacity number place other is))

pub preview_refuses : PreviewRefuses
preview_refuses s = record {
  counting = rw (preview_is s) (record {
    never_nine = never_nine (synthesis_of preview_limit s);
    others = λ number place not-18 e.
        others (synthesis_of preview_limit s) number place not-18 e (λ other is. ap counted_of ((page_agrees s).others number place other is));
  });
  nine_at_desk = λ place e. rw (preview_is s, (page_agrees s).refuses 9 place (counted_refuses (synthesis_of most s) 9 place e));
  other_at_desk = λ number place other e.
      let smaller = (page_agrees s).refuses number place (counted_refuses (synthesis_of most s) number place e) in
      rw (preview_is s) (ap counted_of (page_other (synthesis_of preview_limit s) number place other smaller));
  filling = λ capacity. rw (preview_filling-is s capacity) (record {
    never_nine = never_nine (filling_of preview_limit s capacity);
    others = filling_refused s capacity;
  });
  table = λ before number place not-18 e.
      let at_desk_lem = filling_refused s (length before) number place not-18 (rw (preview_filling-is s (length before)) at e) in
      (outcome_unchanged mark before (preview_filling_of s (length before)) number place e).table
      ∙ sym (outcome_unchanged mark before (filling_of most s (length before)) number place at_desk_lem).table;
}

pub preview_refused_unchanged : PreviewRefusedUnchanged
preview_refused_unchanged s table = outcome_unchanged mark table (preview_filling_of s (length table))

-- ---- what the desk shows and the page doesn't

more_counted : (s : List ℕ) → MoreAtDesk (preview_of s) (synthesis_of most s)
more_counted s n number place e e' =
    let (y, is, n-is) = counted_accepts (synthesis_of most s) n e in
    let smaller : synthesis_of preview_limit s ≡ within_limit preview_limit y =
    (page_agrees s).by_limit ∙ ap (λ (o : Outcome Synthesis). and_then o (within_limit preview_limit)) is in
    page_refused (synthesis_of preview_limit s) number place (sym (preview_is s) ∙ counted_refuses (preview_of s) number place e')
    (λ nine is-18. let (_, at, many) = over y n-is 9 place (sym smaller ∙ nine) in (is-18, at, many))
    (λ other same. absurd (other (over y n-is number place (sym smaller ∙ same)).0))
  where
    over : (y : Synthesis) → n ≡ length y.equations → (k q : ℕ) → within_limit preview_limit y ≡ refused k q → (k ≡ 9) × (q ≡ 0) × (preview_limit < n)
    over y n-is k q r =
        refuse_refused (λ k q. (k ≡ 9) × (q ≡ 0) × (preview_limit < n)) (ltb preview_limit (length y.equations)) 9 0 (accepted y) r
        (λ t. (refl, refl, omega (arith, n-is, ltb-true preview_limit (length y.equations) t))) (λ f r'. absurd (never_refused r'))

more_filled : (s : List ℕ) (capacity : ℕ) → MoreAtDesk (preview_filling_of s capacity) (filling_of most s capacity)
more_filled s capacity n number place e e' = on (preview_of s) refl
  where
    -- the desk's count, and room for its rows
    at_desk_lem : (counted_of (synthesis_of most s) ≡ accepted n) × (256 * n ≤ capacity)
    at_desk_lem =
        let (y, is, n-is) = counted_accepts (filling_of most s capacity) n e in
        let (counts, room) = filling_accepted {counting = synthesis_of most s} capacity (filling_by_count most s capacity) y is in
        (ap counted_of counts ∙ ap accepted (sym n-is), omega (arith, room, n-is))

    on : (o : Outcome Synthesis) → preview_of s ≡ o → (number ≡ 18) × (place ≡ 0) × (preview_limit < n)
    on (accepted y) is =
        let n-is : accepted (length y.equations) ≡ accepted n = sym ((preview_counts s _).0 (ap counted_of is)).0 ∙ at_desk_lem.0 in
        let filled = (preview_fills_as_counted s capacity).enough n (ap counted_of is ∙ n-is) at_desk_lem.1 in
        absurd (let z : accepted n ≡ refused number place = sym filled ∙ e' in let w : ◌≡◌ {A = ℕ} 0 1 = cc in omega arith)
    on (refused k q) is =
        let same : refused k q ≡ refused number place = sym ((preview_fills_as_counted s capacity).refused k q (ap counted_of is)) ∙ e' in
        more_counted s n number place at_desk_lem.0 (ap counted_of is ∙ same)

pub desk_shows_more : DeskShowsMore
desk_shows_more s = (more_counted s, more_filled s)
