use Rattle.std.proofs.Common.{refl, ◌∙◌, sym, ap}
use Rattle.std.specs.Option.{is_some}
use Rattle.synthesis.proofs.Numberings.Indices.{position_some, insert_old}
use Rattle.synthesis.proofs.Functions.FoundLaws.{not_found, over_limit, inserted, inserted_within}
use Rattle.synthesis.proofs.search.Equations.insert.Goals as goal

pub returns-then-is_some : goal.returns-then-is_some
returns-then-is_some c =
    let l = c.args.self.now.equations in
    let member = position_some c.args.e l (ap is_some (sym c.find.ensures.value) ∙ sym c.is_some.ensures ∙ c.if-is_some.true) in
    rw (insert_old l c.args.e member) c.find.ensures.same

pub returns-then-self : goal.returns-then-self
returns-then-self c =
    let before = c.self.view_is ∙ c.find.ensures.same in
    let absent = not_found c.args.e before c.find.ensures.value (sym c.is_some.ensures ∙ c.if-is_some.false) in
    rw (← before) (c.at.ensures, over_limit c.self.invariant c.self.told.0 c.args.e absent c.if-self.true)

pub invariant_of-self : goal.invariant_of-self
invariant_of-self c =
    let before = c.self.view_is ∙ c.find.ensures.same in
    let absent = not_found c.args.e before c.find.ensures.value (sym c.is_some.ensures ∙ c.if-is_some.false) in
    inserted_within c.self.invariant c.self.told.0 c.args.e absent c.if-self.false

pub returns : goal.returns
returns c =
    let before = c.self.view_is ∙ c.find.ensures.same in
    let absent = not_found c.args.e before c.find.ensures.value (sym c.is_some.ensures ∙ c.if-is_some.false) in
    rw (← before, inserted c.self.invariant c.self.told.0 c.args.e absent c.if-self.false) refl
