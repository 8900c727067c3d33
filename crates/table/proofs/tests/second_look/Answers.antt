use mathlib.Core.Path.{refl, sym, ◌∙◌}
use Rattle.table.specs.declared.tests.Ruling.TheVariants.{Wrong, Behind}
use Rattle.table.proofs.SecondLook.{stops, says_so, no_more, goes_on}
use Rattle.table.proofs.tests.second_look.Goals as goal

pub returns : goal.returns
returns g c =
    let turns = g.met.S.Source.turns c.args.source in
    stops turns c.loop-number.invariant _ c.in_default.ensures

pub returns-in-Wrong : goal.returns-in-Wrong
returns-in-Wrong g c =
    let turns = g.met.S.Source.turns c.args.source in
    rw c.at.ensures (says_so turns c.loop-number.invariant _ _ c.in-Ok.ensures _ c.role_of.ensures Wrong
    (sym c.in-Wrong.is ∙ c.test_says.ensures) _ refl)

pub returns-in-Behind : goal.returns-in-Behind
returns-in-Behind g c =
    let turns = g.met.S.Source.turns c.args.source in
    says_so turns c.loop-number.invariant _ _ c.in-Ok.ensures _ c.role_of.ensures Behind
    (sym c.in-Behind.is ∙ c.test_says.ensures) _ refl

pub returns-in_default-advance : goal.returns-in_default-advance
returns-in_default-advance g c =
    let turns = g.met.S.Source.turns c.args.source in
    no_more turns c.loop-number.invariant _ _ c.in-Ok.ensures _ c.role_of.ensures (sym c.in-Fine.is ∙ c.test_says.ensures)
    (λ to h. c.in_default-advance.not-More to (c.advance.ensures ∙ h))

pub loop-number-preserved : goal.loop-number-preserved
loop-number-preserved g c =
    let turns = g.met.S.Source.turns c.args.source in
    goes_on turns c.loop-number.invariant _ _ c.in-Ok.ensures _ _ c.role_of.ensures
    (sym c.in-Fine.is ∙ c.test_says.ensures)
    (sym c.in-More.is ∙ c.advance.ensures)
