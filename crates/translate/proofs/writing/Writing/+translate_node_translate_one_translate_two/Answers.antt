use Rattle.requirement.specs.Walking.{walk_at}
use Rattle.requirement.proofs.Walking.{walk_none}
use Rattle.translate.specs.Writing.{untranslated}
use Rattle.translate.proofs.Steps.{no_node, by_node, wrote_atom, wrote_mark, wrote_one, wrote_two}
use Rattle.translate.proofs.writing.Writing.+translate_node_translate_one_translate_two.Goals as goal

pub translate_node-returns-then-depth-eq0 : goal.translate_node-returns-then-depth-eq0
translate_node-returns-then-depth-eq0 t c =
    rw (walk_none _ _ _ _ c.if-depth-eq0.true) tt

pub translate_node-returns-in_default : goal.translate_node-returns-in_default
translate_node-returns-in_default t c =
    rw (no_node _ _ _ c.if-depth-eq0.false _ c.in_default.ensures) tt

pub translate_node-returns-in-Atom : goal.translate_node-returns-in-Atom
translate_node-returns-in-Atom t c =
    wrote_atom _ _ _ c.if-depth-eq0.false _ _ c.in-Ok.ensures _ c.in-Atom.is c.put.ensures

pub translate_node-returns-in-Mark : goal.translate_node-returns-in-Mark
translate_node-returns-in-Mark t c =
    wrote_mark _ _ _ c.if-depth-eq0.false _ _ c.in-Ok.ensures _ c.in-Mark.is _
    c.mark_number.ensures c.put-in-Mark.ensures

pub translate_node-returns-in-OverOne : goal.translate_node-returns-in-OverOne
translate_node-returns-in-OverOne t c =
    rw (by_node _ _ _ c.if-depth-eq0.false _ _ c.in-Ok.ensures _ c.in-OverOne.is)
    c.translate_one.ensures

pub translate_node-returns-in-OverTwo : goal.translate_node-returns-in-OverTwo
translate_node-returns-in-OverTwo t c =
    rw (by_node _ _ _ c.if-depth-eq0.false _ _ c.in-Ok.ensures _ c.in-OverTwo.is)
    c.translate_two.ensures

pub translate_one-returns : goal.translate_one-returns
translate_one-returns t c =
    let a = c.args in
    wrote_one _ a.operator (walk_at untranslated a.depth a.code.now a.at) c.one_before.ensures
    c.translate_node-next.ensures c.one_behind.ensures

pub translate_two-returns : goal.translate_two-returns
translate_two-returns t c =
    let a = c.args in
    wrote_two _ _ a.operator (λ next. walk_at untranslated a.depth a.code.now next)
    (walk_at untranslated a.depth a.code.now a.at) c.two_before.ensures c.translate_node-second.ensures
    c.two_between.ensures c.translate_node-next.ensures c.two_behind.ensures
