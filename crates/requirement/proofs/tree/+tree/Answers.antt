use Rattle.std.proofs.lemmas.Result.{err_from_is_err_and}
use Rattle.requirement.proofs.Parts.{no_tag, unknown_tag, past_limit, at_mark, at_atom, at_one, at_two_refused, at_second_refused, at_two}
use Rattle.requirement.proofs.tree.+tree.Goals as goal

pub returns-in_err-number : goal.returns-in_err-number
returns-in_err-number g t c =
    let turns = g.met.S.Source.turns c.args.source in
    let p = err_from_is_err_and c.from_residual.result c.from_residual.ensures.1 in
    rw (p.1, p.2) (no_tag _ _ _ _ turns _ _ _ c.in_err-number.ensures)

pub returns-in_default : goal.returns-in_default
returns-in_default g t c =
    let turns = g.met.S.Source.turns c.args.source in
    rw c.at.ensures (unknown_tag _ _ _ _ turns _ _ _ c.in_ok-number.ensures _ c.tag_in.ensures c.in_default.is)

pub returns-then-depth-eq0 : goal.returns-then-depth-eq0
returns-then-depth-eq0 g t c =
    let turns = g.met.S.Source.turns c.args.source in
    rw c.at-then-depth-eq0.ensures
    (past_limit _ _ _ _ turns _ _ _ c.in_ok-number.ensures _ c.tag_in.ensures _ (rw c.in-Some.is) c.then-depth-eq0.either)

pub returns-in_err-tree-in-OverTwo : goal.returns-in_err-tree-in-OverTwo
returns-in_err-tree-in-OverTwo g t c =
    let turns = g.met.S.Source.turns c.args.source in
    let p = err_from_is_err_and c.from_residual-in_err-tree-in-OverTwo.result c.from_residual-in_err-tree-in-OverTwo.ensures.1 in
    rw (p.1, p.2)
    (at_two_refused _ _ _ _ turns _ _ _ c.in_ok-number.ensures _ c.tag_in.ensures c.if-depth-eq0.false c.if-left-eq0.false _ (rw c.in-OverTwo.is at c.in-Some.is) _ _
    c.in_err-tree-in-OverTwo.ensures)

pub returns-in_err-tree-in-OverTwo-2 : goal.returns-in_err-tree-in-OverTwo-2
returns-in_err-tree-in-OverTwo-2 g t c =
    let turns = g.met.S.Source.turns c.args.source in
    let p = err_from_is_err_and c.from_residual-in_err-tree-in-OverTwo-2.result c.from_residual-in_err-tree-in-OverTwo-2.ensures.1 in
    rw (p.1, p.2)
    (at_second_refused _ _ _ _ turns _ _ _ c.in_ok-number.ensures _ c.tag_in.ensures c.if-depth-eq0.false c.if-left-eq0.false _ (rw c.in-OverTwo.is at c.in-Some.is) _ _ _
    c.in_ok-tree-in-OverTwo.ensures _ _ c.in_err-tree-in-OverTwo-2.ensures)

pub returns-in-Mark : goal.returns-in-Mark
returns-in-Mark g t c =
    let turns = g.met.S.Source.turns c.args.source in
    at_mark _ _ _ _ turns _ _ _ c.in_ok-number.ensures _ c.tag_in.ensures c.if-depth-eq0.false c.if-left-eq0.false _ (rw c.in-Mark.is at c.in-Some.is)

pub returns-in-Atom : goal.returns-in-Atom
returns-in-Atom g t c =
    let turns = g.met.S.Source.turns c.args.source in
    at_atom _ _ _ _ turns _ _ _ c.in_ok-number.ensures _ c.tag_in.ensures c.if-depth-eq0.false c.if-left-eq0.false (rw c.in-Atom.is at c.in-Some.is) _ c.atom.ensures

pub returns-in_err-tree-in-OverOne : goal.returns-in_err-tree-in-OverOne
returns-in_err-tree-in-OverOne g t c =
    let turns = g.met.S.Source.turns c.args.source in
    let p = err_from_is_err_and c.from_residual-in_err-tree-in-OverOne.result c.from_residual-in_err-tree-in-OverOne.ensures.1 in
    rw (p.1, p.2)
    (at_one _ _ _ _ turns _ _ _ c.in_ok-number.ensures _ c.tag_in.ensures c.if-depth-eq0.false c.if-left-eq0.false _ (rw c.in-OverOne.is at c.in-Some.is) _
    c.in_err-tree-in-OverOne.ensures)

pub returns-in_ok-tree-in-OverOne : goal.returns-in_ok-tree-in-OverOne
returns-in_ok-tree-in-OverOne g t c =
    let turns = g.met.S.Source.turns c.args.source in
    at_one _ _ _ _ turns _ _ _ c.in_ok-number.ensures _ c.tag_in.ensures c.if-depth-eq0.false c.if-left-eq0.false _ (rw c.in-OverOne.is at c.in-Some.is) _
    c.in_ok-tree-in-OverOne.ensures

pub returns-in_ok-tree-in-OverTwo-2 : goal.returns-in_ok-tree-in-OverTwo-2
returns-in_ok-tree-in-OverTwo-2 g t c =
    let turns = g.met.S.Source.turns c.args.source in
    rw c.min-part.ensures
    (at_two _ _ _ _ turns _ _ _ c.in_ok-number.ensures _ c.tag_in.ensures c.if-depth-eq0.false c.if-left-eq0.false _ (rw c.in-OverTwo.is at c.in-Some.is) _ _ _
    c.in_ok-tree-in-OverTwo.ensures _ c.in_ok-tree-in-OverTwo-2.ensures)
