use Rattle.std.proofs.lemmas.Result.{err_from_is_err_and}
use Rattle.requirement.proofs.Parts.{atom_none, atom_big, atom_small}
use Rattle.requirement.proofs.tree.atom.Goals as goal

pub returns-in_err-number : goal.returns-in_err-number
returns-in_err-number g c =
    let turns = g.met.S.Source.turns c.args.source in
    let p = err_from_is_err_and c.from_residual.result c.from_residual.ensures.1 in
    rw (p.1, p.2) (atom_none _ turns _ _ _ _ _ c.in_err-number.ensures)

pub returns-then-number-gt-HIGHEST_ATOM : goal.returns-then-number-gt-HIGHEST_ATOM
returns-then-number-gt-HIGHEST_ATOM g c =
    let turns = g.met.S.Source.turns c.args.source in
    rw c.at.ensures (atom_big _ turns _ _ _ _ _ c.in_ok-number.ensures c.if-number-gt-HIGHEST_ATOM.true)

pub returns : goal.returns
returns g c =
    let turns = g.met.S.Source.turns c.args.source in
    atom_small _ turns _ _ _ _ _ c.in_ok-number.ensures c.if-number-gt-HIGHEST_ATOM.false
