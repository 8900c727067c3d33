use mathlib.Core.Path.{◌∙◌}
use Rattle.judge.proofs.Packing.{atom_digit}
use Rattle.judge.proofs.rows.fill_atom.Goals as goal

pub returns : goal.returns
returns c =
    let a = c.args in
    λ p h. c.fill_digit.ensures p h ∙ atom_digit a.trace.now a.a p
