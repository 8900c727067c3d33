use mathlib.Core.Path.{◌∙◌}
use Rattle.requirement.proofs.Parts.{left_over, all_read_lem}
use Rattle.requirement.proofs.tree.whole.Goals as goal

pub returns-then-part-size : goal.returns-then-part-size
returns-then-part-size g c =
    let turns = g.met.S.Source.turns c.args.source in
    rw c.at.ensures (left_over _ turns _ _ _ _ (rw c.size.ensures at c.if-part-size.true))

pub returns : goal.returns
returns g c =
    let turns = g.met.S.Source.turns c.args.source in
    all_read_lem _ turns _ _ _ _ _ _ (c.saturating_sub.ensures ∙ rw c.node_limit.ensures) (c.saturating_sub-2.ensures ∙ rw c.depth_limit.ensures) (rw c.size.ensures at c.if-part-size.false)
