use mathlib.Core.Path.{◌∙◌}
use Rattle.coding.proofs.Refusing.{handed_on}
use Rattle.requirement.proofs.Parts.{whole_checked}
use Rattle.requirement.proofs.check.Goals as goal

pub returns-in_err-tree : goal.returns-in_err-tree
returns-in_err-tree g c =
    handed_on _ _ c.from_residual.ensures.1 (whole_checked _ _ _ _ c.depth_limit.ensures c.node_limit.ensures _ c.in_err-tree.ensures)

pub returns : goal.returns
returns g c =
    c.whole.ensures
    ∙ whole_checked _ _ _ _ c.depth_limit.ensures c.node_limit.ensures _ c.in_ok-tree.ensures
