use mathlib.Core.Path.{◌∙◌}
use Rattle.interface.proofs.Tells.{judged_is}
use Rattle.interface.proofs.scancheck_judge.Goals as goal

pub returns : goal.returns
returns c =
    rw (← c.kind_of.ensures) (_, c.tell.ensures ∙ judged_is _, c.judge.ensures)
