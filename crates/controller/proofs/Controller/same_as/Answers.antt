use mathlib.Core.Path.{◌∙◌}
use Rattle.controller.proofs.Equal.{eq_is_same_state}
use Rattle.controller.proofs.Controller.same_as.Goals as goal

pub returns : goal.returns
returns c = c.eq.ensures ∙ eq_is_same_state c.args.self c.args.other
