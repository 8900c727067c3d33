use native.Mathlib.Omega.{arith}
use Rattle.std.proofs.Common.{rules}
use Rattle.std.proofs.lemmas.Grind.{common_steps}
use Rattle.run.specs.Working.Walking.{cleared}
use Rattle.run.proofs.route.clear_from.Goals as goal

pub returns : goal.returns
unfolding cleared
returns c = let h = c.fill.ensures.after (search rules) in grind (arith, common_steps, h, c.min-from.ensures)
