use native.Mathlib.Omega.{arith}
use Rattle.table.proofs.Stands.{few_behind, acted}
use Rattle.table.proofs.skips.skip_actions.Goals as goal

pub overflow_add-count : goal.overflow_add-count
overflow_add-count g c = omega (arith, few_behind (acted c.loop-here.invariant c.in-Some.ensures) c.requires)

pub loop-here-preserved : goal.loop-here-preserved
loop-here-preserved g c = acted c.loop-here.invariant c.in-Some.ensures
