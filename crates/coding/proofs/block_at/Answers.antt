use native.Mathlib.Omega.{arith}
use Rattle.coding.proofs.Blocks.{begins_inside}
use Rattle.coding.proofs.block_at.Goals as goal

pub overflow_sub-left : goal.overflow_sub-left
overflow_sub-left c = omega (arith, begins_inside _ _ _ _ c.in_ok-length.ensures)
