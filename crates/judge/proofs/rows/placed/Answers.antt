use native.Mathlib.Omega.{arith}
use Rattle.bits.proofs.Packing.{placed_is, placed_lt}
use Rattle.judge.proofs.rows.placed.Goals as goal

pub overflow_cast-result : goal.overflow_cast-result
overflow_cast-result c =
    let a = c.args in rw (placed_is a.x a.c (omega arith) (omega arith)) record { fits = placed_lt a.x a.c (omega arith) (omega arith) }
