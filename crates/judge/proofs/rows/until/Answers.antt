use mathlib.Core.Path.{refl}
use native.Mathlib.Omega.{arith}
use lib.Bits.{or_lt}
use lib.Pow.{pow_mono}
use Rattle.bits.specs.Rows.{ripple, until_b}
use Rattle.bits.proofs.Until.{until_lt}
use Rattle.judge.proofs.rows.until.Goals as goal

pub overflow_add-sum : goal.overflow_add-sum
overflow_add-sum c =
    let a = c.args in
    let h = c.requires in
    record { fits = omega (arith, or_lt a.positions a.x a.y h.1 h.2, pow_mono {i = a.positions} {j = 32} h.0) }

pub overflow_add-sum-2 : goal.overflow_add-sum-2
overflow_add-sum-2 c =
    let a = c.args in
    let h = c.requires in
    record { fits = omega (arith, or_lt a.positions a.x a.y h.1 h.2, pow_mono {i = a.positions} {j = 32} h.0) }

pub returns-clause-value : goal.returns-clause-value
unfolding until_b ripple
returns-clause-value c =
    let a = c.args in
    let h = c.requires in
    (refl, until_lt a.positions a.x a.y a.behind h.3 h.1 h.2)
