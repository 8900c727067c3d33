use native.Mathlib.Omega.{arith}
use mathlib.Core.Path.{ap}
use lib.ListN.{length}
use Rattle.coding.specs.Working.Rows.{no_values, next_values, next_row}
use Rattle.coding.proofs.count_numbers.Goals as goal

pub returns : goal.returns
returns c =
    let e = c.in_default.ensures in
    omega (arith, c.loop-number.invariant.0, ap length (no_values _ _ _ _ e))

pub loop-number-smaller : goal.loop-number-smaller
loop-number-smaller c =
    let e = c.in-Ok.ensures in
    omega (arith, next_row _ _ _ _ e)

pub loop-number-preserved : goal.loop-number-preserved
loop-number-preserved c =
    let e = c.in-Ok.ensures in
    let r = next_row _ _ _ _ e in
    (omega (arith, c.loop-number.invariant.0, ap length (next_values _ _ _ _ e)), omega (arith, c.loop-number.invariant.1, r.1), r.2)
