use mathlib.Core.Path.{refl}
use mathlib.Core.Logic.{◌≢◌}
use Prim.Native.Nat.{◌+◌, ◌-◌}
use native.Mathlib.Omega.{arith}
use lib.Seq.{get_or-set_other}
use Rattle.bits.proofs.Bytes.{padded}
use Rattle.judge.proofs.rows.pad.Goals as goal

pub returns : goal.returns
returns c =
    let a = c.args in
    let i = a.row - 1 in
    let apart : a.row + i ≢ i = omega arith in
    rw (get_or-set_other a.work.now i (a.row + i) _ 0 apart, c.low-behind.ensures)
    (padded a.n a.row i (a.row + i) _ a.work.now (omega arith) (omega arith) (omega arith) refl refl refl)
