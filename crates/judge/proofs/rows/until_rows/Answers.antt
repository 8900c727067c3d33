use native.Mathlib.Omega.{arith}
use Rattle.bits.specs.Rows.{row_of}
use Rattle.bits.proofs.Walks.{until_lasso, at_until}
use Rattle.judge.proofs.rows.until_rows.Goals as goal

pub returns : goal.returns
unfolding at_until
returns c =
    let a = c.args in
    until_lasso a.n a.start (row_of a.n) a.work.now _ _ c.join-v.result (omega arith) (omega arith) c.pad.ensures
    c.join-v.ensures c.walk_row.ensures
