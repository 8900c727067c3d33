use native.Mathlib.Omega.{arith}
use Rattle.lasso.specs.Bytes.{positions}
use Rattle.judge.proofs.Composing.{second_put}
use Rattle.judge.proofs.operators.MarkedTrace.fill_second.Goals as goal

pub returns : goal.returns
returns c =
    let e = c.row-row.ensures in
    rw (← e)
    (second_put (positions c.args.self.now.trace.now) c.row-row.result c.args.work.now (omega (arith, e)) (omega (arith, e, c.requires)) c.fill_phase.new.work _
    c.fill_phase.auto.work c.fill_phase.ensures.0)
