use native.Mathlib.Omega.{arith}
use mathlib.Core.Path.{ap, ◌∙◌}
use mathlib.Core.Bool.{Bool, ◌&&◌}
use Rattle.lasso.specs.Bytes.{positions}
use Rattle.judge.specs.Working.{is_at}
use Rattle.judge.proofs.Composing.{second_at, second_put}
use Rattle.judge.proofs.operators.MarkedTrace.keep_second.Goals as goal

pub returns : goal.returns
returns c =
    let r = c.row-row.result in
    let e = c.row-row.ensures in
    let t = c.args.self.now.trace.now in
    let w = c.args.work.now in
    rw (← e)
    (second_put (positions t) r w (omega (arith, e)) (omega (arith, e, c.requires)) c.keep.new.work _ c.keep.auto.work
    (λ p l. c.keep.ensures.0 p l
    ∙ ap (λ (b : Bool). b && is_at t c.args.phase p) (second_at (positions t) r w (omega (arith, e)) (omega (arith, e, c.requires)) p l)))
