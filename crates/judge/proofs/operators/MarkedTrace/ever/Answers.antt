use native.Mathlib.Omega.{arith}
use mathlib.Core.Path.{◌∙◌}
use lib.Seq.{length-take-le}
use Rattle.judge.proofs.Composing.{until_of_lem}
use Rattle.judge.proofs.Bytewise.{front_is, back_is, full_is}
use Rattle.judge.proofs.operators.MarkedTrace.ever.Goals as goal

pub returns : goal.returns
returns c =
    let r = c.row-row.result in
    let e = c.row-row.ensures in
    let v = c.repeat.new.work in
    let x = c.fill.new.self in
    let full = c.fill.ensures.after (λ y o. o) in
    let long = length-take-le r v (omega (arith, e, c.requires, c.repeat.auto.work)) in
    let size = c.fill.ensures.len ∙ long in
    until_of_lem c.args.self.now.trace.now c.args.self.now.inside c.until.ensures
    (λ q l. front_is x _ q (omega (arith, size, e)) ∙ rw (full, long) (full_is r q (omega (arith, e))))
    (λ q l. rw (← e, back_is x _ r size, e) (c.repeat.ensures q l))
