use native.Mathlib.Omega.{arith}
use Rattle.requirement.specs.Walking.{walk_at}
use Rattle.judge.proofs.Tallying.{room_some, tallied}
use Rattle.judge.proofs.judge_rows.Goals as goal

pub returns : goal.returns
returns c =
    let a = c.args in
    let l = c.judge_node.auto.work in
    let m = c.keep_failing.auto.work in
    tallied a.trace.now a.start c.judge_node.new.work c.keep_failing.new.work
    c.judge_node.result c.row.result c.count_row-count.result
    (walk_at a.kind a.depth a.code.now 0) c.requires.1.inside (omega (arith, c.slice_known-3-1.given 0)) c.row.ensures
    (omega (arith, room_some c.requires.0 c.requires.1))
    c.judge_node.ensures c.keep_failing.ensures.0 c.keep_failing.ensures.1
    c.count_row-count.ensures
