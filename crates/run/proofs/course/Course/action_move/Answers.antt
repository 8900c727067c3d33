use mathlib.Core.Path.{sym}
use native.Mathlib.Omega.{arith}
use Rattle.run.proofs.Steps.{short, stopped_by, moved_by}
use Rattle.run.proofs.course.Course.action_move.Goals as goal

pub used_after-used-requires : goal.used_after-used-requires
used_after-used-requires c =
    let h = short c.args.m.used c.too_long.result c.unruled.result c.or.result c.too_long.ensures c.or.ensures c.in-None.is in omega arith

pub returns-in-Some : goal.returns-in-Some
returns-in-Some c =
    sym
    (stopped_by _ c.args.m _ c.step-acted.ensures c.too_long.result c.unruled.result c.or.result c.too_long.ensures c.unruled.ensures c.or.ensures _ c.in-Some.is)

pub returns-in-None : goal.returns-in-None
returns-in-None c =
    rw c.used_after-used.ensures
    (sym
    (moved_by _ c.args.m _ c.step-acted.ensures c.too_long.result c.unruled.result c.or.result c.too_long.ensures c.unruled.ensures c.or.ensures c.in-None.is))
