use native.Mathlib.Omega.{arith}
use Rattle.run.proofs.Closing.{in_scan, halts_first, halts_later, goes_through}
use Rattle.run.proofs.route.walk.Goals as goal

pub halted-requires : goal.halted-requires
halted-requires c =
    in_scan _ _ _ 0 c.begin.result _ _ _ c.run_to-back.ensures _ c.in-Some.is (omega arith)

pub returns-in-Some : goal.returns-in-Some
returns-in-Some c =
    rw (← c.new-course.ensures.0, ← c.new-course.ensures.1, c.halted.ensures)
    (halts_first _ _ _ _ _ _ _ c.run_to-back.ensures c.return_scan-b.ensures c.begin.ensures _ c.in-Some.is)

pub halted-requires-in-Some-stopped : goal.halted-requires-in-Some-stopped
halted-requires-in-Some-stopped c =
    in_scan _ _ _ c.run_to-back.result.number c.run_to-back.result.machine _ _ _ c.run_to-last.ensures _
    c.in-Some-stopped.is (omega arith)

pub returns-in-Some-stopped : goal.returns-in-Some-stopped
returns-in-Some-stopped c =
    rw (← c.new-course.ensures.0, ← c.new-course.ensures.1, c.halted-in-Some-stopped.ensures)
    (halts_later _ _ _ _ _ _ _ c.run_to-back.ensures _ _ _ c.run_to-last.ensures c.return_scan-b.ensures
    c.begin.ensures c.scans-q.ensures c.in_default.is _ c.in-Some-stopped.is)

pub returns-in-None : goal.returns-in-None
returns-in-None c =
    rw (← c.new-course.ensures.0, ← c.new-course.ensures.1, c.close.ensures)
    (goes_through _ _ _ _ _ _ _ c.run_to-back.ensures _ _ _ c.run_to-last.ensures c.return_scan-b.ensures
    c.begin.ensures c.scans-q.ensures c.in_default.is c.in-None.is)
