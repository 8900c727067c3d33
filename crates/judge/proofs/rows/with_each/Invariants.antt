use lib.ListN.{get_or}
use Rattle.judge.proofs.Bytewise.{Each}
use Rattle.judge.proofs.rows.with_each.Given as goal

abbrev pub invariant-loop-i : goal.invariant-loop-i
invariant-loop-i g l = Each (λ i x y. goal.F-post g l.operation x (get_or l.other i 0) y) l.initial.work l.i l.work
