use Rattle.judge.proofs.Bytewise.{Each}
use Rattle.judge.proofs.rows.each_byte.Given as goal

abbrev pub invariant-loop-x : goal.invariant-loop-x
invariant-loop-x g l = Each (λ i x y. goal.F-post g l.operation x y) l.initial.work l.x-index l.work
