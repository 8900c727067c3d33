use Prim.Native.Nat.{◌-◌}
use Rattle.run.specs.Limits.{last_state}
use Rattle.run.proofs.Onward.{Left, Known}
use Rattle.run.proofs.course.Course.run_to.Given as goal

abbrev pub invariant-loop-m : goal.invariant-loop-m
invariant-loop-m l =
    Left l.self.table.now l.self.inputs.now l.k l.initial.n l.initial.m l.initial.trace l.n l.m l.trace × Known l.self.table.now l.m l.atoms

abbrev pub decreases-loop-m : goal.decreases-loop-m
decreases-loop-m l = last_state - l.n
