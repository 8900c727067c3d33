use Rattle.run.proofs.LaidOut.{looks_inside}
use Rattle.run.proofs.atoms.laid_test.Goals as goal

pub invariant_of-result : goal.invariant_of-result
invariant_of-result c = record { in_sight = rw c.looks_at.ensures (looks_inside c.args.test) }
