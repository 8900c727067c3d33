use Rattle.run.proofs.Seen.{StatesTo}
use Rattle.run.proofs.atoms.see.Given as goal

abbrev pub invariant-loop-i : goal.invariant-loop-i
invariant-loop-i l = StatesTo l.i l.state-items l.initial.seen l.seen
