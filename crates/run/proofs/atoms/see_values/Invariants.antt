use Rattle.run.proofs.Seen.{ValuesTo}
use Rattle.run.proofs.atoms.see_values.Given as goal

abbrev pub invariant-loop-x : goal.invariant-loop-x
invariant-loop-x l = ValuesTo l.x l.value-items l.initial.seen l.seen
