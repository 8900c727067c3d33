use Rattle.judge.proofs.operators.MarkedTrace.next_in.Goals as goal

pub returns-in-Each : goal.returns-in-Each
returns-in-Each c = rw (c.in-Each.is, ← c.phase_of-phase.ensures) c.second_of_sequence.ensures
