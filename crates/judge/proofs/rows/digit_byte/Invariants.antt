use Rattle.bits.proofs.Packing.{Packing}
use Rattle.judge.specs.Working.{digit_in}
use Rattle.judge.proofs.rows.digit_byte.Given as goal

abbrev pub invariant-loop-j : goal.invariant-loop-j
invariant-loop-j l = Packing (digit_in l.trace l.column l.k) l.p l.k l.j l.digits
