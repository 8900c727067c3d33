use Rattle.judge.specs.Working.{digit_in}
use Rattle.bits.proofs.Bytes.{Made}
use Rattle.judge.proofs.rows.fill_digit.Given as goal

abbrev pub invariant-loop-i : goal.invariant-loop-i
invariant-loop-i l = Made (digit_in l.trace l.column l.k) l.initial.work l.i l.work
