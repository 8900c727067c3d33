use Prim.Native.Nat.{suc}
use Rattle.bits.specs.Bits.{bit_at}
use Rattle.bits.proofs.Bytes.{Made}
use Rattle.judge.proofs.rows.next_row.Given as goal

abbrev pub invariant-loop-i : goal.invariant-loop-i
invariant-loop-i l = Made (λ p. bit_at l.initial.work (suc p)) l.initial.work l.i l.work
