use Prim.Native.Nat.{◌*◌}
use mathlib.Core.Bool.{not, ◌||◌}
use lib.ListN.{drop}
use Rattle.bits.specs.Bits.{bit_at}
use Rattle.bits.proofs.Bytes.{Made}
use Rattle.judge.specs.Working.{longest_row}
use Rattle.judge.proofs.rows.fill_neither.Given as goal

abbrev pub invariant-loop-i : goal.invariant-loop-i
invariant-loop-i l =
    Made (λ p. not (bit_at (drop longest_row l.initial.marks) p || bit_at (drop (2 * longest_row) l.initial.marks) p)) l.initial.marks l.i l.marks
