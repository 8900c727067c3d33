use Prim.Native.Nat.{◌*◌}
use lib.ListN.{length}
use Rattle.bits.specs.Bits.{bit_at}
use Rattle.judge.specs.Working.{Listing}
use Rattle.judge.proofs.findings.list_row.Given as goal

abbrev pub invariant-loop-i : goal.invariant-loop-i
invariant-loop-i l = Listing (bit_at l.row) (8 * length l.row) l.initial.list l.at (8 * l.i) l.list
