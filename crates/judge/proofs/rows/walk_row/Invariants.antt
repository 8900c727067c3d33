use Prim.Native.Nat.{◌+◌, ◌*◌}
use Rattle.bits.proofs.Walks.{Carried, Down}
use Rattle.judge.proofs.rows.walk_row.Given as goal

abbrev pub invariant-loop-k : goal.invariant-loop-k
invariant-loop-k l = Carried l.fn.work l.row l.last (l.head + 4 * l.k) l.carry × Down l.fn.work l.row l.last (l.head + 4 * l.k) l.work

abbrev pub invariant-loop-i : goal.invariant-loop-i
invariant-loop-i l = Carried l.fn.work l.row l.last l.i l.carry × Down l.fn.work l.row l.last l.i l.work
