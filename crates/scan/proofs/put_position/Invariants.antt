use Prim.Native.Nat.{◌+◌}
use mathlib.Core.Path.{◌≡◌}
use lib.ListN.{drop}
use Rattle.coding.specs.Room.{over}
use Rattle.scan.proofs.put_position.Given as goal

abbrev pub invariant-loop-k : goal.invariant-loop-k
invariant-loop-k l = over l.trace (l.at + l.k) (drop l.k l.byte-items) ≡ over l.initial.trace l.at l.byte-items
