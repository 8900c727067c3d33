use Prim.Native.Nat.{◌-◌}
use Rattle.table.proofs.FirstLook.{Looks}
use Rattle.table.proofs.look.Given as goal

abbrev pub invariant-loop-number : goal.invariant-loop-number
invariant-loop-number g l = Looks l.most (g.S.Source.places l.source) l.fn.first l.counts l.want l.at l.n

abbrev pub decreases-loop-number : goal.decreases-loop-number
decreases-loop-number g l = (g.S.Source.places l.source).size - l.at
