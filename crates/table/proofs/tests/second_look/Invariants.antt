use Rattle.std.specs.Prelude.{Ok}
use Prim.Native.Nat.{◌-◌}
use Rattle.table.proofs.SecondLook.{Tests}
use Rattle.table.proofs.tests.second_look.Given as goal

abbrev pub invariant-loop-number : goal.invariant-loop-number
invariant-loop-number g l = Tests l.most l.counts (Ok l.accepted) (g.S.Source.places l.source) l.want l.at

abbrev pub decreases-loop-number : goal.decreases-loop-number
decreases-loop-number g l = (g.S.Source.places l.source).size - l.at
