use Prim.Native.Nat.{◌-◌}
use Rattle.ranges.specs.declared.Want.TheVariants.{Op}
use Rattle.table.specs.Working.Skipping.{Passes}
use Rattle.table.proofs.skips.skip_actions.Given as goal

abbrev pub invariant-loop-here : goal.invariant-loop-here
invariant-loop-here g l =
    Passes (g.S.Source.places l.source) (Op l.shape l.fn.spot) l.fn.from l.fn.behind (Op l.shape l.here) l.at l.count

abbrev pub decreases-loop-here : goal.decreases-loop-here
decreases-loop-here g l = l.here.actions - l.here.action
