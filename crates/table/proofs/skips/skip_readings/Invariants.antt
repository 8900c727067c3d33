use Rattle.ranges.specs.declared.Want.TheVariants.{Reading}
use Rattle.table.specs.Working.Skipping.{Passes}
use Rattle.table.proofs.skips.skip_readings.Given as goal

abbrev pub invariant-loop-left : goal.invariant-loop-left
invariant-loop-left g l =
    Passes (g.S.Source.places l.source) (Reading l.fn.readings) l.fn.from l.fn.behind (Reading l.left) l.at l.count

abbrev pub decreases-loop-left : goal.decreases-loop-left
decreases-loop-left g l = l.left
