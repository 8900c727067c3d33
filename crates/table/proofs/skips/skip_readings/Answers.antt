use Rattle.table.proofs.Stands.{seen}
use Rattle.table.proofs.skips.skip_readings.Goals as goal

pub loop-left-preserved : goal.loop-left-preserved
loop-left-preserved g c =
    let turns = g.met.S.Source.turns c.args.source in
    seen turns c.loop-left.invariant c.in-Ok.ensures c.loop-left-test.true
