use Rattle.std.proofs.Common.{rules}
use Rattle.run.proofs.Seen.{value_more, all_values}
use Rattle.run.proofs.atoms.see_values.Goals as goal

pub loop-x-preserved : goal.loop-x-preserved
loop-x-preserved c = value_more _ _ _ _ (search rules) (search rules) c.loop-x-test.true c.loop-x.invariant

pub returns : goal.returns
returns c = all_values _ _ _ _ c.loop-x-test.false c.loop-x.invariant
