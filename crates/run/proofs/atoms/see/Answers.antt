use mathlib.Core.Path.{◌∙◌}
use Rattle.std.proofs.Common.{rules}
use Rattle.run.proofs.Seen.{state_more, all_seen}
use Rattle.run.proofs.atoms.see.Goals as goal

pub loop-i-preserved : goal.loop-i-preserved
loop-i-preserved c =
    rw c.from.ensures
    (state_more _ _ _ _ (c.see_values.ensures.size ∙ search rules) c.loop-i-test.true c.loop-i.invariant)

pub returns : goal.returns
returns c =
    rw (← c.states.ensures, c.from-2.ensures, c.from-3.ensures)
    (all_seen _ _ _ _ (c.see_values.ensures.size ∙ search rules) (search rules) (search rules)
    c.see_values.ensures.value _ c.loop-i-test.false c.loop-i.invariant)
