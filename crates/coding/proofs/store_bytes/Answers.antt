use Rattle.coding.proofs.Loops.{bytes_turn}
use mathlib.Core.Path.{◌∙◌}
use Rattle.coding.proofs.store_bytes.Goals as goal

pub loop-v-preserved : goal.loop-v-preserved
loop-v-preserved c =
    let t = bytes_turn _ _ c.loop-v-test.true _ _ _ _ c.put-at.ensures c.loop-v.invariant.1 in
    (t.0 ∙ c.loop-v.invariant.0, t.1, t.2 ∙ c.loop-v.invariant.2)
