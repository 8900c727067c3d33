use Rattle.std.proofs.lemmas.List.{set-get_or}
use lib.ListN.{length-set}
use Rattle.coding.proofs.Bytes.{over_cons, over_nil}
use Rattle.coding.specs.Working.Rows.{no_values, next_values}
use Rattle.coding.proofs.store_numbers.Goals as goal

pub returns-in_default : goal.returns-in_default
returns-in_default c =
    let e = c.in_default.ensures in
    rw (← c.loop-element.invariant.0, no_values _ _ _ _ e, over_nil) (set-get_or _ _ 0)

pub loop-element-preserved : goal.loop-element-preserved
loop-element-preserved c =
    let e = c.in-Ok.ensures in
    (rw (← c.loop-element.invariant.0, next_values _ _ _ _ e, over_cons), simp length-set c.loop-element.invariant.1)
