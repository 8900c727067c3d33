use mathlib.Core.Path.{refl, ◌∙◌}
use mathlib.Core.Bool.{false}
use Prim.Native.Nat.{◌+◌, ◌/◌}
use native.Mathlib.Omega.{arith}
use Rattle.bits.proofs.Walks.{carried_is, both_bytes, walked, wide_position, at_until}
use Rattle.judge.proofs.rows.join.Goals as goal

pub returns : goal.returns
unfolding at_until
returns c =
    let a = c.args in
    let i = a.start / 8 in
    let x = c.type_inv.work i in
    let y = c.type_inv.work (a.row + i) in
    let b = both_bytes a.work.now a.row i _ _ (omega arith) (omega arith) refl refl in
    let h = carried_is a.work.now a.row false (i + 1) _ c.walk_back-behind.ensures in
    c.bit.ensures ∙ rw (c.until-value.ensures.value.0, c.from.ensures, c.from-2.ensures) (wide_position i a.start (walked 7 b (omega arith) (omega arith) h) refl)
