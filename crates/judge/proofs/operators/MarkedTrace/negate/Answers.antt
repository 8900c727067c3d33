use Prim.Native.Nat.{◌-◌, ◌≤◌}
use native.Mathlib.Omega.{arith}
use mathlib.Core.Path.{◌≡◌, ◌∙◌}
use mathlib.Core.Bool.{not}
use mathlib.Core.List.{[]}
use lib.ListN.{length, get_or, take}
use lib.Seq.{get_or-take, length-take-le}
use Rattle.std.proofs.Common.{rules}
use Rattle.bits.proofs.Digits.{bit_not}
use Rattle.judge.proofs.Bytewise.{front_by, back_is}
use Rattle.judge.proofs.operators.MarkedTrace.negate.Goals as goal

pub returns : goal.returns
returns c =
    let r = c.row-row.result in
    let e = c.row-row.ensures in
    let w = c.args.work.now in
    let x = c.each_byte.new.work in
    let fits : r ≤ length w = omega (arith, e, c.requires) in
    let long = length-take-le r w fits in
    let size = c.each_byte.auto.work in (
      λ p l. front_by r w x fits size (λ a b. not a) [] _
          (λ i m k d.
          let h = c.each_byte.ensures i m in
          let q : get_or x i 0 ≡ 255 - get_or (take r w) i 0 = search rules in
          rw q (bit_not 8 _ k (rw (get_or-take r w i 0 (omega arith)) (omega (arith, c.slice_known-1.given i))) d)) p (omega (arith, e)),
      rw (← e) (back_is x _ r (size ∙ long)),
    )
