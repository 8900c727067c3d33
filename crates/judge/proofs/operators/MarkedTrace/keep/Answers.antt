use Prim.Native.Nat.{◌-◌, ◌≤◌}
use native.Mathlib.Omega.{arith}
use mathlib.Core.Path.{◌≡◌, ap, ◌∙◌}
use mathlib.Core.Bool.{Bool, ◌&&◌}
use lib.ListN.{length, get_or, take, drop}
use lib.Seq.{length-take-le}
use lib.Bits.{bit_and}
use Rattle.std.proofs.Common.{rules}
use Rattle.bits.specs.Bits.{bit_at}
use Rattle.bits.proofs.Digits.{bit_and_lem}
use Rattle.judge.proofs.Bytewise.{front_by, back_is}
use Rattle.judge.proofs.Composing.{mark_is}
use Rattle.judge.proofs.operators.MarkedTrace.keep.Goals as goal

pub returns : goal.returns
returns c =
    let s = c.args.self.now in
    let m = s.marks.now in
    let r = c.row-row.result in
    let e = c.row-row.ensures in
    let w = c.args.work.now in
    let x = c.with_each.new.work in
    let from = c.mark_place-from in
    let rest = length m - from.result in
    let fits : r ≤ length w = omega (arith, e, c.requires) in
    let size = c.with_each.auto.work in (
      λ p l. front_by r w x fits size (λ y b. y && b) (take rest (drop from.result m)) _
          (λ i n k d.
          let h = c.with_each.ensures i n in
          let q : get_or x i 0 ≡ bit_and (get_or (take r w) i 0) (get_or (take rest (drop from.result m)) i 0) = search rules in
          rw q (bit_and_lem _ _ k)) p (omega (arith, e))
          ∙ ap (λ (b : Bool). bit_at w p && b)
          (mark_is s.marked c.args.phase from.result rest from.ensures.0 (omega (arith, from.ensures.1, s.marked.size, s.few)) p l),
      rw (← e) (back_is x _ r (size ∙ length-take-le r w fits)),
    )
