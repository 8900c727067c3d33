use Prim.Native.Nat.{ℕ, ◌-◌, ◌≤◌}
use native.Mathlib.Omega.{arith}
use mathlib.Core.Path.{◌≡◌, ap, ◌∙◌}
use lib.ListN.{length, get_or, take, drop}
use lib.Seq.{length-take-le}
use Rattle.std.proofs.Common.{rules}
use Rattle.bits.specs.Bits.{bit_b}
use Rattle.judge.proofs.Bytewise.{front_by, back_is}
use Rattle.judge.proofs.Composing.{mark_is}
use Rattle.judge.proofs.operators.MarkedTrace.fill_phase.Goals as goal

pub returns : goal.returns
returns c =
    let s = c.args.self.now in
    let m = s.marks.now in
    let r = c.row-row.result in
    let e = c.row-row.ensures in
    let w = c.args.work.now in
    let x = c.with_each.new.work in
    let from = c.mark_place-from in
    let rest = length m - from.result in
    let fits : r ≤ length w = omega (arith, e, c.requires) in
    let size = c.with_each.auto.work in (
      λ p l. front_by r w x fits size (λ y b. b) (take rest (drop from.result m)) _
          (λ i n k d.
          let h = c.with_each.ensures i n in
          let q : get_or x i 0 ≡ get_or (take rest (drop from.result m)) i 0 = search rules in
          ap (λ (b : ℕ). bit_b b k) q) p (omega (arith, e))
          ∙ mark_is s.marked c.args.phase from.result rest from.ensures.0 (omega (arith, from.ensures.1, s.marked.size, s.few)) p l,
      rw (← e) (back_is x _ r (size ∙ length-take-le r w fits)),
    )
