use Prim.Native.Nat.{ℕ}
use native.Mathlib.Omega.{arith}
use mathlib.Core.Path.{◌≡◌, ap, ◌∙◌}
use lib.ListN.{get_or}
use lib.Seq.{length-take-le}
use Rattle.std.proofs.Common.{rules}
use Rattle.bits.specs.Bits.{bit_b}
use Rattle.judge.proofs.Bytewise.{by_bits, middle_is, taken_is}
use Rattle.judge.proofs.operators.MarkedTrace.repeat.Goals as goal

pub returns : goal.returns
returns c =
    let r = c.row-row.result in
    let e = c.row-row.ensures in
    let parts = c.split_at_mut-first.ensures in
    let first = c.split_at_mut-first.result.0.now in
    let second = c.split_at_mut-first.result.1.now in
    let x = c.with_each.new.work in
    let size = c.with_each.auto.work in
    let long = length-take-le r second (omega (arith, parts.back_len, e, c.requires)) in
    rw (← e)
    (λ q l. middle_is first x _ r parts.front_len q (omega (arith, size, long, e))
    ∙ by_bits (λ y b. b) x first x r
    (λ i n k d.
    let h = c.with_each.ensures i (omega (arith, long, n)) in
    let same : get_or x i 0 ≡ get_or first i 0 = search rules in
    ap (λ (b : ℕ). bit_b b k) same) q (omega (arith, e))
    ∙ rw parts.front (taken_is r c.args.work.now q (omega (arith, e))))
