use native.Mathlib.Omega.{arith}
use mathlib.Core.Path.{◌≡◌, ap, ◌∙◌}
use mathlib.Core.Bool.{◌&&◌}
use mathlib.Core.List.{List}
use Prim.Native.Nat.{ℕ}
use lib.ListN.{length, get_or, take}
use lib.Bits.{bit_and}
use Rattle.std.proofs.Common.{rules}
use Rattle.bits.specs.Bits.{bit_at}
use Rattle.bits.proofs.Digits.{bit_and_lem}
use Rattle.judge.proofs.Bytewise.{front_by}
use Rattle.judge.proofs.operators.MarkedTrace.apply_two.Goals as goal

pub returns-in-And : goal.returns-in-And
returns-in-And c =
    let r = c.row-row.result in
    let o = c.row-row.ensures in
    let w = c.args.work.now in
    let x = c.with_each.new.work in
    let first = c.split_at_mut-first.result.0.now in
    let second = c.split_at_mut-first.result.1.now in
    let parts = c.split_at_mut-first.ensures in
    let size : length x ≡ length (take r w) = rw parts.front at c.with_each.auto.work in
    rw (c.in-And.is, ← o)
    (λ p l. front_by r w x (omega (arith, o, c.requires)) size (λ y b. y && b) second _
    (λ i n k d.
    let h = c.with_each.ensures i (rw (← parts.front) at n) in
    let e : get_or x i 0 ≡ bit_and (get_or first i 0) (get_or second i 0) = search rules in
    rw (← parts.front, e) (bit_and_lem _ _ k)) p (omega (arith, o))
    ∙ ap (λ (s : List ℕ). bit_at w p && bit_at s p) parts.back)
