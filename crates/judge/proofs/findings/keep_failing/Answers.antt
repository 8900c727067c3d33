use Prim.Native.Nat.{◌-◌, ◌≤◌}
use native.Mathlib.Omega.{arith}
use mathlib.Core.Path.{◌≡◌, ◌∙◌}
use mathlib.Core.Bool.{not, ◌&&◌, and_comm}
use lib.ListN.{length, get_or, take}
use lib.Seq.{get_or-take, length-take-le}
use lib.Bits.{bit_and}
use Rattle.std.proofs.Common.{rules}
use Rattle.bits.specs.Bits.{bit_b}
use Rattle.bits.proofs.Digits.{bit_and_lem, bit_not}
use Rattle.judge.proofs.Bytewise.{front_by}
use Rattle.judge.proofs.Failing.{failing_marked}
use Rattle.judge.proofs.findings.keep_failing.Goals as goal

pub returns : goal.returns
returns c =
    let r = c.row-row.result in
    let w = c.args.work.now in
    let marks = c.args.marked.now.marks.now in
    let x = c.with_each.new.work in
    let fits : r ≤ length w = omega (arith, c.row-row.ensures, c.requires) in
    let long = length-take-le r w fits in
    let e = rw c.positions.ensures at c.clear_behind.ensures in
    let row = front_by r w x fits c.with_each.auto.work (λ a b. b && not a) marks _
    (λ i m k d.
    let h = c.with_each.ensures i m in
    let y = get_or (take r w) i 0 in
    let q : get_or x i 0 ≡ bit_and (255 - y) (get_or marks i 0) = search rules in
    rw (q, bit_and_lem (255 - y) (get_or marks i 0) k, bit_not 8 y k (rw (get_or-take r w i 0 (omega arith)) (omega (arith, c.slice_known-1.given i))) d)
    (and_comm (not (bit_b y k)) (bit_b (get_or marks i 0) k))) in
    (λ p l. e.0 p l ∙ failing_marked c.args.marked.now.marked w _ (λ q m. row q (omega (arith, c.row-row.ensures))) p l, e.1)
