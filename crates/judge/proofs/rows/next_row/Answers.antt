use mathlib.Core.Path.{◌≡◌, refl}
use Prim.Native.Nat.{◌+◌, ◌-◌, ◌*◌}
use native.Mathlib.Omega.{arith}
use lib.ListN.{get_or}
use Rattle.bits.specs.Rows.{row_of}
use Rattle.bits.specs.Bits.{bit_at}
use Rattle.bits.proofs.Bytes.{made_more}
use Rattle.bits.proofs.Next.{packs_next, next_last}
use Rattle.judge.proofs.rows.next_row.Goals as goal

pub loop-i-preserved : goal.loop-i-preserved
loop-i-preserved c =
    let l = c.loop-i in
    let h = l.invariant in
    let b = packs_next c.args.work.now l.i _ _ (omega arith) (h.rest l.i (omega arith)) (h.rest (l.i + 1) (omega arith)) in
    rw c.shifted.ensures (made_more _ (omega arith) b h)

pub returns : goal.returns
unfolding bit_at
returns c =
    let l = c.loop-i in
    let a = c.args in
    let e : l.i ≡ row_of a.n - 1 = omega arith in
    let h = rw e at l.invariant in
    rw (c.with_bit.ensures, c.shifted-2.ensures)
    (next_last a.work.now l.work a.n a.start (row_of a.n - 1) (8 * row_of a.n - a.n) (get_or l.work (row_of a.n - 1) 0) _ (omega arith) (omega arith) (omega arith) refl
    (h.rest (row_of a.n - 1) (omega arith)) c.bit-first.ensures h)
