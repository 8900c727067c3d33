use mathlib.Core.Path.{◌≡◌, refl}
use native.Mathlib.Omega.{arith}
use Rattle.bits.proofs.Digits.{mask_is}
use Rattle.bits.proofs.Packing.{packing_none, packing_masked, packing_lt, packing_done}
use Rattle.judge.specs.Working.{digit_in}
use Rattle.judge.proofs.rows.digit_byte.Goals as goal

pub loop-j-init : goal.loop-j-init
loop-j-init c = let a = c.args in packing_none (digit_in a.trace.now a.column a.k) a.p a.k

pub loop-j-preserved : goal.loop-j-preserved
loop-j-preserved c =
    let l = c.loop-j in
    let a = c.args in
    rw (c.from.ensures, mask_is a.k (omega arith)) (packing_masked l.invariant _ (omega arith) (omega arith) refl)

pub placed-requires : goal.placed-requires
placed-requires c =
    let l = c.loop-j in
    let e : l.j ≡ c.args.c = omega arith in
    (omega arith, packing_lt (rw e at l.invariant))

pub returns : goal.returns
returns c =
    let l = c.loop-j in
    let e : l.j ≡ c.args.c = omega arith in
    rw c.placed.ensures (packing_done (rw e at l.invariant) (omega arith))
