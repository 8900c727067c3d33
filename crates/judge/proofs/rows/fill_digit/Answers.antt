use native.Mathlib.Omega.{arith}
use mathlib.Core.Path.{◌≡◌}
use Prim.Native.Nat.{◌/◌}
use lib.ListN.{length}
use Rattle.bits.proofs.Bytes.{made_more, made_part}
use Rattle.judge.proofs.rows.fill_digit.Goals as goal

pub loop-i-preserved : goal.loop-i-preserved
loop-i-preserved c = made_more _ (omega arith) c.digit_byte.ensures c.loop-i.invariant

pub returns-then-rest-gt0 : goal.returns-then-rest-gt0
returns-then-rest-gt0 c =
    let l = c.loop-i in
    let e : l.i ≡ length c.args.trace.now / 5 / 8 = omega arith in
    λ p h. made_part _ (omega arith) _ (omega arith) c.digit_byte-then-rest-gt0.ensures (rw e at l.invariant) p (omega arith)
