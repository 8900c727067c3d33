use Prim.Native.Nat.{◌*◌}
use native.Mathlib.Omega.{arith}
use mathlib.Core.Path.{◌≡◌}
use Rattle.bits.proofs.Bytes.{made_more, made_rest}
use Rattle.judge.specs.Working.{longest_row}
use Rattle.judge.proofs.Packing.{packs_behind, packs_neither}
use Rattle.judge.proofs.rows.fill_neither.Goals as goal

pub loop-i-preserved : goal.loop-i-preserved
loop-i-preserved c =
    let l = c.loop-i in
    let h = l.invariant in
    made_more _ (omega arith)
    (packs_neither _ _ _ _ _ (omega arith) (omega arith) (packs_behind longest_row h) (packs_behind (2 * longest_row) h)) h

pub returns : goal.returns
returns c =
    let l = c.loop-i in
    let e : l.i ≡ longest_row = omega arith in
    (λ p h. l.invariant.done p (omega arith), rw e at (made_rest l.invariant))
