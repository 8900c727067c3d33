use native.Mathlib.Omega.{arith}
use mathlib.Core.Path.{sym, ◌∙◌}
use Rattle.judge.proofs.Listing.{byte_skip, byte_put}
use Rattle.judge.proofs.findings.list_byte.Goals as goal
use Rattle.judge.proofs.findings.list_byte.Goals.{then-bit, else-bit}

pub loop-k-preserved : goal.loop-k-preserved
loop-k-preserved c =
    let h = c.loop-k.invariant in
    let e = sym c.bit.ensures in
    elim c.if-bit.branch [
      | then-bit w ↦
          rw (w.at-is, w.list-is) (byte_put h (omega arith) (e ∙ w.if-bit.true) _ _ w.put_position-at.ensures)
      | else-bit w ↦ rw (w.at-is, w.list-is) (byte_skip h (omega arith) (e ∙ w.if-bit.false))
    ]
