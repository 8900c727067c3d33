use Prim.Native.Nat.{◌+◌, ◌*◌}
use native.Mathlib.Omega.{arith}
use mathlib.Core.Path.{◌≡◌}
use Rattle.judge.proofs.Listing.{listing_none, listing_zero, listing_done}
use Rattle.judge.proofs.findings.list_row.Goals as goal
use Rattle.judge.proofs.findings.list_row.Goals.{then-x-ne0, else-x-ne0}

pub loop-i-init : goal.loop-i-init
loop-i-init c = listing_none _ _ _ c.requires.1

pub loop-i-preserved : goal.loop-i-preserved
loop-i-preserved c =
    let l = c.loop-i in
    let q : 8 * (l.i + 1) ≡ 8 * l.i + 8 = omega arith in
    elim c.if-x-ne0.branch [
      | then-x-ne0 w ↦ rw (w.at-is, w.list-is, q) (w.list_byte-at.ensures _ _ (omega arith) l.invariant)
      | else-x-ne0 w ↦ rw (w.at-is, w.list-is, q) (listing_zero _ _ l.invariant (omega arith) w.if-x-ne0.false)
    ]

pub returns : goal.returns
returns c = listing_done c.loop-i.invariant (omega arith)
