use Prim.Native.Nat.{◌+◌, ◌-◌}
use native.Mathlib.Omega.{arith}
use mathlib.Core.Path.{◌≡◌}
use Rattle.judge.proofs.Listing.{put_both}
use Rattle.judge.proofs.findings.put_position.Goals as goal

pub returns-then-at-list : goal.returns-then-at-list
returns-then-at-list c =
    let a = c.args in
    let two : a.at + 2 - a.at ≡ 2 = omega arith in
    rw (two, c.copy_from_slice.ensures.after, c.to_le_bytes.ensures) (put_both a.p a.at a.list.now (omega arith) c.if-at-list.true)
