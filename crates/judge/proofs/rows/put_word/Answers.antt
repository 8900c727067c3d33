use Prim.Native.Nat.{◌+◌, ◌-◌}
use native.Mathlib.Omega.{arith}
use mathlib.Core.Path.{◌≡◌}
use Rattle.bits.specs.Rows.{put_word}
use Rattle.judge.proofs.Bytewise.{put_four}
use Rattle.judge.proofs.rows.put_word.Goals as goal

pub returns : goal.returns
unfolding put_word
returns c =
    let a = c.args in
    let four : a.i + 4 - a.i ≡ 4 = omega arith in
    rw (four, c.copy_from_slice.ensures.after, c.to_be_bytes.ensures) (put_four a.i a.work.now _ _ _ _ c.requires.0)
