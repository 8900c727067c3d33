use mathlib.Core.Path.{◌≡◌}
use Prim.Native.Nat.{◌+◌, ◌-◌, ◌*◌, ◌/◌, ◌%◌}
use native.Mathlib.Omega.{arith}
use lib.ListN.{get_or}
use Rattle.bits.specs.Rows.{carry_b, carry_w}
use Rattle.bits.proofs.Walks.{both_bytes, carried_end, carried, walked, down_none, down_byte, at_until}
use Rattle.bits.proofs.Words.{down_words, down_word}
use Rattle.judge.proofs.rows.walk_row.Goals as goal

pub loop-k-init : goal.loop-k-init
loop-k-init c =
    let a = c.args in
    let e : a.row % 4 + 4 * (a.row / 4) ≡ a.row = omega arith in
    rw (c.from-carry.ensures, e) (carried_end a.work.now a.row a.last, down_none a.work.now a.row a.last)

pub loop-k-preserved : goal.loop-k-preserved
unfolding carry_w
loop-k-preserved c =
    let h = c.loop-k.invariant in
    let s = c.step_word-carry.ensures in
    let i = c.args.row % 4 + 4 * (c.loop-k.k - 1) in
    let b = down_words i (omega arith) (omega arith) h.1 (λ k. omega (arith, c.slice_known-1.given k)) in (
      rw s.carry_is (carried 31 b (omega arith) (omega arith) h.0),
      rw s.row_is (down_word i (omega arith) (omega arith) h.1 _ (omega arith) (walked 31 b (omega arith) (omega arith) h.0)),
    )

pub loop-i-preserved : goal.loop-i-preserved
unfolding carry_b
loop-i-preserved c =
    let a = c.args in
    let w = c.loop-i.work in
    let h = c.loop-i.invariant in
    let s = c.step_byte-carry.ensures in
    let i = c.loop-i.i - 1 in
    let first = h.1.ahead i (omega arith) in
    let second = h.1.second (a.row + i) (omega arith) in
    let b = both_bytes a.work.now a.row i (get_or w i 0) (get_or w (a.row + i) 0) (omega (arith, first, c.slice_known-1.given i))
    (omega (arith, second, c.slice_known-1.given (a.row + i))) first second in (
      rw s.carry_is (carried 7 b (omega arith) (omega arith) h.0),
      rw s.row_is (down_byte i (omega arith) (omega arith) h.1 _ (omega arith) (walked 7 b (omega arith) (omega arith) h.0)),
    )

pub returns : goal.returns
unfolding at_until
returns c = λ p h. c.loop-i.invariant.1.done p (omega arith) h
