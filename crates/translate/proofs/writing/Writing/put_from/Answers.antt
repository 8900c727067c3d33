use native.Mathlib.Omega.{arith}
use lib.Seq.{take_all}
use Rattle.std.proofs.lemmas.List.{take_more}
use Rattle.translate.proofs.Putting.{put_length, put_there, put_dropped, put_none, joined}
use Rattle.translate.proofs.writing.Writing.put_from.Goals as goal
use Rattle.translate.proofs.writing.Writing.put_from.Goals.{then-at-out, else-at-out}

pub loop-byte-init : goal.loop-byte-init
loop-byte-init c = put_none _ _ c.requires

pub loop-byte-preserved : goal.loop-byte-preserved
loop-byte-preserved c =
    let so_far = c.loop-byte.invariant in
    let within = put_length so_far in
    rw (take_more c.args.bytes.now c.loop-byte.byte-index 0 c.loop-byte-test.true)
    (elim c.if-at-out.branch [
      | then-at-out w ↦ rw (w.out-is, w.at-is) (joined so_far (put_there _ _ _ w.if-at-out.true))
      | else-at-out w ↦ rw (w.out-is, w.at-is) (joined so_far (put_dropped _ _ _ (omega (arith, within.0, within.1)) w.if-at-out.false))
    ])

pub returns : goal.returns
returns c = rw (take_all c.loop-byte.byte-index c.args.bytes.now c.loop-byte-test.false) at c.loop-byte.invariant
