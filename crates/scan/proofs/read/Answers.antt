use mathlib.Core.Path.{refl, ◌∙◌}
use native.Mathlib.Nat.{sub-zero}
use Rattle.scan.specs.Scanning.{read_of}
use Rattle.scan.proofs.Ends.{taken_again, taken_last}
use Rattle.scan.proofs.read.Goals as goal

pub loop-k-init : goal.loop-k-init
loop-k-init c = rw sub-zero refl

pub loop-k-preserved : goal.loop-k-preserved
loop-k-preserved c =
    taken_again _ _ _ _ _ _ c.loop-k-test.true (rw (c.set_at.ensures, c.from.ensures, c.from-value.ensures, c.reading.ensures) refl) c.loop-k.invariant

pub returns : goal.returns
unfolding read_of
returns c =
    taken_last _ _ _ _ _ c.loop-k-test.false c.loop-k.invariant
    ∙ rw (c.with_counter-state.ensures, c.raise_timers.ensures, c.inputs-n.ensures) refl
