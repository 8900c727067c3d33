use mathlib.Core.Path.{refl, ◌∙◌}
use native.Mathlib.Nat.{sub-zero}
use Rattle.scan.specs.Scanning.{write_of}
use Rattle.scan.proofs.Ends.{written_again, written_last}
use Rattle.scan.proofs.write.Goals as goal

pub loop-k-init : goal.loop-k-init
loop-k-init c = rw sub-zero refl

pub loop-k-preserved : goal.loop-k-preserved
loop-k-preserved c =
    written_again _ _ _ _ _ c.loop-k-test.true
    (rw (
      c.set_at.ensures,
      c.from-in-loop-k.ensures,
      c.value_at-value.ensures,
      c.source-source.ensures,
      c.from-2.ensures,
      c.from.ensures,
      c.internals.ensures,
      c.inputs.ensures,
    ) refl)
    c.loop-k.invariant

pub returns : goal.returns
unfolding write_of
returns c =
    written_last _ _ _ _ c.loop-k-test.false c.loop-k.invariant
    ∙ rw (c.with_counter-state.ensures, c.outputs-n.ensures) refl
