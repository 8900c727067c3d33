use mathlib.Core.Path.{◌≡◌, refl, sym, ◌∙◌}
use native.Mathlib.Nat.{add-zero}
use lib.ListN.{length}
use Rattle.coding.proofs.Bytes.{over_full}
use Rattle.scan.proofs.Position.{byte_over, all_over, position_over}
use Rattle.std.proofs.Common.{rules}
use Rattle.scan.proofs.put_position.Goals as goal

pub returns-then-trace-at : goal.returns-then-trace-at
returns-then-trace-at c = sym (over_full _ _ _ c.if-trace-at.true)

pub loop-k-init : goal.loop-k-init
loop-k-init c = rw add-zero refl

pub loop-k-preserved : goal.loop-k-preserved
loop-k-preserved c =
    rw c.set_at.ensures (byte_over c.loop-k.trace _ c.args.at c.loop-k.k c.loop-k-test.true ∙ c.loop-k.invariant)

pub returns : goal.returns
returns c =
    let n : length c.args.atoms ≡ 4 = search rules in
    sym (all_over _ _ _ _ c.loop-k-test.false) ∙ c.loop-k.invariant
    ∙ rw c.phase_number.ensures (position_over c.args.atoms c.args.trace.now c.args.at _ n)
