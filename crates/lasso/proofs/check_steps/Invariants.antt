use Prim.Native.Nat.{◌-◌}
use mathlib.Core.Path.{◌≡◌}
use Rattle.coding.specs.Refusal.{Answer}
use Rattle.lasso.specs.Bytes.{positions}
use Rattle.lasso.specs.Checking.{steps_from, may_follow}
use Rattle.lasso.proofs.check_steps.Given as goal

abbrev pub invariant-loop-p : goal.invariant-loop-p
invariant-loop-p l =
    (fine : Answer) → steps_from may_follow l.trace l.start (positions l.trace - l.p) l.p fine ≡ steps_from may_follow l.trace l.start (positions l.trace) 0 fine
