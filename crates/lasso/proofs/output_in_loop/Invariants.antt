use Prim.Native.Nat.{◌-◌}
use mathlib.Core.Path.{◌≡◌}
use Rattle.lasso.specs.Bytes.{positions}
use Rattle.lasso.specs.Checking.{output_from}
use Rattle.lasso.proofs.output_in_loop.Given as goal

abbrev pub invariant-loop-p : goal.invariant-loop-p
invariant-loop-p l = output_from l.trace (positions l.trace - l.p) l.p ≡ output_from l.trace (positions l.trace - l.start) l.start
