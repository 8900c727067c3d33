use Prim.Native.Nat.{◌≤◌}
use mathlib.Core.Path.{◌≡◌}
use Rattle.bits.specs.Bits.{count_b}
use Rattle.lasso.specs.Bytes.{mark_b}
use Rattle.lasso.proofs.count_inputs.Given as goal

abbrev pub invariant-loop-p : goal.invariant-loop-p
invariant-loop-p l = (l.count ≡ count_b (mark_b l.trace 0) l.p) × (l.count ≤ l.p)
