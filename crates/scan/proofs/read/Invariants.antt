use Prim.Native.Nat.{◌-◌}
use mathlib.Core.Path.{◌≡◌}
use Rattle.scan.specs.Scanning.{taken}
use Rattle.scan.proofs.Ends.{with}
use Rattle.scan.proofs.read.Given as goal

abbrev pub invariant-loop-k : goal.invariant-loop-k
invariant-loop-k l = with (taken l.inputs l.n l.done (l.n - l.k) l.k) l.state ≡ with (taken l.inputs l.n l.done l.n 0) l.initial.state
