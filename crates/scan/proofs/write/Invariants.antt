use Prim.Native.Nat.{◌-◌}
use mathlib.Core.Path.{◌≡◌}
use Rattle.scan.specs.Scanning.{written}
use Rattle.scan.proofs.Ends.{with}
use Rattle.scan.proofs.write.Given as goal

abbrev pub invariant-loop-k : goal.invariant-loop-k
invariant-loop-k l = with (written l.table (l.n - l.k) l.k) l.state ≡ with (written l.table l.n 0) l.initial.state
