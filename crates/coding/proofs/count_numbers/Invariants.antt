use mathlib.Core.Path.{◌≡◌}
use Prim.Native.Nat.{◌+◌, ◌-◌, ◌≤◌}
use lib.ListN.{length}
use Rattle.coding.specs.Code.{code_at, values}
use Rattle.coding.proofs.count_numbers.Given as goal

abbrev pub invariant-loop-number : goal.invariant-loop-number
invariant-loop-number l = (l.n + length (values (code_at l.code l.at)) ≡ length (values (code_at l.code 0))) × (l.n ≤ l.at) × (l.at ≤ length l.code)

abbrev pub decreases-loop-number : goal.decreases-loop-number
decreases-loop-number l = length l.code - l.at
