use mathlib.Core.Path.{◌≡◌}
use Prim.Native.Nat.{◌+◌, ◌*◌, ◌≤◌}
use lib.ListN.{length, drop}
use Rattle.coding.specs.Code.{bytes_of_all}
use Rattle.coding.proofs.size_of_all.Given as goal

abbrev pub invariant-loop-v : goal.invariant-loop-v
invariant-loop-v l = (l.n + length (bytes_of_all (drop l.v-index l.numbers)) ≡ length (bytes_of_all l.numbers)) × (l.v-index ≤ length l.numbers) × (l.n ≤ 3 * l.v-index)
