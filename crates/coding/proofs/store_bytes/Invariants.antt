use mathlib.Core.Path.{◌≡◌}
use Prim.Native.Nat.{◌+◌, ◌≤◌}
use lib.ListN.{length, drop}
use Rattle.coding.specs.Room.{over}
use Rattle.coding.specs.Code.{bytes_of_all}
use Rattle.coding.proofs.store_bytes.Given as goal

abbrev pub invariant-loop-v : goal.invariant-loop-v
invariant-loop-v l =
    (over l.buf l.at (bytes_of_all
    (drop l.v-index l.numbers)) ≡ over l.initial.buf 0 (bytes_of_all l.numbers)) × (l.at + length (bytes_of_all (drop l.v-index l.numbers)) ≤ length l.buf) × (length l.buf ≡ length l.initial.buf)
