-- One turn of the loops over a row of numbers.
-- Assumes nothing.
use Prim.Native.Nat.{ℕ, ◌+◌, ◌≤◌, ◌<◌}
use native.Mathlib.Omega.{arith}
use mathlib.Core.Path.{◌≡◌, ◌∙◌, ap}
use mathlib.Core.List.{List}
use lib.ListN.{length, get_or, drop, length-append}
use Rattle.coding.specs.Number.{bytes_of}
use Rattle.coding.specs.Code.{bytes_of_all}
use Rattle.coding.specs.Room.{over}
use Rattle.coding.proofs.Bytes.{three_at_most, over_append, over_length}
use Rattle.coding.specs.Working.Rows.{bytes_next, bytes_none}

module _ (xs : List ℕ) (i : ℕ) (h : i < length xs) where
  pub next_length : length (bytes_of_all (drop i xs)) ≡ length (bytes_of (get_or xs i 0)) + length (bytes_of_all (drop (i + 1) xs))
  next_length = rw (bytes_next xs i h, length-append)

  pub bytes_turn : (d d' : List ℕ) (at r : ℕ) →
      (r ≡ at + length (bytes_of (get_or xs i 0))) × (d' ≡ over d at (bytes_of (get_or xs i 0))) →
      at + length (bytes_of_all (drop i xs)) ≤ length d →
      (over d' r (bytes_of_all (drop (i + 1) xs)) ≡ over d at (bytes_of_all (drop i xs))) ×
      (r + length (bytes_of_all (drop (i + 1) xs)) ≤ length d') × (length d' ≡ length d)
  bytes_turn d d' at r e room =
      let l : length d' ≡ length d = ap length e.1 ∙ over_length d at (bytes_of (get_or xs i 0)) in
      (rw (e.0, e.1, bytes_next xs i h) (over_append d at (bytes_of (get_or xs i 0)) (bytes_of_all (drop (i + 1) xs))), omega (arith, next_length), l)

-- how many bytes the numbers from an index on take
pub ruleset sizes = (bytes_next, bytes_none, next_length, three_at_most)
