-- What an answer is by the room that is lent, and what the buffer then holds.
-- Assumes nothing.
use Prim.Native.Nat.{ℕ, ◌≤◌}
use mathlib.Core.Path.{◌≡◌}
use borrow.Author.Tests.{le-leb}
use Rattle.std.specs.Prelude.{Ok}
use Rattle.coding.specs.Room.{settled}

pub room_for : (room n : ℕ) → n ≤ room → Ok n ≡ settled room (Ok n)
room_for room n h = rw (le-leb _ _ h)
