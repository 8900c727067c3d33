-- The states of a recorded run by their numbers: "the start is 0" (document 01, Numbers of refusal 7).
-- Assumes nothing: these are definitions.
use Rattle.std.specs.Prelude.{ℕ, zero, suc, ◌<◌, ◌≤◌, ◌≡◌, List, None}
use Rattle.ranges.specs.Limits.{most_processes}
use Rattle.run.specs.Moves.{begun}
use Rattle.run.specs.Running.{recorded_move}
use Rattle.run.specs.declared.Machine.{Machine}

-- State number i of the moves one after another, without an end. A move that is stopped leaves the state as it is, so
-- that from there on the state is the one at which the run was stopped. Behind scan q there is nothing recorded to read:
-- of the states there nothing is said.
unfoldable pub state_at : List ℕ → List ℕ → ℕ → Machine
state_at T I zero = begun most_processes
state_at T I (suc i) = (recorded_move T I (state_at T I i)).machine

-- The moves from state n on go on, up to state l: that it arises.
abbrev pub MovesOn : List ℕ → List ℕ → ℕ → ℕ → Type 0
MovesOn T I n l = (j : ℕ) → n ≤ j → j < l → (recorded_move T I (state_at T I j)).stopped ≡ None
