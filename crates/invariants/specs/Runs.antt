-- A run of the rules, whichever recorded inputs its reads take: the recorded run is one, and so is the endless run
-- (proofs/Running.antt).
-- Assumes nothing: these are definitions.
use Rattle.std.specs.Prelude.{ℕ, suc, ◌≡◌, List}
use Rattle.ranges.specs.Limits.{most_processes}
use Rattle.run.specs.Moves.{begun, move_of}
use Rattle.run.specs.declared.Machine.{Machine}
use Rattle.run.specs.declared.Moved.{Moved}

-- The move from state n of a run, whose states `state` tells by their numbers. Where so many scans are done, the read
-- takes the recorded scan that `taking` tells.
abbrev pub move_at : List ℕ → List ℕ → (ℕ → ℕ) → (ℕ → Machine) → ℕ → Moved
move_at T I taking state n = move_of T I (taking (state n).scan) (state n)

-- The first state is the start, and each next is what the move makes.
pub record RunOf (T I : List ℕ) (taking : ℕ → ℕ) (state : ℕ → Machine) : Type 0 where
  pub first : state 0 ≡ begun most_processes
  pub next : (n : ℕ) → state (suc n) ≡ (move_at T I taking state n).machine
