-- A run stays in its table: each state of it is one that the table allows, and what a process does next is what the
-- table has for it.
-- Assumes nothing: these are definitions. That it is so of every run is a theorem (proofs/Reached.antt).
use Rattle.std.specs.Prelude.{ℕ, ◌≡◌, List, length}
use Rattle.ranges.specs.Limits.{most_variables}
use Rattle.lookups.specs.Structure.{Table}
use Rattle.structure.specs.Allowed.{OneOf}
use Rattle.run.specs.Moves.{step_of}
use Rattle.run.specs.declared.Machine.{Machine}
use Rattle.invariants.specs.Allows.{StateAllowed}
use Rattle.invariants.specs.Due.{Due}
use Rattle.invariants.specs.Runs.{RunOf}

-- A machine of the numbers T: its state is allowed and has a place for each variable; and where the counter names a
-- process, so that its action is the next move, that is skip, the end, or an action that the table has.
pub record Inside (t : Table) (T : List ℕ) (m : Machine) : Type 0 where
  pub allowed : StateAllowed t m.state
  pub sized : length m.state.variables ≡ most_variables
  pub due : OneOf m.state.counter (length t.processes) →
      Due t m.state.counter m.state (step_of T m.state.counter m.state)

-- Every state of every run of the numbers T.
abbrev pub StaysInTable : Table → List ℕ → Type 0
StaysInTable t T =
    (I : List ℕ) (taking : ℕ → ℕ) (state : ℕ → Machine) → RunOf T I taking state → (j : ℕ) → Inside t T (state j)
