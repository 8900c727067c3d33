-- How the first look goes over what a record has most of. These definitions serve private functions alone.
-- Assumes nothing: these are definitions.
use Rattle.std.specs.Prelude.{ℕ, ◌+◌, ◌≤◌, ◌≡◌, List}
use Rattle.coding.specs.Code.{Places}
use Rattle.ranges.specs.declared.Shape.{Shape}
use Rattle.ranges.specs.declared.Spot.{Spot}
use Rattle.ranges.specs.declared.Want.{Want}
use Rattle.ranges.specs.declared.Want.TheVariants.{Op}
use Rattle.table.specs.Table.{check, counts_from}

-- From one stand to a later one: what is found from the later one on is what is found from the first. No more numbers are passed than places, so their count stays a
-- number of the machine; and a stand within the source leads to one within it.
pub record Passes (source : Places) (want : Want) (at n : ℕ) (want' : Want) (at' n' : ℕ) : Type 0 where
  pub answers : (most : ℕ) → check most want n (source.code at) ≡ check most want' n' (source.code at')
  pub counts : (most : ℕ) (kept : List ℕ) → counts_from most want kept (source.code at) ≡ counts_from most want' kept (source.code at')
  pub later : at ≤ at'
  pub few : n' + at ≤ n + at'
  pub inside : at ≤ source.size → at' ≤ source.size

-- The spot of the next action of the body.
abbrev pub onward : Spot → Spot
onward spot = record { process = spot.process; states = spot.states; state = spot.state; actions = spot.actions; action = spot.action + 1 }

-- The six numbers of an action from a place on: at the place after them the next action of the body begins.
abbrev pub Taken : Places → Shape → Spot → ℕ → ℕ → Type 0
Taken source shape spot at next = (n : ℕ) → Passes source (Op shape spot) at n (Op shape (onward spot)) next (n + 6)
