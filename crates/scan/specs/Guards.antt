-- Tests and guards of a table. A test sees the variables and the functional states of the processes, in their order, and nothing else of a state.
-- Assumes nothing: these are definitions.
use Rattle.std.specs.Prelude.{ℕ, ◌-◌, Bool, true, false, List, eqb, ltb}
use Rattle.ranges.specs.Values.{pick}
use Rattle.lookups.specs.Places.{tests_of, test_of}
use Rattle.lookups.specs.declared.ActionRow.{ActionRow}
use Rattle.controller.specs.State.{value_at, state_at, states_of}
use Rattle.controller.specs.Tests.{truth}
use Rattle.controller.specs.declared.Controller.{Controller}

-- Test k of the table, from 0, on variables v and functional states f.
unfoldable pub test_holds : List ℕ → List ℕ → List ℕ → ℕ → Bool
test_holds T v f k = let t = test_of T k in truth t.kind t.b (value_at v t.a) (state_at f t.a)

-- "Guard 0 is always true, guard k+1 is test k"
unfoldable pub guard_holds : List ℕ → Controller → ℕ → Bool
guard_holds T c g = pick (eqb g 0) true (test_holds T c.variables (states_of c.processes) (g - 1))

-- "its guard, tested on the state before it, only chooses next-if or next-else"
unfoldable pub next_of : List ℕ → Controller → ActionRow → ℕ
next_of T c r = pick (guard_holds T c r.guard) r.next_if r.next_else

-- "Test k is atom k"; "an atom without a test is 0"
unfoldable pub atom_of : List ℕ → List ℕ → List ℕ → ℕ → Bool
atom_of T v f k = pick (ltb k (tests_of T)) (test_holds T v f k) false
