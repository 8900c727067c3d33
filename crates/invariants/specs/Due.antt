-- What a process does next, told by the table as it is made up: skip, the end of the body, or an action that the table
-- has for it. So no look-up asks for a place that the table does not have.
-- Assumes nothing: these are definitions. That a step of the run is always such a one is a theorem
-- (proofs/Reached.antt).
use Rattle.std.specs.Prelude.{ℕ, ◌-◌, ◌≤◌, ◌≡◌, Bool, true, false, List, length, eqb}
use Rattle.ranges.specs.Values.{pick}
use Rattle.lookups.specs.Structure.{Table}
use Rattle.lookups.specs.declared.TestRow.{TestRow}
use Rattle.lookups.specs.declared.ActionRow.{ActionRow}
use Rattle.structure.specs.Allowed.{OneOf}
use Rattle.controller.specs.Actions.{action_of}
use Rattle.controller.specs.State.{body_end, states_of, state_at, value_at, record_at}
use Rattle.controller.specs.Tests.{truth}
use Rattle.controller.specs.Rules.{act_of}
use Rattle.controller.specs.declared.Process.{Process}
use Rattle.controller.specs.declared.Controller.{Controller}
use Rattle.controller.specs.declared.Acted.{Acted}
use Rattle.controller.specs.declared.Action.{Action}
use Rattle.controller.specs.declared.Action.TheVariants.{Skip, End}
use Rattle.run.specs.Moves.{active}
use Rattle.invariants.specs.TableRows.{states_for, test_for, row_at, There}

-- A guard and the choice of the next action, by whatever tells test k.
unfoldable pub guard_by : (ℕ → TestRow) → List ℕ → List ℕ → ℕ → Bool
guard_by test v f g =
    let r = test (g - 1) in
    pick (eqb g 0) true (truth r.kind r.b (value_at v r.a) (state_at f r.a))

unfoldable pub next_by : (ℕ → TestRow) → Controller → ActionRow → ℕ
next_by test c r =
    pick (guard_by test c.variables (states_of c.processes) r.guard) r.next_if r.next_else

-- The action that a row codes.
abbrev pub coded_by : ActionRow → Action
coded_by r = action_of r.op r.x r.y

-- What process i, with the record r, makes of the state c: by skip in an inactive state; by the end in a state of the
-- table; or by the table's own action, whose guard is 0 or a test that the table has.
pub data DueBy (t : Table) (i : ℕ) (r : Process) (c : Controller) : Acted → Type 0 where
  skips : active r.state ≡ false → DueBy t i r c (act_of i Skip 0 c)
  ends : OneOf r.state (length (states_for t i)) → r.action ≡ body_end → DueBy t i r c (act_of i End 0 c)
  acts : There t i r.state r.action → (row_at t i r).guard ≤ length t.tests →
      DueBy t i r c (act_of i (coded_by (row_at t i r)) (next_by (test_for t) c (row_at t i r)) c)

abbrev pub Due : Table → ℕ → Controller → Acted → Type 0
Due t i c x = DueBy t i (record_at c.processes i) c x
