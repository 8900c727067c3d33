-- What a table has for its processes, by number: their states, the rows of the actions of these, and the tests that
-- guards name.
-- Assumes nothing: these are definitions.
use Rattle.std.specs.Prelude.{ℕ, ◌-◌, List, [], get_or, length}
use Rattle.lookups.specs.Places.{no_action}
use Rattle.lookups.specs.Structure.{Table}
use Rattle.lookups.specs.declared.TestRow.{TestRow}
use Rattle.lookups.specs.declared.ActionRow.{ActionRow}
use Rattle.structure.specs.Allowed.{OneOf}
use Rattle.controller.specs.declared.Process.{Process}

-- The states of process p, the actions of its state s, and its action a there; each from 1.
abbrev pub states_for : Table → ℕ → List (List ActionRow)
states_for t p = get_or t.processes (p - 1) []

abbrev pub actions_for : Table → ℕ → ℕ → List ActionRow
actions_for t p s = get_or (states_for t p) (s - 1) []

abbrev pub row_for : Table → ℕ → ℕ → ℕ → ActionRow
row_for t p s a = get_or (actions_for t p s) (a - 1) no_action

-- "Guard 0 is always true, guard k+1 is test k": test k, from 0.
abbrev pub test_for : Table → ℕ → TestRow
test_for t k = get_or t.tests k (record { kind = 0; a = 0; b = 0 })

-- The action at which process p is, by its record.
abbrev pub row_at : Table → ℕ → Process → ActionRow
row_at t p r = row_for t p r.state r.action

-- Process p of the table has state s, and that has action a.
pub record There (t : Table) (p s a : ℕ) : Type 0 where
  pub process : OneOf p (length t.processes)
  pub state : OneOf s (length (states_for t p))
  pub action : OneOf a (length (actions_for t p s))
