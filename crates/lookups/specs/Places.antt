-- Where things stand in the numbers of a table. Document 01, Coding: "Table, in this order: counts of input, internal and output variables ..;
-- for each output its source ..; count of tests .., each as kind, a, b; processes ..; for each its active states ..;
-- for each of those its actions .., each as op, x, y, guard, next-if, next-else."
-- Assumes nothing: these are definitions.
use Rattle.std.specs.Prelude.{ℕ, zero, suc, ◌+◌, ◌-◌, ◌*◌, List, get_or}
use Rattle.lookups.specs.declared.TestRow.{TestRow}
use Rattle.lookups.specs.declared.ActionRow.{ActionRow}

-- The counts of variables, and "for each output its source": output k, from 0.
abbrev pub inputs_of : List ℕ → ℕ
inputs_of T = get_or T 0 0

abbrev pub internals_of : List ℕ → ℕ
internals_of T = get_or T 1 0

abbrev pub outputs_of : List ℕ → ℕ
outputs_of T = get_or T 2 0

unfoldable pub source_of : List ℕ → ℕ → ℕ
source_of T k = get_or T (3 + k) 0

-- The tests: how many, and test k, from 0.
abbrev pub tests_of : List ℕ → ℕ
tests_of T = get_or T (3 + outputs_of T) 0

abbrev pub test_place : List ℕ → ℕ → ℕ
test_place T k = 4 + outputs_of T + 3 * k

unfoldable pub test_of : List ℕ → ℕ → TestRow
test_of T k = record { kind = get_or T (test_place T k) 0; a = get_or T (test_place T k + 1) 0; b = get_or T (test_place T k + 2) 0 }

-- The processes: how many, after all the tests.
abbrev pub processes_place : List ℕ → ℕ
processes_place T = test_place T (tests_of T)

abbrev pub processes_of : List ℕ → ℕ
processes_of T = get_or T (processes_place T) 0

-- The place after k states, of which the first has its count of actions at a place: a count, then six numbers for each action.
unfoldable pub after_states : List ℕ → ℕ → ℕ → ℕ
after_states T zero at = at
after_states T (suc k) at = after_states T k (at + 1 + 6 * get_or T at 0)

-- The place after k processes, of which the first has its count of states at a place: a count, then its states.
unfoldable pub after_processes : List ℕ → ℕ → ℕ → ℕ
after_processes T zero at = at
after_processes T (suc k) at = after_processes T k (after_states T (get_or T at 0) (at + 1))

-- Where process p has its count of states, and state s of it its count of actions; p and s from 1.
unfoldable pub process_place : List ℕ → ℕ → ℕ
process_place T p = after_processes T (p - 1) (processes_place T + 1)

unfoldable pub state_place : List ℕ → ℕ → ℕ → ℕ
state_place T p s = after_states T (s - 1) (process_place T p + 1)

abbrev pub states_of : List ℕ → ℕ → ℕ
states_of T p = get_or T (process_place T p) 0

abbrev pub actions_of : List ℕ → ℕ → ℕ → ℕ
actions_of T p s = get_or T (state_place T p s) 0

-- The six numbers from a place on; those of action a, from 1, of the state that has its count at a place, and of state s of process p.
unfoldable pub row_from : List ℕ → ℕ → ActionRow
row_from T at =
    record {
      op = get_or T at 0;
      x = get_or T (at + 1) 0;
      y = get_or T (at + 2) 0;
      guard = get_or T (at + 3) 0;
      next_if = get_or T (at + 4) 0;
      next_else = get_or T (at + 5) 0;
    }

-- What is found of an action that is not there.
abbrev pub no_action : ActionRow
no_action = record { op = 0; x = 0; y = 0; guard = 0; next_if = 0; next_else = 0 }

unfoldable pub action_from : List ℕ → ℕ → ℕ → ActionRow
action_from T state a = row_from T (state + 1 + 6 * (a - 1))

unfoldable pub action_of : List ℕ → ℕ → ℕ → ℕ → ActionRow
action_of T p s a = action_from T (state_place T p s) a

-- "Inputs: scans q (1 to 1,365), return scan b (below q), then one number per input variable per scan": scan by scan. What input variable k takes when so many
-- scans are done.
abbrev pub scans_of : List ℕ → ℕ
scans_of I = get_or I 0 0

abbrev pub return_of : List ℕ → ℕ
return_of I = get_or I 1 0

unfoldable pub reading_of : List ℕ → ℕ → ℕ → ℕ → ℕ
reading_of I inputs done k = get_or I (2 + inputs * done + k) 0
