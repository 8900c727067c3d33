-- Document 01, Coding: "Table, in this order: ..", "Inputs: scans q (1 to 1,365), return scan b (below q), then one number per input variable per scan",
-- as a machine that is handed one number at a time.
-- Assumes nothing: these are definitions.
use Rattle.std.specs.Prelude.{ℕ, ◌+◌, ◌-◌, ◌*◌, Bool, ltb, leb, eqb}
use Rattle.ranges.specs.Limits.{most_tests, most_states, most_actions, most_scans}
use Rattle.ranges.specs.Values.{pick, within, total_ok, is_internal, test_a_ok, op_ok, x_ok, y_ok, uses_nexts, guard_ok, uses_else, next_ok}
use Rattle.ranges.specs.declared.Shape.{Shape}
use Rattle.ranges.specs.declared.Spot.{Spot}
use Rattle.ranges.specs.declared.Want.{Want}
use Rattle.ranges.specs.declared.Want.TheVariants.{Inputs, Internals, Outputs, Source, Tests, Kind, TestA, TestB, Processes, States, Actions, Op, X, Y, Guard, NextIf, NextElse, Scans, Return, Reading}
use Rattle.ranges.specs.declared.Step.{Step}
use Rattle.ranges.specs.declared.Step.TheVariants.{More, Last, NotAllowed}

-- A value that is allowed leads on.
unfoldable pub allowed : Bool → Want → Step
allowed ok want = pick ok (More want) NotAllowed

-- "for each output its source, an internal variable", then the tests
unfoldable pub at_sources : Shape → Want
at_sources sh = pick (eqb sh.outputs 0) (Tests sh) (Source sh sh.outputs)

unfoldable pub after_source : Shape → ℕ → Want
after_source sh left = pick (leb left 1) (Tests sh) (Source sh (left - 1))

-- "count of tests (0 to 32), each as kind, a, b", then the processes
unfoldable pub at_tests : Shape → Want
at_tests sh = pick (eqb sh.tests 0) (Processes sh) (Kind sh sh.tests)

unfoldable pub after_test : Shape → ℕ → Want
after_test sh left = pick (leb left 1) (Processes sh) (Kind sh (left - 1))

-- After an action: the next action of the body, the next state of the process, the next process, or nothing.
unfoldable pub after_action : Shape → Spot → Step
after_action sh spot =
    pick (ltb spot.action spot.actions)
    (More (Op sh (record { process = spot.process; states = spot.states; state = spot.state; actions = spot.actions; action = spot.action + 1 })))
    (pick (ltb spot.state spot.states) (More (Actions sh spot.process spot.states (spot.state + 1)))
    (pick (ltb spot.process sh.processes) (More (States sh (spot.process + 1))) Last))

-- The shape of the variables, with tests, and with processes.
abbrev pub of_variables : ℕ → ℕ → ℕ → Shape
of_variables i m o = record { inputs = i; internals = m; outputs = o; tests = 0; processes = 0 }

abbrev pub with_tests : Shape → ℕ → Shape
with_tests sh v = record { inputs = sh.inputs; internals = sh.internals; outputs = sh.outputs; tests = v; processes = 0 }

abbrev pub with_processes : Shape → ℕ → Shape
with_processes sh v = record { inputs = sh.inputs; internals = sh.internals; outputs = sh.outputs; tests = sh.tests; processes = v }

-- What the number v leads to where `want` is wanted. At most `most` processes are allowed.
abbrev pub step_of : ℕ → Want → ℕ → Step
step_of most Inputs v = allowed (total_ok 0 0 v) (Internals v)
step_of most (Internals i) v = allowed (total_ok i 0 v) (Outputs i v)
step_of most (Outputs i m) v = allowed (total_ok i m v) (at_sources (of_variables i m v))
step_of most (Source sh left) v = allowed (is_internal sh v) (after_source sh left)
step_of most (Tests sh) v = allowed (within 0 v most_tests) (at_tests (with_tests sh v))
step_of most (Kind sh left) v = allowed (within 0 v 2) (TestA sh left v)
step_of most (TestA sh left kind) v = allowed (test_a_ok sh kind v) (TestB sh left kind v)
step_of most (TestB sh left kind a) v = More (after_test sh left)
step_of most (Processes sh) v = allowed (within 1 v most) (States (with_processes sh v) 1)
step_of most (States sh process) v = allowed (within 1 v most_states) (Actions sh process v 1)
step_of most (Actions sh process states state) v =
    allowed (within 1 v most_actions) (Op sh (record { process = process; states = states; state = state; actions = v; action = 1 }))
step_of most (Op sh spot) v = allowed (op_ok spot v) (X sh spot v)
step_of most (X sh spot op) v = allowed (x_ok sh spot op v) (Y sh spot op)
step_of most (Y sh spot op) v = allowed (y_ok sh op v) (Guard sh spot op)
step_of most (Guard sh spot op) v = allowed (guard_ok sh op v) (NextIf sh spot op v)
step_of most (NextIf sh spot op guard) v = allowed (next_ok spot (uses_nexts op) v) (NextElse sh spot op guard)
step_of most (NextElse sh spot op guard) v = pick (next_ok spot (uses_else op guard) v) (after_action sh spot) NotAllowed
step_of most (Scans inputs) v = allowed (within 1 v most_scans) (Return inputs v)
step_of most (Return inputs scans) v = pick (leb scans v) NotAllowed (pick (eqb (scans * inputs) 0) Last (More (Reading (scans * inputs))))
step_of most (Reading left) v = pick (leb left 1) Last (More (Reading (left - 1)))
