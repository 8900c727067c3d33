-- Small runs by computing, and what the theorems say of them: none of these is empty.
-- Assumes nothing.
use Prim.Native.Nat.{ℕ, ◌<◌}
use mathlib.Core.Path.{◌≡◌, refl}
use Rattle.std.specs.Prelude.{Err}
use Rattle.run.specs.declared.Stop.TheVariants.{Halted}
use Rattle.coding.specs.Number.{number_at}
use Rattle.coding.specs.Code.{code_at}
use Rattle.coding.specs.declared.Cause.TheVariants.{NoRule, LongTurn, NotClosed}
use Rattle.ranges.specs.Values.{within, total_ok, is_internal, is_variable, test_a_ok, op_ok, x_ok, y_ok, uses_nexts, guard_ok}
use Rattle.ranges.specs.Values.{uses_else, next_ok}
use Rattle.ranges.specs.Order.{allowed, at_sources, after_source, at_tests, after_test, after_action}
use Rattle.table.specs.Table.{check, counts_from, state_ok, tests_from, table_grammar, inputs_grammar}
use Rattle.lookups.specs.Places.{source_of, test_of, after_states, after_processes, process_place, state_place, row_from}
use Rattle.lookups.specs.Places.{action_from, action_of as row_of, reading_of}
use Rattle.controller.specs.State.{up, goes, timed, entering, value_at, states_of, state_at, record_at, with_record, start}
use Rattle.controller.specs.State.{raised, all_raised}
use Rattle.controller.specs.Rules.{updated, elapsed, waited, restarted, act_of}
use Rattle.controller.specs.Actions.{action_of}
use Rattle.controller.specs.Tests.{compares, truth}
use Rattle.controller.specs.Same.{same_values, same_record, same_records, same_state}
use Rattle.scan.specs.Guards.{test_holds, guard_holds, next_of}
use Rattle.scan.specs.Scanning.{taken, read_of, written, write_of}
use Rattle.run.specs.Moves.{active, step_of, too_long, action_move, move_of}
use Rattle.run.specs.Running.{reached, to_return, to_end, closing, ran_of, closes_at}
use Rattle.run.specs.Trace.{numbers_in, run_of}
use Rattle.endless.specs.Bench.{bench_table, bench_inputs}
use Rattle.endless.proofs.Bench.{bench_run}
use Rattle.invariants.specs.Examples.{reset_table, restart_table, constant_table, one_scan_inputs}
use Rattle.invariants.specs.Refusals.{Ends}
use Rattle.invariants.specs.Turns.{Scanned}
use Rattle.invariants.proofs.Answered.{run_exactly}
use Rattle.invariants.proofs.EachScan.{accepted_scans}

-- 5 and 6 in scan 1, of process 1; 8 at scan 1.
pub small_runs :
    (run_of 20480 reset_table one_scan_inputs ≡ Err (Halted NoRule 1 1))
    × (run_of 20480 restart_table one_scan_inputs ≡ Err (Halted LongTurn 1 1))
    × (run_of 20480 constant_table one_scan_inputs ≡ Err (Halted NotClosed 1 0))
unfolding source_of test_of after_states after_processes process_place state_place row_from action_from row_of reading_of up goes timed entering value_at states_of state_at record_at with_record start raised all_raised updated elapsed waited restarted act_of action_of compares truth same_values same_record same_records same_state test_holds guard_holds next_of taken read_of written write_of active step_of too_long action_move move_of reached to_return to_end closing ran_of run_of within total_ok is_internal is_variable test_a_ok op_ok x_ok y_ok uses_nexts guard_ok uses_else next_ok allowed at_sources after_source at_tests after_test after_action number_at code_at check counts_from state_ok tests_from table_grammar inputs_grammar
small_runs = (refl, refl, refl)

-- So a state of each stops it so.
pub small_ends :
    Ends (numbers_in reset_table) (numbers_in one_scan_inputs) (Err (Halted NoRule 1 1))
    × Ends (numbers_in restart_table) (numbers_in one_scan_inputs) (Err (Halted LongTurn 1 1))
    × Ends (numbers_in constant_table) (numbers_in one_scan_inputs) (Err (Halted NotClosed 1 0))
small_ends = (
  ((run_exactly 20480 reset_table one_scan_inputs (Err (Halted NoRule 1 1)) tt).0 small_runs.0).1,
  ((run_exactly 20480 restart_table one_scan_inputs (Err (Halted LongTurn 1 1)) tt).0 small_runs.1).1,
  ((run_exactly 20480 constant_table one_scan_inputs (Err (Halted NotClosed 1 0)) tt).0 small_runs.2).1,
)

-- The bench case's three scans.
pub bench_scans : (k : ℕ) → k < 3 → Scanned (numbers_in bench_table) (numbers_in bench_inputs) k
unfolding code_at
bench_scans k h =
    let (ok, closes) = (run_exactly 20480 bench_table bench_inputs (closes_at 12 4) tt).0 bench_run.0 in
    let scans = closes.after_q in
    accepted_scans (code_at bench_table 0) ok.table_numbers ok.table_read (numbers_in bench_inputs) 12 scans.arises k (rw scans.done h)
