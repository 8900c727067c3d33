-- Document 01, The bench case, by computing: "Twelve positions, loop start 4; Input at 1, 5, 9; Output at 0, 4, 8; atom 0 at 5 to 8, atom 1 at 8 to 11." So the trace of
-- which the marked cases are shown is the one that the run gives.
-- Assumes nothing.
use mathlib.Core.Path.{◌≡◌, refl, sym, ap, subst}
use mathlib.Core.List.{List}
use Prim.Native.Nat.{ℕ}
use Rattle.meaning.specs.Trace.{Trace}
use Rattle.lasso.specs.Bytes.{trace_of}
use Rattle.marked.specs.Marked.{bench_bytes, one_input_bytes, bench, StatedOn, All, marked}
use Rattle.marked.proofs.Cases.{shown}
use Rattle.ranges.specs.Values.{within, total_ok, is_internal, is_variable, test_a_ok, op_ok, x_ok, y_ok, uses_nexts, guard_ok, uses_else, next_ok}
use Rattle.ranges.specs.Order.{allowed, at_sources, after_source, at_tests, after_test, after_action}
use Rattle.coding.specs.Number.{number_at}
use Rattle.coding.specs.Code.{code_at}
use Rattle.table.specs.Table.{check, counts_from, state_ok, tests_from, table_grammar, inputs_grammar}
use Rattle.lookups.specs.Places.{source_of, test_of, after_states, after_processes, process_place, state_place, row_from, action_from, action_of as row_of, reading_of}
use Rattle.controller.specs.State.{up, goes, timed, entering, value_at, states_of, state_at, record_at, with_record, start, raised, all_raised}
use Rattle.controller.specs.Rules.{updated, elapsed, waited, restarted, act_of}
use Rattle.controller.specs.Actions.{action_of}
use Rattle.controller.specs.Tests.{compares, truth}
use Rattle.controller.specs.Same.{same_values, same_record, same_records, same_state}
use Rattle.scan.specs.Guards.{test_holds, guard_holds, next_of, atom_of}
use Rattle.scan.specs.Scanning.{taken, read_of, written, write_of}
use Rattle.scan.specs.Position.{packed, atom_byte, atom_bytes, state_bytes}
use Rattle.run.specs.Moves.{active, step_of, too_long, action_move, move_of}
use Rattle.run.specs.Running.{reached, to_return, to_end, closing, ran_of, closes_at}
use Rattle.run.specs.Trace.{path, trace_bytes, numbers_in, run_of}
use Rattle.endless.specs.Bench.{bench_table, bench_inputs, one_input_inputs, timer_table, timer_inputs, timer_bytes}

pub bench_run : (run_of 20480 bench_table bench_inputs ≡ closes_at 12 4) × (trace_bytes (numbers_in bench_table) (numbers_in bench_inputs) 12 ≡ bench_bytes)
unfolding source_of test_of after_states after_processes process_place state_place row_from action_from row_of reading_of up goes timed entering value_at states_of state_at record_at with_record start raised all_raised updated elapsed waited restarted act_of action_of compares truth same_values same_record same_records same_state test_holds guard_holds next_of atom_of taken read_of written write_of packed atom_byte atom_bytes state_bytes active step_of too_long action_move move_of reached to_return to_end closing ran_of path run_of within total_ok is_internal is_variable test_a_ok op_ok x_ok y_ok uses_nexts guard_ok uses_else next_ok allowed at_sources after_source at_tests after_test after_action number_at code_at check counts_from state_ok tests_from table_grammar inputs_grammar
bench_run = (refl, refl)

pub bench_lasso : trace_of (trace_bytes (numbers_in bench_table) (numbers_in bench_inputs) 12) 4 ≡ bench
bench_lasso = ap (λ (s : List ℕ). trace_of s 4) bench_run.1

-- M1 to M12, of the run's own trace.
pub shown_of_run : All (StatedOn (trace_of (trace_bytes (numbers_in bench_table) (numbers_in bench_inputs) 12) 4)) marked
shown_of_run = subst (λ (t : Trace). All (StatedOn t) marked) (sym bench_lasso) shown

-- The second trace of the computed cases is a run's too.
pub one_input_run : (run_of 20480 bench_table one_input_inputs ≡ closes_at 8 4) × (trace_bytes (numbers_in bench_table) (numbers_in one_input_inputs) 8 ≡ one_input_bytes)
unfolding bench_run
one_input_run = (refl, refl)

-- The slip of document 01 that is of the run.
pub timer_run : (run_of 20480 timer_table timer_inputs ≡ closes_at 22 11) × (trace_bytes (numbers_in timer_table) (numbers_in timer_inputs) 22 ≡ timer_bytes)
unfolding bench_run
timer_run = (refl, refl)
