-- The trace that a run gives, apart from any buffer; and what a run of bytes answers and leaves in a lent buffer.
-- Assumes nothing: these are definitions.
use Rattle.run.specs.declared.Stop.TheVariants.{Halted, Refused}
use Rattle.std.specs.Prelude.{ℕ, zero, suc, List, [], ◌++◌, length, replicate, ltb, Ok, Err}
use Rattle.coding.specs.Code.{code_at, values}
use Rattle.coding.specs.Room.{over}
use Rattle.coding.specs.Refusal.{accepted, refusal, Answer}
use Rattle.coding.specs.declared.Refusal.{Refusal}
use Rattle.coding.specs.declared.Told.{Told}
use Rattle.coding.specs.declared.Cause.TheVariants.{ShortBuffer}
use Rattle.ranges.specs.Limits.{most_processes}
use Rattle.ranges.specs.Values.{pick}
use Rattle.lookups.specs.Places.{inputs_of}
use Rattle.table.specs.Table.{table_grammar, inputs_grammar}
use Rattle.scan.specs.Position.{state_bytes}
use Rattle.run.specs.Limits.{trace_room}
use Rattle.run.specs.Moves.{begun}
use Rattle.run.specs.Running.{recorded_move, ran_of, Ran, run_refused}
use Rattle.run.specs.declared.Stop.{Stop}
use Rattle.run.specs.declared.Machine.{Machine}

-- The bytes of n states, one move after another.
unfoldable pub path : List ℕ → List ℕ → ℕ → Machine → List ℕ
path T I zero m = []
path T I (suc n) m = state_bytes T m.phase m.state ++ path T I n (recorded_move T I m).machine

-- The trace of a run that closes with so many positions.
abbrev pub trace_bytes : List ℕ → List ℕ → ℕ → List ℕ
trace_bytes T I n = path T I n (begun most_processes)

-- The numbers that bytes code.
abbrev pub numbers_in : List ℕ → List ℕ
numbers_in s = values (code_at s 0)

-- "A run checks: trace buffer under 20,480 bytes (10), table, inputs, scans."
abbrev pub by_inputs : List ℕ → List ℕ → Answer → Ran
by_inputs T I (Ok n) = ran_of T I
by_inputs T I (Err why) = Err (Refused why)

abbrev pub by_table : List ℕ → List ℕ → Answer → Ran
by_table T inputs (Ok n) = by_inputs T (numbers_in inputs) (inputs_grammar (inputs_of T) (code_at inputs 0))
by_table T inputs (Err why) = Err (Refused why)

unfoldable pub run_of : ℕ → List ℕ → List ℕ → Ran
run_of room table inputs =
    pick (ltb room trace_room) (run_refused ShortBuffer trace_room) (by_table (numbers_in table) inputs (table_grammar most_processes (code_at table 0)))

-- "An accepted run zeroes the trace bytes past its end." "5 to 8 leave the trace buffer all zero." "1 to 4 and 9 to 11 change no buffer".
abbrev pub left_in : Ran → List ℕ → List ℕ → List ℕ → List ℕ
left_in (Ok closed) T I trace = over (replicate (length trace) 0) 0 (trace_bytes T I closed.positions)
left_in (Err (Halted cause scan process)) T I trace = replicate (length trace) 0
left_in (Err (Refused why)) T I trace = trace

-- The refusal that a stop is told as: 5 to 8 have the scan for their place.
abbrev pub stop_told : Stop → Refusal
stop_told (Halted cause scan process) = record { cause = cause; place = scan }
stop_told (Refused why) = why

-- A run's answer in the paper's numbers: the position count and the loop start, or the refusal and its place.
abbrev pub ran_told : Ran → Told
ran_told (Ok closed) = accepted closed.positions closed.start
ran_told (Err (Halted cause scan process)) = refusal cause scan
ran_told (Err (Refused why)) = refusal why.cause why.place
