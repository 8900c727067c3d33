-- What a run asks before its scans. Document 01, Numbers of refusal: "A run checks: trace buffer under 20,480 bytes
-- (10), table, inputs, scans."
-- Assumes nothing: these are definitions.
use Rattle.run.specs.declared.Stop.TheVariants.{Halted, Refused}
use Rattle.run.specs.Running.{Ran}
use Rattle.std.specs.Prelude.{ℕ, ◌≤◌, ◌<◌, ◌≡◌, List, get_or, Ok, Err}
use Rattle.coding.specs.Code.{code_at}
use Rattle.ranges.specs.Limits.{most_processes}
use Rattle.lookups.specs.Places.{inputs_of}
use Rattle.table.specs.Table.{table_grammar, inputs_grammar}
use Rattle.run.specs.Limits.{trace_room}
use Rattle.run.specs.Trace.{numbers_in}

-- The lent buffer is long enough, and the table and the inputs are accepted, as so many numbers.
pub record ReadyToRun (room : ℕ) (table inputs : List ℕ) : Type 0 where
  pub buffer : trace_room ≤ room
  pub table_numbers : ℕ
  pub table_read : table_grammar most_processes (code_at table 0) ≡ Ok table_numbers
  pub inputs_numbers : ℕ
  pub inputs_read : inputs_grammar (inputs_of (numbers_in table)) (code_at inputs 0) ≡ Ok inputs_numbers

-- An answer of a run whose scans were begun: 10, and the refusals of the table and of the inputs, come before.
abbrev pub ScansBegun : Ran → Type 0
ScansBegun (Ok closed) = Unit {0}
ScansBegun (Err (Halted cause scan process)) = Unit {0}
ScansBegun (Err (Refused why)) = ⊥

-- A list of bytes, as every lent slice is one.
abbrev pub Bytes : List ℕ → Type 0
Bytes s = (i : ℕ) → get_or s i 0 < 256
