-- "Reading and writing undo each other" (document 01, Coding), of tables and of inputs records.
-- Assumes nothing.
use Prim.Native.Nat.{ℕ}
use Rattle.coding.proofs.Grammars.{Undone, undone}
use Rattle.ranges.specs.Limits.{most_processes}
use Rattle.table.specs.Table.{table_grammar, inputs_grammar}
use Rattle.table.proofs.Fair.{fair_table, fair_inputs}

pub tables_undone : Undone (table_grammar most_processes)
tables_undone = undone (fair_table most_processes)

pub inputs_undone : (inputs : ℕ) → Undone (inputs_grammar inputs)
inputs_undone inputs = undone (fair_inputs inputs)
