-- What a run of bytes answers once the table and the inputs are accepted.
-- Assumes nothing.
use Prim.Native.Nat.{ℕ}
use mathlib.Core.Path.{◌≡◌, refl, sym, ◌∙◌}
use mathlib.Core.Logic.{◌↔◌}
use mathlib.Core.Bool.{Bool, true, false}
use mathlib.Core.List.{List}
use lib.Dec.{ltb}
use borrow.Author.Tests.{ltb-false, le-ltb}
use Rattle.coding.specs.Refusal.{Answer}
use Rattle.std.specs.Prelude.{Ok, Err}
use Rattle.coding.specs.Code.{code_at}
use Rattle.ranges.specs.Limits.{most_processes}
use Rattle.lookups.specs.Places.{inputs_of}
use Rattle.table.specs.Table.{table_grammar, inputs_grammar}
use Rattle.run.specs.Limits.{trace_room}
use Rattle.run.specs.Running.{ran_of, Ran}
use Rattle.run.specs.Trace.{numbers_in, by_inputs, by_table, run_of}
use Rattle.endless.proofs.Accepted.{returns_below}
use Rattle.invariants.specs.Accepting.{ReadyToRun, ScansBegun}
use Rattle.invariants.specs.Refusals.{Ends}
use Rattle.invariants.proofs.Refused.{ran_exactly}

module _ (room : ℕ) (table inputs : List ℕ) where
  accepted_runs : ReadyToRun room table inputs → run_of room table inputs ≡ ran_of (numbers_in table) (numbers_in inputs)
  unfolding run_of
  accepted_runs a = rw (le-ltb room trace_room a.buffer, a.table_read, a.inputs_read) refl

  by_inputs_lem : (roomy : ltb room trace_room ≡ false) (n : ℕ) → table_grammar most_processes (code_at table 0) ≡ Ok n →
      (y : Answer) → inputs_grammar (inputs_of (numbers_in table)) (code_at inputs 0) ≡ y →
      ScansBegun (by_inputs (numbers_in table) (numbers_in inputs) y) → ReadyToRun room table inputs
  by_inputs_lem roomy n f (Ok k) g h = record {
    buffer = ltb-false room trace_room roomy;
    table_numbers = n;
    table_read = f;
    inputs_numbers = k;
    inputs_read = g;
  }
  by_inputs_lem roomy n f (Err why) g h = absurd h

  by_table_lem : (roomy : ltb room trace_room ≡ false) (x : Answer) → table_grammar most_processes (code_at table 0) ≡ x →
      ScansBegun (by_table (numbers_in table) inputs x) → ReadyToRun room table inputs
  by_table_lem roomy (Ok n) f h = by_inputs_lem roomy n f (inputs_grammar (inputs_of (numbers_in table)) (code_at inputs 0)) refl h
  by_table_lem roomy (Err why) f h = absurd h

  begun_accepted : ScansBegun (run_of room table inputs) → ReadyToRun room table inputs
  unfolding run_of
  begun_accepted h = go (ltb room trace_room) refl
    where
      go : (b : Bool) → ltb room trace_room ≡ b → ReadyToRun room table inputs
      go true e = absurd (rw e at h)
      go false e = by_table_lem e (table_grammar most_processes (code_at table 0)) refl (rw e at h)

  -- The scans of a run are begun just where all before is accepted, and then it answers what its states say.
  pub run_exactly : (r : Ran) → ScansBegun r →
      (run_of room table inputs ≡ r) ↔ (ReadyToRun room table inputs × Ends (numbers_in table) (numbers_in inputs) r)
  run_exactly r b = (
    λ e. let a = begun_accepted (rw e b) in (a, (exactly a).0 (sym (accepted_runs a) ∙ e)),
    λ (a, h). accepted_runs a ∙ (exactly a).1 h,
  )
    where
      exactly : ReadyToRun room table inputs →
          (ran_of (numbers_in table) (numbers_in inputs) ≡ r) ↔ Ends (numbers_in table) (numbers_in inputs) r
      exactly a =
          let below = returns_below (inputs_of (numbers_in table)) a.inputs_numbers (code_at inputs 0) a.inputs_read in
          ran_exactly (numbers_in table) (numbers_in inputs) below r
