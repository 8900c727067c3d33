-- A run stays in its table: every state of a run of an allowed table is one that the table allows, and what a process
-- does there is what the table has for it.
-- Assumes nothing.
use Prim.Native.Nat.{ℕ, zero, suc, ◌-◌}
use mathlib.Core.Path.{◌≡◌, refl, ◌∙◌}
use mathlib.Core.List.{List, ◌∷◌}
use native.Mathlib.Omega.{arith}
use lib.ListN.{length, replicate, length-replicate, get_or-replicate}
use Rattle.std.specs.Prelude.{Ok}
use Rattle.coding.specs.Code.{Code, values}
use Rattle.ranges.specs.Limits.{most_processes, most_variables}
use Rattle.table.specs.Table.{table_grammar}
use Rattle.structure.specs.Allowed.{OneOf, Allowed}
use Rattle.structure.proofs.Whole.{accepted_is_allowed}
use Rattle.lookups.specs.Places.{inputs_of, outputs_of}
use Rattle.lookups.specs.Structure.{Table, numbers_of}
use Rattle.lookups.proofs.Structured.{joined}
use Rattle.controller.specs.State.{none, start, entering, stopped, record_at}
use Rattle.controller.specs.declared.Process.{Process}
use Rattle.controller.specs.declared.Controller.{Controller}
use Rattle.scan.specs.Scanning.{read_of, write_of}
use Rattle.run.specs.Moves.{step_of, move_of}
use Rattle.run.specs.declared.Machine.{Machine}
use Rattle.invariants.specs.Allows.{RecordAllowed, StateAllowed}
use Rattle.invariants.specs.Runs.{RunOf}
use Rattle.invariants.specs.Staying.{Inside, StaysInTable}
use Rattle.invariants.proofs.Sound.{Sound, sound}
use Rattle.invariants.proofs.Planning.{step_found, step_due}
use Rattle.invariants.specs.Refusals.{Acts}
use Rattle.invariants.proofs.MoveKinds.{step_in, by_kind}
use Rattle.invariants.proofs.Values.{taken_size, written_kept, step_inputs}
use Rattle.invariants.proofs.Kept.{step_kept, read_kept, write_kept, first_allowed, stopped_allowed}

module _ (t : Table) (s : Sound t) where
  pub step_allowed : (i : ℕ) (c : Controller) → OneOf i (length t.processes) → StateAllowed t c →
      StateAllowed t (step_of (numbers_of t) i c).state
  step_allowed i c b h = rw (step_found t s i c b h) (step_kept t s i c b h)

  -- Whichever scan's inputs are read, and whether or not the move goes on.
  pub move_allowed : (I : List ℕ) (d : ℕ) (m : Machine) → StateAllowed t m.state →
      StateAllowed t (move_of (numbers_of t) I d m).machine.state
  move_allowed I d m h =
      let all = (joined t).processes in
      by_kind (λ x. StateAllowed t x.machine.state) (numbers_of t) I d m
      (λ e. read_kept t s (numbers_of t) I d m.state h)
      (λ e f. write_kept t s (numbers_of t) m.state h)
      (λ a l e. step_allowed m.state.counter m.state (omega arith) h)
      (λ a l e. step_allowed m.state.counter m.state (omega arith) h)
      (λ cause f. h)

  read_size : (I : List ℕ) (d : ℕ) (c : Controller) →
      length (read_of (numbers_of t) I d c).variables ≡ length c.variables
  unfolding read_of
  read_size I d c = taken_size I (inputs_of (numbers_of t)) d (inputs_of (numbers_of t)) 0 c.variables

  write_size : (c : Controller) → length (write_of (numbers_of t) c).variables ≡ length c.variables
  unfolding write_of
  write_size c = (written_kept (numbers_of t) (outputs_of (numbers_of t)) 0 c.variables).size

  step_size : (m : Machine) → Acts (numbers_of t) m → StateAllowed t m.state →
      length (step_in (numbers_of t) m).state.variables ≡ length m.state.variables
  step_size m a h =
      let all = (joined t).processes in (step_inputs t s m.state.counter (omega arith) m.state h).size

  move_size : (I : List ℕ) (d : ℕ) (m : Machine) → StateAllowed t m.state →
      length (move_of (numbers_of t) I d m).machine.state.variables ≡ length m.state.variables
  move_size I d m h =
      by_kind (λ x. length x.machine.state.variables ≡ length m.state.variables) (numbers_of t) I d m
      (λ e. read_size I d m.state)
      (λ e f. write_size m.state)
      (λ a l e. step_size m a h)
      (λ a l e. step_size m a h)
      (λ cause f. refl)

  inside : (m : Machine) → StateAllowed t m.state → length m.state.variables ≡ most_variables →
      Inside t (numbers_of t) m
  inside m h l = record { allowed = h; sized = l; due = λ b. step_due t s m.state.counter m.state b h }

-- The start, where there is room for the table's processes.
start_allowed : (n : ℕ) (t : Table) (s : Sound t) → OneOf (length t.processes) n → StateAllowed t (start n)
unfolding start record_at
start_allowed n t s b =
    record { room = let e = length-replicate {A = Process} (n - 1) stopped in omega arith; records = go }
  where
    go : (p : ℕ) → OneOf p (length t.processes) →
        RecordAllowed t p (record_at (entering 1 1 ∷ replicate (n - 1) stopped) p)
    go zero d = absurd (omega arith)
    go (suc zero) d = first_allowed t s 1 d
    go (suc (suc q)) d =
        let e : suc (suc q) - 1 ≡ suc q = omega arith in
        rw (e, get_or-replicate (n - 1) q stopped stopped (omega arith)) (stopped_allowed t s (suc (suc q)))

module _ (t : Table) (h : Allowed most_processes t) where
  abbrev first : StateAllowed t (start most_processes)
  first = let s = sound most_processes t h in start_allowed most_processes t s h.process_count

  -- However many moves were made since the start, whichever inputs were read. A move that is stopped leaves the state
  -- as it is, so that nothing is asked of the moves.
  pub run_allowed : {I : List ℕ} {taking : ℕ → ℕ} {state : ℕ → Machine} → RunOf (numbers_of t) I taking state →
      (j : ℕ) → StateAllowed t (state j).state
  run_allowed r zero = rw r.first first
  run_allowed {I} {taking} {state} r (suc j) =
      rw (r.next j) (move_allowed t (sound most_processes t h) I (taking (state j).scan) (state j) (run_allowed r j))

  pub run_sized : {I : List ℕ} {taking : ℕ → ℕ} {state : ℕ → Machine} → RunOf (numbers_of t) I taking state → (j : ℕ) →
      length (state j).state.variables ≡ most_variables
  unfolding start
  run_sized r zero = rw r.first (length-replicate {A = ℕ} most_variables none)
  run_sized {I} {taking} {state} r (suc j) =
      rw (r.next j) (move_size t (sound most_processes t h) I (taking (state j).scan) (state j) (run_allowed r j) ∙ run_sized r j)

  pub run_stays : StaysInTable t (numbers_of t)
  run_stays I taking state r j = inside t (sound most_processes t h) (state j) (run_allowed r j) (run_sized r j)

-- So in every run of numbers that the reader accepts: they are those of an allowed table, and the run stays in it.
pub accepted_run_allowed : (c : Code) (n : ℕ) → table_grammar most_processes c ≡ Ok n →
    (t : Table) × (values c ≡ numbers_of t) × Allowed most_processes t × StaysInTable t (values c)
accepted_run_allowed c n e =
    let a = accepted_is_allowed most_processes (omega arith) c n e in
    (a.0, a.1, a.2, rw a.1 (run_stays a.0 a.2))
