-- From the first read on the input variables have what was recorded for the scan that was read last.
-- Assumes nothing.
use Prim.Native.Nat.{ℕ, zero, suc, ◌+◌, ◌-◌, ◌<◌, ◌≤◌}
use native.Mathlib.Omega.{arith}
use mathlib.Core.Path.{◌≡◌, refl, ◌∙◌}
use mathlib.Core.List.{List}
use lib.ListN.{length}
use Rattle.coding.specs.declared.Cause.{Cause}
use Rattle.ranges.specs.Limits.{most_processes}
use Rattle.requirement.specs.declared.Phase.{Phase}
use Rattle.requirement.specs.declared.Phase.TheVariants.{Input, Exe, Output}
use Rattle.lookups.specs.Places.{inputs_of, outputs_of}
use Rattle.lookups.specs.Structure.{Table, numbers_of}
use Rattle.lookups.proofs.Structured.{joined}
use Rattle.structure.specs.Allowed.{Allowed}
use Rattle.controller.specs.declared.Controller.{Controller}
use Rattle.scan.specs.Scanning.{read_of, write_of}
use Rattle.run.specs.Moves.{move_of}
use Rattle.run.specs.declared.Machine.{Machine}
use Rattle.endless.proofs.Phases.{Fit, Fits}
use Rattle.invariants.specs.Allows.{StateAllowed}
use Rattle.invariants.specs.Runs.{RunOf}
use Rattle.invariants.specs.Reading.{Holding, last_read}
use Rattle.invariants.proofs.Sound.{sound}
use Rattle.invariants.specs.Refusals.{Acts, Forbids, long_turn, no_rule}
use Rattle.invariants.proofs.Phased.{fits_always, starts_reading}
use Rattle.invariants.proofs.MoveKinds.{step_in, by_kind}
use Rattle.invariants.proofs.Reached.{run_allowed, run_sized}
use Rattle.invariants.proofs.Values.{Untouched, taken_there, written_kept, step_inputs}

-- Where a process or the write is next, the last read was that of the scan under way.
under_way : (p : Phase) (c u s : ℕ) → Fit p c u → 0 < c → last_read p s ≡ s
under_way Input c u s f h = refl
under_way Exe c u s f h = refl
under_way Output c u s f h = absurd (omega arith)

module _ (t : Table) (ok : Allowed most_processes t) (I : List ℕ) (scan_read : ℕ → ℕ) where
  abbrev T : List ℕ
  T = numbers_of t

  -- Room for the input variables, and what they have: scanRead tells which recorded scan is read where so many are
  -- done.
  abbrev Room : Machine → Type 0
  Room m = t.inputs ≤ length m.state.variables

  abbrev Held : Machine → Type 0
  Held m = Holding T I (scan_read (last_read m.phase m.scan)) m.state.variables

  abbrev moved : Machine → Machine
  moved m = (move_of T I (scan_read m.scan) m).machine

  kept_holding : {d : ℕ} {v w : List ℕ} → Untouched t.inputs v w → Holding T I d v → Holding T I d w
  kept_holding k h = record { values = λ x b. k.same x (rw (joined t).inputs at b) ∙ h.values x b }

  written_same : (c : Controller) → Untouched t.inputs c.variables (write_of T c).variables
  unfolding write_of
  written_same c = rw (joined t).inputs at (written_kept T (outputs_of T) 0 c.variables)

  step_same : (m : Machine) → StateAllowed t m.state → Acts T m →
      Untouched t.inputs m.state.variables (step_in T m).state.variables
  step_same m h a =
      let all = (joined t).processes in
      step_inputs t (sound most_processes t ok) m.state.counter (omega arith) m.state h

  read_holds : (d : ℕ) (c : Controller) → t.inputs ≤ length c.variables → Holding T I d (read_of T I d c).variables
  unfolding read_of
  read_holds d c h =
      let n = (joined t).inputs in
      record { values = λ k b. taken_there I (inputs_of T) d (inputs_of T) 0 k c.variables (omega arith) (omega arith) (omega arith) }

  -- Where the next move is no read, the inputs have been read.
  held_next : (m : Machine) → Fits m → StateAllowed t m.state → Room m → (0 < m.state.counter → Held m) →
      Held (moved m)
  held_next m f h r before =
      by_kind (λ x. Held x.machine) T I (scan_read m.scan) m
      (λ e. read_holds (scan_read m.scan) m.state r)
      (λ e g. let z : m.scan + 1 - 1 ≡ m.scan = omega arith in rw z (kept_holding (written_same m.state) (now e)))
      (λ a l e. kept_holding (step_same m h a) (now a.0))
      (λ a l e. kept_holding (step_same m h a) (now a.0))
      (λ cause g. before (acting g))
    where
      now : 0 < m.state.counter → Holding T I (scan_read m.scan) m.state.variables
      now k = rw (under_way m.phase m.state.counter m.used m.scan f.fit k) at (before k)

      acting : {cause : Cause} → Forbids T m cause → 0 < m.state.counter
      acting (long_turn a _) = a.0
      acting (no_rule a _ _) = a.0

module _ (t : Table) (ok : Allowed most_processes t) {I : List ℕ} {taking : ℕ → ℕ} {state : ℕ → Machine} (r : RunOf (numbers_of t) I taking state) where
  room_at : (j : ℕ) → Room t ok I taking (state j)
  room_at j = let few = ok.total in omega (arith, run_sized t ok r j)

  held_from : (j : ℕ) → (0 < (state j).state.counter → Held t ok I taking (state j)) →
      Held t ok I taking (state (suc j))
  held_from j before =
      rw (r.next j) (held_next t ok I taking (state j) (fits_always r j) (run_allowed t ok r j) (room_at j) before)

  held_at : (j : ℕ) → Held t ok I taking (state (suc j))
  held_at zero = held_from 0 (λ h. absurd (omega (arith, starts_reading r)))
  held_at (suc j) = held_from (suc j) (λ h. held_at j)

  -- State 1 is the one after the first read: from there on the input variables have what is recorded for the scan that
  -- was read last.
  pub inputs_held : (j : ℕ) → 1 ≤ j →
      Holding (numbers_of t) I (taking (last_read (state j).phase (state j).scan)) (state j).state.variables
  inputs_held zero h = absurd (omega arith)
  inputs_held (suc j) h = held_at j
