-- The endless run of the rules, when the inputs after scan b repeat for ever: what the lasso of a closed run stands
-- for.
-- Assumes nothing: these are definitions.
use Rattle.std.specs.Prelude.{ℕ, zero, suc, ◌+◌, ◌-◌, ◌%◌, List, ltb}
use Rattle.ranges.specs.Limits.{most_processes}
use Rattle.ranges.specs.Values.{pick}
use Rattle.meaning.specs.Meaning.{Run}
use Rattle.lookups.specs.Places.{scans_of, return_of}
use Rattle.controller.specs.State.{states_of}
use Rattle.scan.specs.Guards.{atom_of}
use Rattle.run.specs.Moves.{begun, move_of}
use Rattle.run.specs.declared.Machine.{Machine}

-- Which recorded scan, counted from 0, is read when so many scans are done: the recorded ones in turn, and then again
-- those after scan b, for ever.
unfoldable pub recorded_scan : ℕ → ℕ → ℕ → ℕ
recorded_scan q b done = pick (ltb done q) done (b + (done - b) % (q - b))

-- State n of the endless run. A move that is stopped would leave the state as it is; of a run that closes none is
-- (`goes_on` in proofs/Closed.antt).
unfoldable pub endless_state : List ℕ → List ℕ → ℕ → Machine
endless_state T I zero = begun most_processes
endless_state T I (suc n) =
    let m = endless_state T I n in
    (move_of T I (recorded_scan (scans_of I) (return_of I) m.scan) m).machine

-- The same as a run on which requirements have a meaning: the phase of each of its states, and of atom k whether test k
-- is true of it; an atom without a test is false.
abbrev pub rules_run : List ℕ → List ℕ → Run
rules_run T I =
    record {
      phase = λ n. (endless_state T I n).phase;
      says = λ n k. atom_of T (endless_state T I n).state.variables (states_of (endless_state T I n).state.processes) k;
    }
