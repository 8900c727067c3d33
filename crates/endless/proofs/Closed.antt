-- What an accepted run is: its trace is a well-formed lasso, and that lasso's endless run is the run of the rules when
-- the inputs after scan b repeat for ever.
-- Assumes nothing.
use Prim.Native.Nat.{ℕ}
use mathlib.Core.Path.{◌≡◌}
use mathlib.Core.List.{List}
use Rattle.run.specs.Running.{closes_at}
use Rattle.std.specs.Prelude.{None, Ok}
use Rattle.meaning.specs.Trace.{endless}
use Rattle.lookups.specs.Places.{scans_of, return_of}
use Rattle.lasso.specs.Bytes.{trace_of}
use Rattle.lasso.specs.Checking.{check_trace}
use Rattle.run.specs.Moves.{move_of}
use Rattle.run.specs.Trace.{trace_bytes, numbers_in, run_of}
use Rattle.endless.specs.Unrolled.{recorded_scan, endless_state, rules_run}
use Rattle.endless.proofs.Ended.{ended}
use Rattle.endless.proofs.Formed.{is_lasso}
use Rattle.endless.proofs.Moments.{on_then, same_run}

-- The trace is well-formed, so that judging never refuses it by 9, and has as many positions as the run answers.
pub run_is_lasso : (room n start : ℕ) (table inputs : List ℕ) → run_of room table inputs ≡ closes_at n start →
    check_trace (trace_bytes (numbers_in table) (numbers_in inputs) n) start ≡ Ok n
run_is_lasso room n start table inputs e = is_lasso (ended room n start table inputs e)

-- The lasso's endless run is the endless run of the rules: at every moment the same phase and the same atoms.
pub unrolled : (room n start : ℕ) (table inputs : List ℕ) → run_of room table inputs ≡ closes_at n start →
    let T = numbers_in table in
    let I = numbers_in inputs in
    endless (trace_of (trace_bytes T I n) start) ≡ rules_run T I
unrolled room n start table inputs e = same_run (ended room n start table inputs e)

-- That run of the rules never stops: every move of it goes on.
pub goes_on : (room n start : ℕ) (table inputs : List ℕ) → run_of room table inputs ≡ closes_at n start →
    let T = numbers_in table in
    let I = numbers_in inputs in
    (m : ℕ) →
    (move_of T I (recorded_scan (scans_of I) (return_of I) (endless_state T I m).scan) (endless_state T I m)).stopped ≡ None
goes_on room n start table inputs e m = on_then (ended room n start table inputs e) m
