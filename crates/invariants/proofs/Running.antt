-- The recorded run and the endless run are runs of the rules.
-- Assumes nothing.
use Prim.Native.Nat.{ℕ}
use mathlib.Core.Path.{refl}
use mathlib.Core.List.{List}
use Rattle.lookups.specs.Places.{scans_of, return_of}
use Rattle.endless.specs.Recorded.{state_at}
use Rattle.endless.specs.Unrolled.{recorded_scan, endless_state}
use Rattle.invariants.specs.Runs.{RunOf}

pub recorded_is_run : (T I : List ℕ) → RunOf T I (λ done. done) (state_at T I)
unfolding state_at
recorded_is_run T I = record { first = refl; next = λ n. refl }

pub endless_is_run : (T I : List ℕ) → RunOf T I (recorded_scan (scans_of I) (return_of I)) (endless_state T I)
unfolding endless_state
endless_is_run T I = record { first = refl; next = λ n. refl }
