-- What the run's own functions promise one another on the way: no part of a public promise.
-- Assumes nothing: these are definitions.
use Rattle.run.specs.declared.Stop.TheVariants.{Halted, Refused}
use Rattle.run.specs.Running.{Ran}
use Rattle.std.specs.Prelude.{ℕ, ◌-◌, ◌*◌, ◌≤◌, ◌≡◌, List, ◌++◌, length, replicate, take, Ok, Err}
use Rattle.coding.specs.Room.{over}
use Rattle.run.specs.Limits.{last_state}
use Rattle.run.specs.Trace.{trace_bytes}

-- What stands in the buffer before it is cleared: of a closed run its trace, within the limit.
abbrev pub Walked : Ran → List ℕ → List ℕ → List ℕ → List ℕ → Type 0
Walked (Ok closed) T I d e = (closed.positions ≤ last_state) × (e ≡ over d 0 (trace_bytes T I closed.positions))
Walked (Err (Halted cause scan process)) T I d e = length e ≡ length d
Walked (Err (Refused why)) T I d e = e ≡ d

-- A run within the limit.
abbrev pub Small : Ran → Type 0
Small (Ok closed) = closed.positions ≤ last_state
Small (Err (Halted cause scan process)) = 0 ≤ 0
Small (Err (Refused why)) = 0 ≤ 0

-- Zeros from a place on.
unfoldable pub cleared : ℕ → List ℕ → List ℕ
cleared at d = take at d ++ replicate (length d - at) 0

abbrev pub cleared_by : Ran → List ℕ → List ℕ
cleared_by (Ok closed) d = cleared (closed.positions * 5) d
cleared_by (Err (Halted cause scan process)) d = cleared 0 d
cleared_by (Err (Refused why)) d = d
