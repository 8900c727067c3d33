-- What input variables have. Document 01, Actions: "Read: inputs taken"; "A variable starts unset. .. Inputs are never
-- unset once read."
-- Assumes nothing: these are definitions. That it is so in every run is a theorem (proofs/Inputs.antt,
-- proofs/Unset.antt).
use Rattle.std.specs.Prelude.{ℕ, ◌-◌, ◌<◌, ◌≡◌, List}
use Rattle.requirement.specs.declared.Phase.{Phase}
use Rattle.requirement.specs.declared.Phase.TheVariants.{Input, Exe, Output}
use Rattle.lookups.specs.Places.{inputs_of, reading_of}
use Rattle.controller.specs.State.{none, value_at}

-- The input variables have what is recorded for them where so many scans are done.
pub record Holding (T I : List ℕ) (done : ℕ) (v : List ℕ) : Type 0 where
  pub values : (k : ℕ) → k < inputs_of T → value_at v k ≡ reading_of I (inputs_of T) done k

-- How many scans were done at the last read: as many as now, but just after a write one fewer. (At the start, before any
-- read, this has no meaning.)
abbrev pub last_read : Phase → ℕ → ℕ
last_read Output scans = scans - 1
last_read Input scans = scans
last_read Exe scans = scans

-- Every input variable has a value: a number of the coding, and not `none`, unset, which is above all of them.
abbrev pub InputsSet : List ℕ → List ℕ → Type 0
InputsSet T v = (k : ℕ) → k < inputs_of T → value_at v k < none
