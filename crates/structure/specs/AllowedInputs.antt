-- Which inputs records are allowed, said of a record as it is made up. Document 01, Coding:
-- "Inputs: scans q (1 to 1,365), return scan b (below q), then one number per input variable per scan."
-- That a number is "0 to 65,535" is said by the coding, and not again here.
-- Assumes nothing: these are definitions.
use Rattle.std.specs.Prelude.{ℕ, ◌≤◌, ◌<◌, length}
use Rattle.ranges.specs.Limits.{most_variables, most_scans}
use Rattle.lookups.specs.Recorded.{Inputs, EachHas}
use Rattle.structure.specs.Allowed.{OneOf}

-- An inputs record that is allowed where so many input variables are told.
pub record InputsAllowed (inputs : ℕ) (r : Inputs) : Type 0 where
  -- "Inputs take the input count along; above 32 is refusal 2"
  pub told : inputs ≤ most_variables
  -- "scans q (1 to 1,365)"
  pub scans : OneOf (length r.readings) most_scans
  -- "return scan b (below q)"
  pub return : r.return < length r.readings
  -- "one number per input variable per scan"
  pub readings : EachHas inputs r.readings
