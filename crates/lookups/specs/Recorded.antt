-- An inputs record as it is made up, and its numbers. Document 01, Coding:
-- "Inputs: scans q (1 to 1,365), return scan b (below q), then one number per input variable per scan."
-- Assumes nothing: these are definitions.
use Rattle.std.specs.Prelude.{ℕ, ◌≡◌, List, [], ◌∷◌, length}
use Rattle.lookups.specs.Structure.{in_order}

-- What is read in each scan, a list for each; and the scan to whose end the last one returns (0: to the start).
pub record Inputs : Type 0 where
  pub readings : List (List ℕ)
  pub return : ℕ

-- "scans q .., return scan b .., then one number per input variable per scan": scan by scan, and within a scan
-- variable by variable.
unfoldable pub input_numbers : Inputs → List ℕ
input_numbers r = length r.readings ∷ r.return ∷ in_order (λ (scan : List ℕ). scan) r.readings

-- "one number per input variable": in each scan so many.
unfoldable pub EachHas : ℕ → List (List ℕ) → Type 0
EachHas inputs [] = Unit
EachHas inputs (scan ∷ scans) = (length scan ≡ inputs) × EachHas inputs scans
