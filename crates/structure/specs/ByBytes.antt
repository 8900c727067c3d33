-- A table and an inputs record as their bytes. Document 01, Coding: "A number is 0 to 65,535", and "The writer takes a
-- requirement, table or inputs as 16-bit numbers in this order and writes their bytes; the reader does the reverse."
-- The theorems of proofs/ByBytes.antt are stated with these; no promise of a function cites them.
-- Assumes nothing: these are definitions.
use Rattle.std.specs.Prelude.{ℕ, ◌<◌, ◌≡◌, List, get_or}
use Rattle.coding.specs.Code.{bytes_of_all}
use Rattle.lookups.specs.Structure.{numbers_of}
use Rattle.lookups.specs.Recorded.{input_numbers}
use Rattle.structure.specs.Allowed.{Allowed}
use Rattle.structure.specs.AllowedInputs.{InputsAllowed}

-- "A number is 0 to 65,535": each of these numbers is one of the coding. (Past the last of them 0 is looked at.)
abbrev pub OfCoding : List ℕ → Type 0
OfCoding xs = (i : ℕ) → get_or xs i 0 < 65536

-- The bytes s are those of something that is allowed and whose numbers, in their order, are all of the coding.
pub record Encodes {A : Type 0} (numbers : A → List ℕ) (IsAllowed : A → Type 0) (s : List ℕ) : Type 0 where
  pub thing : A
  pub allowed : IsAllowed thing
  pub of_coding : OfCoding (numbers thing)
  pub bytes : s ≡ bytes_of_all (numbers thing)

-- The bytes s are those of a table of at most `most` processes that is allowed.
abbrev pub IsTable : ℕ → List ℕ → Type 0
IsTable most s = Encodes numbers_of (Allowed most) s

-- They are those of an inputs record that is allowed where so many input variables are told.
abbrev pub IsInputs : ℕ → List ℕ → Type 0
IsInputs inputs s = Encodes input_numbers (InputsAllowed inputs) s
