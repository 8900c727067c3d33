-- The program's input as it is made up. Document 01, The bench case: "three blocks (table, inputs, untranslated
-- requirement), each after its length as a number of the coding".
-- Assumes nothing: these are definitions.
use Rattle.std.specs.Prelude.{ℕ, ◌≤◌, ◌≡◌, List, ◌++◌, length, Ok, Err}
use Rattle.coding.specs.Number.{bytes_of}
use Rattle.report.specs.Framing.{longest_input, between, Framing}

-- A block behind its length.
unfoldable pub block_bytes : List ℕ → List ℕ
block_bytes b = bytes_of (length b) ++ b

unfoldable pub blocks_bytes : List ℕ → List ℕ → List ℕ → List ℕ
blocks_bytes table inputs requirement = block_bytes table ++ (block_bytes inputs ++ block_bytes requirement)

-- The bytes s are these three blocks, and no more than an input may have. (Each length is then below 65,536, so that
-- the coding has it.)
pub record MadeUp (s table inputs requirement : List ℕ) : Type 0 where
  pub bytes : s ≡ blocks_bytes table inputs requirement
  pub most : length s ≤ longest_input

-- The framing, if it names blocks, names these.
abbrev pub Names : List ℕ → Framing → List ℕ → List ℕ → List ℕ → Type 0
Names s (Ok blocks) table inputs requirement =
    (table ≡ between blocks.table.begin blocks.table.end s) × (inputs ≡ between blocks.inputs.begin blocks.inputs.end s) × (requirement ≡ between blocks.requirement.begin blocks.requirement.end s)
Names s (Err why) table inputs requirement = ⊥
