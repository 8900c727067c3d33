-- A block: some bytes behind their length, which is a number of the coding. A sheet's names and bodies are such, and
-- the three parts of the program's input.
-- Assumes nothing: these are definitions.
use Rattle.std.specs.Prelude.{ℕ, ◌+◌, List, length, leb, Ok, Err, Result}
use Rattle.coding.specs.declared.Span.{Span}
use Rattle.coding.specs.declared.Refusal.{Refusal}
use Rattle.coding.specs.declared.Cause.TheVariants.{CutShort}
use Rattle.coding.specs.Number.{pick, number_at}
use Rattle.coding.specs.Refusal.{NumberRead, refused_at}

-- What a block is read as: where its bytes begin and end, or why there is none and where.
abbrev pub BlockAt : Type 0
BlockAt = Result Span Refusal

abbrev pub span_from : ℕ → ℕ → BlockAt
span_from begin end = Ok (record { begin = begin; end = end })

-- "a text or block cut short at its length's first byte"
abbrev pub block_of : List ℕ → ℕ → NumberRead → BlockAt
block_of s at (Ok num) =
    pick (leb (num.next + num.value) (length s)) (span_from num.next (num.next + num.value)) (refused_at CutShort at)
block_of s at (Err why) = Err why

-- The block whose length stands at a place.
unfoldable pub block_at : List ℕ → ℕ → BlockAt
block_at s at = block_of s at (number_at s at)
