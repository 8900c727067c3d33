-- Document 01, The bench case: "The program scancheck reads from standard input three blocks (table, inputs, untranslated requirement), each after its length as a number of
-- the coding. First, input over 60,000 bytes is refusal 1 at 60,000, then a faulty length, a block cut short or left-over bytes is refusal 1, placed in the whole input".
-- Assumes nothing: these are definitions.
use Rattle.coding.specs.Refusal.{refused_at}
use Rattle.std.specs.Prelude.{ℕ, ◌-◌, List, length, take, drop, ltb, Ok, Err, Result}
use Rattle.coding.specs.declared.Refusal.{Refusal}
use Rattle.coding.specs.Block.{BlockAt, block_at}
use Rattle.report.specs.declared.framing.Blocks.{Blocks}
use Rattle.coding.specs.Number.{pick}
use Rattle.coding.specs.declared.Cause.TheVariants.{CutShort, LeftOver}

-- Where the table, the inputs and the requirement begin and end, or what is wrong.
abbrev pub Framing : Type 0
Framing = Result Blocks Refusal

abbrev pub blocks_from : ℕ → ℕ → ℕ → ℕ → ℕ → ℕ → Framing
blocks_from a b c d e f =
    Ok (record { table = record { begin = a; end = b }; inputs = record { begin = c; end = d }; requirement = record { begin = e; end = f } })

abbrev pub longest_input : ℕ
longest_input = 60000

-- "left-over bytes at the first of them"
abbrev pub with_third : List ℕ → ℕ → ℕ → ℕ → ℕ → BlockAt → Framing
with_third s a b c d (Ok block) = pick (ltb block.end (length s)) (refused_at LeftOver block.end) (blocks_from a b c d block.begin block.end)
with_third s a b c d (Err why) = Err why

abbrev pub with_second : List ℕ → ℕ → ℕ → BlockAt → Framing
with_second s a b (Ok block) = with_third s a b block.begin block.end (block_at s block.end)
with_second s a b (Err why) = Err why

abbrev pub with_first : List ℕ → BlockAt → Framing
with_first s (Ok block) = with_second s block.begin block.end (block_at s block.end)
with_first s (Err why) = Err why

unfoldable pub framing_of : List ℕ → Framing
framing_of s = pick (ltb longest_input (length s)) (refused_at CutShort longest_input) (with_first s (block_at s 0))

-- The bytes from a place up to another.
unfoldable pub between : ℕ → ℕ → List ℕ → List ℕ
between a b s = take (b - a) (drop a s)
