-- What the definition of a block says on each way through the code, and that a block lies inside the code.
-- Assumes nothing.
use Prim.Native.Nat.{ℕ, ◌+◌, ◌-◌, ◌≤◌, ◌<◌}
use native.Mathlib.Omega.{arith}
use mathlib.Core.Path.{◌≡◌}
use mathlib.Core.List.{List}
use lib.ListN.{length}
use borrow.Author.Tests.{le-leb, lt-leb}
use Rattle.coding.specs.Block.{block_of, block_at, span_from}
use Rattle.coding.specs.Number.{number_at}
use Rattle.coding.specs.Refusal.{value_then, refused_at}
use Rattle.coding.specs.Working.Rows.{next_row}
use Rattle.coding.specs.declared.Cause.{Cause}
use Rattle.coding.specs.declared.Cause.TheVariants.{CutShort}

module _ (s : List ℕ) (at : ℕ) where
  pub no_block : (cause : Cause) (place : ℕ) → refused_at cause place ≡ number_at s at →
      refused_at cause place ≡ block_at s at
  unfolding block_at
  no_block cause place q = rw (← q)

  module _ (n begin : ℕ) (q : value_then n begin ≡ number_at s at) where
    pub begins_inside : begin ≤ length s
    begins_inside = (next_row s at n begin q).2

    pub block_by_number : block_at s at ≡ block_of s at (value_then n begin)
    unfolding block_at
    block_by_number = rw (← q)

    pub block_cut : length s - begin < n → refused_at CutShort at ≡ block_at s at
    block_cut l = let b = begins_inside in rw (block_by_number, lt-leb (begin + n) (length s) (omega arith))

    pub block_whole : n ≤ length s - begin → span_from begin (begin + n) ≡ block_at s at
    block_whole l = let b = begins_inside in rw (block_by_number, le-leb (begin + n) (length s) (omega arith))

pub ruleset blocks = (block_cut, block_whole)
