-- The ways through the framing of an input, and that the blocks it names lie inside the input.
-- Assumes nothing.
use Prim.Native.Nat.{ℕ, ◌+◌, ◌≤◌, ◌<◌}
use native.Mathlib.Omega.{arith}
use mathlib.Core.Path.{◌≡◌, refl}
use mathlib.Core.List.{List}
use mathlib.Core.Bool.{Bool, true, false}
use lib.ListN.{length}
use lib.Dec.{ltb, leb}
use borrow.Author.Tests.{lt-ltb, le-ltb, leb-true}
use Rattle.coding.specs.Refusal.{NumberRead, refused_at}
use Rattle.std.specs.Prelude.{Ok, Err}
use Rattle.coding.specs.Number.{pick, number_at}
use Rattle.coding.specs.declared.Cause.TheVariants.{CutShort, LeftOver}
use Rattle.report.specs.Framing.{with_third, with_second, with_first, framing_of, Framing, blocks_from}
use Rattle.coding.specs.Block.{block_of, block_at, BlockAt, span_from}

-- ---- the ways through the three blocks
module _ (s : List ℕ) (a b c d : ℕ) where
  module _ (x : BlockAt) (e f : ℕ) (found : span_from e f ≡ x) where
    pub all_blocks : length s ≤ f → blocks_from a b c d e f ≡ with_third s a b c d x
    all_blocks h = rw (← found, le-ltb _ _ h)

module _ (s : List ℕ) (a b : ℕ) (x : BlockAt) where
  pub by_third : (c d : ℕ) (r : Framing) → span_from c d ≡ x → r ≡ with_third s a b c d (block_at s d) → r ≡ with_second s a b x
  by_third c d r e h = rw (← e) h

module _ (s : List ℕ) where
  pub long_input : 60000 < length s → refused_at CutShort 60000 ≡ framing_of s
  unfolding framing_of
  long_input h = rw (lt-ltb _ _ h)

  pub short_input : length s ≤ 60000 → with_first s (block_at s 0) ≡ framing_of s
  unfolding framing_of
  short_input h = rw (le-ltb _ _ h)

  pub by_second : (a b : ℕ) (r : Framing) → span_from a b ≡ block_at s 0 → r ≡ with_second s a b (block_at s b) → r ≡ with_first s (block_at s 0)
  by_second a b r e g = rw (← e) g

-- ---- what is named lies inside
abbrev Inside : List ℕ → BlockAt → Type 0
Inside s (Ok block) = (block.begin ≤ block.end) × (block.end ≤ length s)
Inside s (Err why) = Unit {0}

abbrev pub AllInside : List ℕ → Framing → Type 0
AllInside s (Ok blocks) = ((blocks.table.begin ≤ blocks.table.end) × (blocks.table.end ≤ length s)) × ((blocks.inputs.begin ≤ blocks.inputs.end) × (blocks.inputs.end ≤ length s)) × ((blocks.requirement.begin ≤ blocks.requirement.end) × (blocks.requirement.end ≤ length s))
AllInside s (Err why) = Unit {0}

module _ (s : List ℕ) where
  inside : (at : ℕ) → Inside s (block_at s at)
  unfolding block_at
  inside at = go (number_at s at)
    where
      sized : (n next : ℕ) (t : Bool) → leb (next + n) (length s) ≡ t →
          Inside s (pick t (span_from next (next + n)) (refused_at CutShort at))
      sized n next true e = (omega arith, leb-true _ _ e)
      sized n next false e = tt

      go : (x : NumberRead) → Inside s (block_of s at x)
      go (Ok num) = sized num.value num.next (leb (num.next + num.value) (length s)) refl
      go (Err why) = tt

  third_inside : (a b c d : ℕ) → (a ≤ b) × (b ≤ length s) → (c ≤ d) × (d ≤ length s) → (x : BlockAt) → Inside s x → AllInside s (with_third s a b c d x)
  third_inside a b c d p q (Err why) r = tt
  third_inside a b c d p q (Ok block) r = go (ltb block.end (length s))
    where
      go : (t : Bool) → AllInside s (pick t (refused_at LeftOver block.end) (blocks_from a b c d block.begin block.end))
      go true = tt
      go false = (p, q, r)

  second_inside : (a b : ℕ) → (a ≤ b) × (b ≤ length s) → (x : BlockAt) → Inside s x → AllInside s (with_second s a b x)
  second_inside a b p (Err why) r = tt
  second_inside a b p (Ok block) r = third_inside a b block.begin block.end p r (block_at s block.end) (inside block.end)

  first_inside : (x : BlockAt) → Inside s x → AllInside s (with_first s x)
  first_inside (Err why) r = tt
  first_inside (Ok block) r = second_inside block.begin block.end r (block_at s block.end) (inside block.end)

  all_inside : AllInside s (framing_of s)
  unfolding framing_of
  all_inside = go (ltb 60000 (length s))
    where
      go : (t : Bool) → AllInside s (pick t (refused_at CutShort 60000) (with_first s (block_at s 0)))
      go true = tt
      go false = first_inside (block_at s 0) (inside 0)

  pub blocks_inside : (a b c d e f : ℕ) → blocks_from a b c d e f ≡ framing_of s → AllInside s (blocks_from a b c d e f)
  blocks_inside a b c d e f h = rw (← h) at all_inside
