-- The framing accepts just the inputs that are made up of three blocks behind their lengths, and gives these blocks
-- back.
-- Assumes nothing.
use Prim.Native.Nat.{ℕ, ◌+◌, ◌-◌, ◌≤◌, ◌<◌}
use native.Mathlib.Omega.{arith}
use mathlib.Core.Path.{◌≡◌, refl, sym, ◌∙◌, ap}
use mathlib.Core.Logic.{◌↔◌}
use mathlib.Core.Bool.{Bool, true, false}
use mathlib.Core.List.{List, [], ◌++◌, append_assoc, append-nil}
use lib.ListN.{length, get_or, take, drop, length-append, length-drop, take-append-drop, drop_of_length-le}
use lib.Seq.{drop-append_seam, take-append_seam, drop-drop, get_or-drop, length-take-le}
use lib.Dec.{ltb, leb}
use borrow.Author.Tests.{ltb-false, leb-true}
use Rattle.coding.specs.Refusal.{value_then, refused_at}
use Rattle.std.specs.Prelude.{Ok, Err}
use Rattle.coding.specs.Number.{pick, bytes_of, first, Begin, number, none, placed, number_at}
use Rattle.coding.specs.declared.Cause.TheVariants.{CutShort, LeftOver}
use Rattle.coding.proofs.Trip.{read_written, written_read, Begins}
use Rattle.coding.proofs.Blocks.{block_whole}
use Rattle.report.proofs.Splitting.{all_blocks, by_third, by_second, short_input}
use Rattle.report.specs.Framing.{longest_input, with_third, with_second, with_first, framing_of, between, Framing, blocks_from}
use Rattle.coding.specs.Block.{block_of, block_at, BlockAt, span_from}
use Rattle.report.specs.MadeUp.{block_bytes, blocks_bytes, MadeUp, Names}

-- ---- a block that was put there is found, and is what is cut out
-- How many bytes the length of a block takes.
abbrev size_of : List ℕ → ℕ
size_of b = length (bytes_of (length b))

block_length : (b : List ℕ) → length (block_bytes b) ≡ size_of b + length b
unfolding block_bytes
block_length b = length-append (bytes_of (length b)) b

module _ (s front b behind : List ℕ) (at : ℕ) (e : s ≡ front ++ (block_bytes b ++ behind))
    (place : at ≡ length front) where
  from_block : drop at s ≡ bytes_of (length b) ++ (b ++ behind)
  unfolding block_bytes
  from_block =
      rw (e, place, drop-append_seam front (block_bytes b ++ behind)) (append_assoc (bytes_of (length b)) b behind)

  behind_length : drop (at + size_of b) s ≡ b ++ behind
  behind_length = sym (drop-drop (size_of b) at s) ∙ rw from_block (drop-append_seam (bytes_of (length b)) (b ++ behind))

  room_left : length b ≤ length s - (at + size_of b)
  room_left = omega (arith, sym (length-drop (at + size_of b) s) ∙ ap length behind_length ∙ length-append b behind)

  length_there : length b < 65536 → value_then (length b) (at + size_of b) ≡ number_at s at
  unfolding number_at
  length_there small = rw (from_block, read_written (length b) (b ++ behind) small)

  block_found : length b < 65536 → span_from (at + size_of b) (at + length (block_bytes b)) ≡ block_at s at
  block_found small =
      let sum : at + length (block_bytes b) ≡ at + size_of b + length b = omega (arith, block_length b) in
      rw sum (block_whole s at (length b) (at + size_of b) (length_there small) room_left)

  block_cut : between (at + size_of b) (at + length (block_bytes b)) s ≡ b
  unfolding between
  block_cut =
      let size : at + length (block_bytes b) - (at + size_of b) ≡ length b = omega (arith, block_length b) in
      rw (size, behind_length) (take-append_seam b behind)

-- ---- what is made up of three blocks is framed as these
module _ (s table inputs requirement : List ℕ) (m : MadeUp s table inputs requirement) where
  abbrev second : ℕ
  second = 0 + length (block_bytes table)

  abbrev third : ℕ
  third = second + length (block_bytes inputs)

  abbrev whole : ℕ
  whole = third + length (block_bytes requirement)

  first_there : s ≡ [] ++ (block_bytes table ++ (block_bytes inputs ++ block_bytes requirement))
  unfolding blocks_bytes
  first_there = m.bytes

  second_there : s ≡ block_bytes table ++ (block_bytes inputs ++ block_bytes requirement)
  unfolding blocks_bytes
  second_there = m.bytes

  third_there : s ≡ (block_bytes table ++ block_bytes inputs) ++ (block_bytes requirement ++ [])
  unfolding blocks_bytes
  third_there =
      m.bytes ∙ rw (append-nil (block_bytes requirement))
      (sym (append_assoc (block_bytes table) (block_bytes inputs) (block_bytes requirement)))

  third_place : third ≡ length (block_bytes table ++ block_bytes inputs)
  third_place = omega (arith, length-append (block_bytes table) (block_bytes inputs))

  all_there : length s ≡ whole
  all_there =
      let behind = length-append (block_bytes inputs) (block_bytes requirement) in
      ap length second_there
      ∙ omega (arith, length-append (block_bytes table) (block_bytes inputs ++ block_bytes requirement), behind)

  small : (length table < 65536) × (length inputs < 65536) × (length requirement < 65536)
  small = omega (arith, m.most, all_there, block_length table, block_length inputs, block_length requirement)

  made_up_framed :
      blocks_from (0 + size_of table) second (second + size_of inputs) third (third + size_of requirement) whole ≡ framing_of s
  made_up_framed =
      by_second s (0 + size_of table) second _
      (block_found s [] table (block_bytes inputs ++ block_bytes requirement) 0 first_there refl small.0)
      (by_third s (0 + size_of table) second (block_at s second) (second + size_of inputs) third _
      (block_found s (block_bytes table) inputs (block_bytes requirement) second second_there (omega arith) small.1)
      (all_blocks s (0 + size_of table) second (second + size_of inputs) third (block_at s third)
      (third + size_of requirement) whole
      (block_found s (block_bytes table ++ block_bytes inputs) requirement [] third third_there third_place small.2)
      (omega (arith, all_there))))
      ∙ short_input s m.most

  pub made_up_named : Names s (framing_of s) table inputs requirement
  made_up_named =
      rw (← made_up_framed) (
        sym (block_cut s [] table (block_bytes inputs ++ block_bytes requirement) 0 first_there refl),
        sym (block_cut s (block_bytes table) inputs (block_bytes requirement) second second_there (omega arith)),
        sym (block_cut s (block_bytes table ++ block_bytes inputs) requirement [] third third_there third_place),
      )

-- ---- and what is framed is made up of the blocks that are named
-- A block that is found at a place is cut out of what stands there, with its length in front and the rest behind.
abbrev Taking : List ℕ → ℕ → BlockAt → Type 0
Taking s at (Ok block) = drop at s ≡ block_bytes (between block.begin block.end s) ++ drop block.end s
Taking s at (Err why) = Unit {0}

abbrev MadeUpOf : List ℕ → Framing → Type 0
MadeUpOf s (Ok blocks) = MadeUp s (between blocks.table.begin blocks.table.end s) (between blocks.inputs.begin blocks.inputs.end s) (between blocks.requirement.begin blocks.requirement.end s)
MadeUpOf s (Err why) = Unit {0}

whole_cut : (n : ℕ) (x : List ℕ) → n ≤ length x → bytes_of n ++ x ≡ block_bytes (take n x) ++ drop n x
unfolding block_bytes
whole_cut n x h =
    rw (length-take-le n x h)
    (sym (append_assoc (bytes_of n) (take n x) (drop n x) ∙ ap (λ (y : List ℕ). bytes_of n ++ y) (take-append-drop n x)))

blocks_joined : {s rest last : List ℕ} (x y z : List ℕ) → s ≡ block_bytes x ++ rest → rest ≡ block_bytes y ++ last →
    last ≡ block_bytes z → s ≡ blocks_bytes x y z
unfolding blocks_bytes
blocks_joined x y z p q r = p ∙ rw (q, r)

module _ (s : List ℕ) (bytes : (i : ℕ) → get_or s i 0 < 256) where
  cut_whole : (at n k : ℕ) → n ≤ length s - (at + k) → drop at s ≡ bytes_of n ++ drop k (drop at s) →
      drop at s ≡ block_bytes (between (at + k) (at + k + n) s) ++ drop (at + k + n) s
  unfolding between
  cut_whole at n k room e =
      let size : at + k + n - (at + k) ≡ n = omega arith in
      let inside : n ≤ length (drop (at + k) s) = rw (length-drop (at + k) s) room in
      rw (size, ← drop-drop n (at + k) s)
      (e ∙ rw (drop-drop k at s) (whole_cut n (drop (at + k) s) inside))

  taking : (at : ℕ) → Taking s at (block_at s at)
  unfolding block_at number_at
  taking at = go (first (drop at s)) (written_read (drop at s) (λ i. rw get_or-drop (bytes (at + i))))
    where
      sized : (n k : ℕ) (t : Bool) → leb (at + k + n) (length s) ≡ t → drop at s ≡ bytes_of n ++ drop k (drop at s) →
          Taking s at (pick t (span_from (at + k) (at + k + n)) (refused_at CutShort at))
      sized n k true f e = cut_whole at n k (let h = leb-true _ _ f in omega arith) e
      sized n k false f e = tt

      go : (x : Begin) → Begins (drop at s) x → Taking s at (block_of s at (placed at x))
      go (number n k) h = sized n k (leb (at + k + n) (length s)) refl h.1
      go (none cause) h = tt

  module _ (most : length s ≤ 60000) where
    third_made_up : (a b c d : ℕ) → drop 0 s ≡ block_bytes (between a b s) ++ drop b s →
        drop b s ≡ block_bytes (between c d s) ++ drop d s → (x : BlockAt) → Taking s d x →
        MadeUpOf s (with_third s a b c d x)
    third_made_up a b c d p q (Err why) r = tt
    third_made_up a b c d p q (Ok block) r = go (ltb block.end (length s)) refl
      where
        go : (t : Bool) → ltb block.end (length s) ≡ t → MadeUpOf s (pick t (refused_at LeftOver block.end) (blocks_from a b c d block.begin block.end))
        go true g = tt
        go false g =
            let none : drop block.end s ≡ [] = drop_of_length-le s (ltb-false _ _ g) in
            let last : drop d s ≡ block_bytes (between block.begin block.end s) = r ∙ rw none (append-nil (block_bytes (between block.begin block.end s))) in
            record { bytes = blocks_joined (between a b s) (between c d s) (between block.begin block.end s) p q last; most = most }

    second_made_up : (a b : ℕ) → drop 0 s ≡ block_bytes (between a b s) ++ drop b s → (x : BlockAt) → Taking s b x →
        MadeUpOf s (with_second s a b x)
    second_made_up a b p (Err why) r = tt
    second_made_up a b p (Ok block) r = third_made_up a b block.begin block.end p r (block_at s block.end) (taking block.end)

    first_made_up : (x : BlockAt) → Taking s 0 x → MadeUpOf s (with_first s x)
    first_made_up (Err why) r = tt
    first_made_up (Ok block) r = second_made_up block.begin block.end r (block_at s block.end) (taking block.end)

  framed_made_up : MadeUpOf s (framing_of s)
  unfolding framing_of
  framed_made_up = go (ltb longest_input (length s)) refl
    where
      go : (t : Bool) → ltb longest_input (length s) ≡ t →
          MadeUpOf s (pick t (refused_at CutShort longest_input) (with_first s (block_at s 0)))
      go true e = tt
      go false e = first_made_up (ltb-false _ _ e) (block_at s 0) (taking 0)

  pub named_made_up : (table inputs requirement : List ℕ) → Names s (framing_of s) table inputs requirement →
      MadeUp s table inputs requirement
  named_made_up table inputs requirement h = go (framing_of s) framed_made_up h
    where
      go : (w : Framing) → MadeUpOf s w → Names s w table inputs requirement → MadeUp s table inputs requirement
      go (Err why) m n = absurd n
      go (Ok blocks) m n = rw (n.0, n.1, n.2) m

-- The framing accepts an input, and names these blocks, exactly if it is made up of them.
pub accepts_made_up : (s table inputs requirement : List ℕ) → ((i : ℕ) → get_or s i 0 < 256) →
    Names s (framing_of s) table inputs requirement ↔ MadeUp s table inputs requirement
accepts_made_up s table inputs requirement bytes =
    (named_made_up s bytes table inputs requirement, made_up_named s table inputs requirement)

-- An input is made up of three blocks in one way only.
pub one_triple : (s table inputs requirement table' inputs' requirement' : List ℕ) → MadeUp s table inputs requirement →
    MadeUp s table' inputs' requirement' → (table ≡ table') × (inputs ≡ inputs') × (requirement ≡ requirement')
one_triple s table inputs requirement table' inputs' requirement' m m' =
    go (framing_of s) (made_up_named s table inputs requirement m) (made_up_named s table' inputs' requirement' m')
  where
    go : (w : Framing) → Names s w table inputs requirement → Names s w table' inputs' requirement' →
        (table ≡ table') × (inputs ≡ inputs') × (requirement ≡ requirement')
    go (Err why) h k = absurd h
    go (Ok blocks) h k = (h.0 ∙ sym k.0, h.1 ∙ sym k.1, h.2 ∙ sym k.2)
