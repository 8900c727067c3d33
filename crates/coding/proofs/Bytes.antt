-- A number's bytes, by its size, and what straight-line stores of them leave.
-- Assumes nothing.
use Prim.Native.Nat.{ℕ, suc, ◌+◌, ◌/◌, ◌%◌, ◌≤◌, ◌<◌}
use native.Mathlib.Omega.{arith}
use native.Mathlib.Numerals.{add-one}
use mathlib.Core.Path.{◌≡◌, refl}
use mathlib.Core.List.{List, [], ◌∷◌, ◌++◌}
use lib.ListN.{length, set, take, drop}
use native.Mathlib.Nat.{add-zero, add-suc, suc-add}
use lib.Dec.{ltb, lit≤}
use mathlib.Core.Bool.{Bool, true, false}
use lib.Seq.{sets-eq, length-sets, set_out}
use borrow.Author.Tests.{lt-ltb, le-ltb}
use Rattle.coding.specs.Number.{bytes_of, pick}
use Rattle.coding.specs.Room.{over}

module _ (v : ℕ) where
  pub bytes₁ : v < 128 → bytes_of v ≡ v ∷ []
  unfolding bytes_of
  bytes₁ h = rw (lt-ltb _ _ h)

  pub bytes₂ : 128 ≤ v → v < 16384 → bytes_of v ≡ (v % 128 + 128) ∷ v / 128 ∷ []
  unfolding bytes_of
  bytes₂ g h = rw (le-ltb _ _ g, lt-ltb _ _ h)

  pub bytes₃ : 16384 ≤ v → bytes_of v ≡ (v % 128 + 128) ∷ (v / 128 % 128 + 128) ∷ v / 16384 ∷ []
  unfolding bytes_of
  bytes₃ g = let g₁ : 128 ≤ v = omega arith in rw (le-ltb _ _ g₁, le-ltb _ _ g)

-- stores from left to right are the bytes over the buffer
module _ (d : List ℕ) (at : ℕ) where
  pub store₁ : (a : ℕ) → set d at a ≡ over d at (a ∷ [])
  unfolding over
  store₁ a = refl

  pub over_cons : (a : ℕ) (bs : List ℕ) → over d at (a ∷ bs) ≡ over (set d at a) (at + 1) bs
  unfolding over
  over_cons a bs = rw (add-one at)

  pub over_nil : over d at [] ≡ d
  unfolding over
  over_nil = refl

  pub over_length : (bs : List ℕ) → length (over d at bs) ≡ length d
  unfolding over
  over_length bs = length-sets d at bs

  -- what the buffer then is, byte by byte
  pub over_eq : (bs : List ℕ) → at + length bs ≤ length d → over d at bs ≡ take at d ++ bs ++ drop (at + length bs) d
  unfolding over
  over_eq bs h = sets-eq bs d at h

pub over_append : (d : List ℕ) (i : ℕ) (p q : List ℕ) → over (over d i p) (i + length p) q ≡ over d i (p ++ q)
unfolding over
over_append d i [] q = rw (add-zero i)
over_append d i (a ∷ p) q = rw (add-suc i (length p), ← suc-add i (length p)) (over_append (set d i a) (suc i) p q)

-- nothing is stored past the end
pub over_full : (d : List ℕ) (i : ℕ) (bs : List ℕ) → length d ≤ i → over d i bs ≡ d
unfolding over
over_full d i [] h = refl
over_full d i (a ∷ bs) h = rw (set_out d i a h) (over_full d (suc i) bs (omega arith))

-- how many bytes a number takes
pick≥ : (b : Bool) (x y : List ℕ) (n : ℕ) → n ≤ length x → n ≤ length y → n ≤ length (pick b x y)
pick≥ true x y n p q = p
pick≥ false x y n p q = q

pub three_at_most : (v : ℕ) → length (bytes_of v) ≤ 3
unfolding bytes_of
three_at_most v = pick≤ (ltb v 128) _ _ (lit≤ tt) (pick≤ (ltb v 16384) _ _ (lit≤ tt) (lit≤ tt))
  where
    pick≤ : (b : Bool) (x y : List ℕ) → length x ≤ 3 → length y ≤ 3 → length (pick b x y) ≤ 3
    pick≤ true x y p q = p
    pick≤ false x y p q = q

pub one≤ : (v : ℕ) → 1 ≤ length (bytes_of v)
unfolding bytes_of
one≤ v = pick≥ (ltb v 128) _ _ 1 (lit≤ tt) (pick≥ (ltb v 16384) _ _ 1 (lit≤ tt) (lit≤ tt))
