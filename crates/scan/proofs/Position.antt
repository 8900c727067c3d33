-- The bytes of a position: how many they are, that eight atoms fit in one, and that its bytes put one after the other are all of them over the trace.
-- Assumes nothing.
use Prim.Native.Nat.{ℕ, zero, suc, ◌+◌, ◌-◌, ◌*◌, ◌^◌, ◌<◌, ◌≤◌}
use mathlib.Core.Path.{◌≡◌, refl, sym, ap}
use mathlib.Core.Bool.{Bool}
use mathlib.Core.List.{List, [], ◌∷◌}
use native.Mathlib.Nat.{pow-suc, add-suc}
use native.Mathlib.Omega.{arith}
use native.Mathlib.Numerals.{add-one}
use lib.ListN.{length, get_or, set, drop, drop_of_length-le}
use lib.Seq.{drop-cons}
use lib.Pow.{pow_mono}
use Rattle.coding.specs.Room.{over}
use Rattle.requirement.specs.declared.Phase.{Phase}
use Rattle.controller.specs.declared.Controller.{Controller}
use Rattle.bits.specs.Bits.{digit}
use Rattle.bits.proofs.Digits.{digit_lt}
use Rattle.scan.specs.Position.{packed, atom_bytes, state_bytes}

pub bytes_length : (T : List ℕ) (phase : Phase) (c : Controller) → length (state_bytes T phase c) ≡ 5
unfolding state_bytes atom_bytes
bytes_length T phase c = refl

pub packed_small : (n : ℕ) (f : ℕ → Bool) (i : ℕ) → packed n f i < 2 ^ n
unfolding packed
packed_small zero f i = omega arith
packed_small (suc n) f i = omega (arith, pow-suc 2 n, packed_small n f (i + 1), digit_lt (f i))

module _ (f : ℕ → Bool) (from left : ℕ) where
  -- before the last of eight truths is packed there is room for one more
  pub packed_room : (byte : ℕ) → byte ≡ packed (8 - left) f (from + left) → 0 < left → byte < 128
  packed_room byte e h = omega (arith, packed_small (8 - left) f (from + left), pow_mono {i = 8 - left} {j = 7} (omega arith))

  pub packed_next : 0 < left → left ≤ 8 →
      packed (8 - left) f (from + left) * 2 + digit (f (from + (left - 1))) ≡ packed (8 - (left - 1)) f (from + (left - 1))
  unfolding packed
  packed_next h k =
      let n : 8 - (left - 1) ≡ suc (8 - left) = omega arith in
      let i : from + left ≡ from + (left - 1) + 1 = omega arith in
      rw (n, i) (omega arith)

pub one_digit : (b : Bool) (x : ℕ) → x ≡ digit b → x < 2
one_digit b x e = rw e (digit_lt b)

-- a list of four is its elements
pub four : (l : List ℕ) → length l ≡ 4 → l ≡ get_or l 0 0 ∷ get_or l 1 0 ∷ get_or l 2 0 ∷ get_or l 3 0 ∷ []
four [] e = absurd (omega arith)
four (a ∷ []) e = absurd (omega arith)
four (a ∷ b ∷ []) e = absurd (omega arith)
four (a ∷ b ∷ c ∷ []) e = absurd (omega arith)
four (a ∷ b ∷ c ∷ d ∷ []) e = refl
four (a ∷ b ∷ c ∷ d ∷ x ∷ l) e = absurd (omega arith)

pub position_over : (atoms d : List ℕ) (at n : ℕ) → length atoms ≡ 4 →
    over d at (n ∷ get_or atoms 0 0 ∷ get_or atoms 1 0 ∷ get_or atoms 2 0 ∷ get_or atoms 3 0 ∷ []) ≡ over d at (n ∷ atoms)
position_over atoms d at n e = ap (λ (l : List ℕ). over d at (n ∷ l)) (sym (four atoms e))

-- bytes put one after the other: one more, and none left
pub byte_over : (d xs : List ℕ) (at k : ℕ) → k < length xs →
    over (set d (at + k) (get_or xs k 0)) (at + (k + 1)) (drop (k + 1) xs) ≡ over d (at + k) (drop k xs)
unfolding over
byte_over d xs at k h = rw (drop-cons xs k 0 h, add-one k, add-suc at k) refl

pub all_over : (d xs : List ℕ) (at k : ℕ) → length xs ≤ k → over d at (drop k xs) ≡ d
unfolding over
all_over d xs at k h = rw (drop_of_length-le xs h) refl
