-- A row shifted by one position.
-- Assumes nothing.
use Prim.Native.Nat.{ℕ, suc, ◌+◌, ◌-◌, ◌*◌, ◌/◌, ◌%◌, ◌^◌, ◌<◌}
use mathlib.Core.Path.{◌≡◌, ◌∙◌}
use mathlib.Core.Bool.{Bool}
use mathlib.Core.List.{List}
use native.Mathlib.Omega.{arith}
use native.Mathlib.Decide.{ℕ_discrete}
use lib.ListN.{length, get_or, set}
use borrow.Author.Tests.{lt-ltb, le-ltb}
use Rattle.bits.specs.Bits.{bit_b, bit_at, put_b}
use Rattle.bits.specs.Rows.{Packs, after_of, row_of}
use Rattle.bits.proofs.Digits.{bit_suc, bit_shr, bit_mod, half, bit_put, bit_put_other}
use Rattle.bits.proofs.Bytes.{at_byte, set_byte, Made}

-- Seven digits of x move up, and the highest of y comes in.
shift_low : (x y : ℕ) → y < 256 → bit_b (x % 128 * 2 + y / 128) 0 ≡ bit_b y 7
shift_low x y h =
    let e : (x % 128 * 2 + y / 128) / 2 ^ 0 % 2 ≡ y / 2 ^ 7 % 2 = omega arith in
    rw (bit_shr y 7, bit_shr (x % 128 * 2 + y / 128) 0, e)

shift_up : (x y j : ℕ) → y < 256 → j < 7 → bit_b (x % 128 * 2 + y / 128) (suc j) ≡ bit_b x j
shift_up x y j hy h = rw (bit_suc (x % 128 * 2 + y / 128) j, half (x % 128) (y / 128) (omega arith)) (bit_mod 7 x j h)

pub packs_next : (s₀ : List ℕ) (i x y : ℕ) → y < 256 → x ≡ get_or s₀ i 0 → y ≡ get_or s₀ (i + 1) 0 → Packs (λ p. bit_at s₀ (suc p)) (8 * i) 8 (x % 128 * 2 + y / 128)
unfolding Packs
packs_next s₀ i x y hy ex ey q l = go (ℕ_discrete q 7)
  where
    go : Dec (q ≡ 7) → bit_b (x % 128 * 2 + y / 128) (7 - q) ≡ bit_at s₀ (suc (8 * i + q))
    go (yes e) =
        let m : suc (8 * i + 7) ≡ 8 * (i + 1) + 0 = omega arith in
        rw (e, m, at_byte s₀ (i + 1) 0 (omega arith), shift_low x y hy, ey)
    go (no n) =
        let m : suc (8 * i + q) ≡ 8 * i + suc q = omega arith in
        let d : 7 - q ≡ suc (7 - suc q) = omega arith in
        rw (m, d, at_byte s₀ i (suc q) (omega arith), shift_up x y (7 - suc q) hy (omega arith), ex)

-- The last byte: what follows the last of n positions is the one at l.
module _ (s₀ s : List ℕ) (n l i k x : ℕ) (v : Bool) (hl : l < n) (hi : i < length s₀) (ei : i ≡ row_of n - 1) (ek : k ≡ 8 * row_of n - n) (ex : x ≡ get_or s₀ i 0) (ev : v ≡ bit_at s₀ l)
    (h : Made (λ p. bit_at s₀ (suc p)) s₀ i s) where
  z : ℕ
  z = put_b (x % 128 * 2 + 0 / 128) k v

  at_end : (p : ℕ) → suc p ≡ n → bit_b z (7 - p % 8) ≡ bit_at s₀ (after_of n l p)
  unfolding z
  at_end p e =
      let m : 7 - p % 8 ≡ k = omega arith in
      rw (m, bit_put (x % 128 * 2 + 0 / 128) k v, le-ltb (suc p) n (omega arith)) ev

  before_end : (p : ℕ) → suc p < n → p / 8 ≡ i → bit_b z (7 - p % 8) ≡ bit_at s₀ (after_of n l p)
  unfolding z
  before_end p a d =
      let m : 7 - p % 8 ≡ suc (6 - p % 8) = omega arith in
      let j : 7 - (p % 8 + 1) ≡ 6 - p % 8 = omega arith in
      let q : suc p ≡ 8 * i + (p % 8 + 1) = omega arith in
      rw (lt-ltb (suc p) n a, q, at_byte s₀ i (p % 8 + 1) (omega arith), j, m)
      (bit_put_other (x % 128 * 2 + 0 / 128) (suc (6 - p % 8)) k v (omega arith) ∙ shift_up x 0 (6 - p % 8) (omega arith) (omega arith) ∙ rw ex)

  pub next_last : (p : ℕ) → p < n → bit_at (set s i (put_b (x % 128 * 2 + 0 / 128) k v)) p ≡ bit_at s₀ (after_of n l p)
  unfolding z
  next_last p a = set_byte s i z p _ (omega (arith, h.size)) (here (ℕ_discrete (suc p) n)) there
    where
      here : Dec (suc p ≡ n) → p / 8 ≡ i → bit_b z (7 - p % 8) ≡ bit_at s₀ (after_of n l p)
      here (yes e) d = at_end p e
      here (no e) d = before_end p (omega arith) d

      there : (p / 8 ≡ i → ⊥) → bit_at s p ≡ bit_at s₀ (after_of n l p)
      there e = rw (lt-ltb (suc p) n (omega arith)) (h.done p (omega arith))
