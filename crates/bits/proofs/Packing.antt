-- Positions packed into a byte, one digit after the other.
-- Assumes nothing.
use Prim.Native.Nat.{ℕ, zero, suc, ◌+◌, ◌-◌, ◌*◌, ◌/◌, ◌%◌, ◌^◌, ◌<◌, ◌≤◌}
use mathlib.Core.Path.{◌≡◌, refl, sym, ◌∙◌}
use mathlib.Core.Bool.{Bool}
use native.Mathlib.Nat.{pow-suc, add-mul, mul_right_comm, mul_assoc, mul-div_cancel, zero-mul}
use native.Mathlib.Omega.{arith}
use native.Mathlib.Numerals.{add-one}
use lib.Pow.{pow_pos, shl_lt, pow_mono, shl_exact}
use lib.Dec.{eqb}
use lib.Bits.{bit_and, and_step, and_zero_r}
use Rattle.bits.specs.Bits.{bit_b, digit}
use Rattle.bits.specs.Rows.{Packs}
use Rattle.bits.proofs.Digits.{bit_shl, odd_digit, half, digit_lt}

-- The number whose digits are f at c positions from p on, the first of them the highest.
unfoldable pub packed : (ℕ → Bool) → ℕ → ℕ → ℕ
packed f p zero = 0
packed f p (suc c) = packed f p c * 2 + digit (f (p + c))

packed_lt : (f : ℕ → Bool) (p c : ℕ) → packed f p c < 2 ^ c
unfolding packed
packed_lt f p zero = omega arith
packed_lt f p (suc c) = omega (arith, pow-suc 2 c, packed_lt f p c, digit_lt (f (p + c)))

packed_bit : (f : ℕ → Bool) (p c j : ℕ) → j < c → bit_b (packed f p c) j ≡ f (p + (c - 1 - j))
unfolding packed bit_b
packed_bit f p zero j h = absurd (omega arith)
packed_bit f p (suc c) zero h =
    let m : suc c - 1 - 0 ≡ c = omega arith in
    rw m (odd_digit (packed f p c) (f (p + c)))
packed_bit f p (suc c) (suc j) h =
    let m : suc c - 1 - suc j ≡ c - 1 - j = omega arith in
    rw (m, half (packed f p c) (digit (f (p + c))) (digit_lt (f (p + c)))) (packed_bit f p c j (omega arith))

-- Moved to the highest digits of a byte.
packs : (f : ℕ → Bool) (p c : ℕ) → c ≤ 8 → Packs f p c (packed f p c * 2 ^ (8 - c))
unfolding Packs
packs f p c hc q hq =
    let m : 7 - q ≡ 8 - c + (c - 1 - q) = omega arith in
    let n : c - 1 - (c - 1 - q) ≡ q = omega arith in
    rw (m, bit_shl (packed f p c) (8 - c) (c - 1 - q), packed_bit f p c (c - 1 - q) (omega arith), n)

pub placed_lt : (x c : ℕ) → c ≤ 8 → x < 2 ^ c → x * 2 ^ (8 - c) < 256
placed_lt x c h l =
    let e : c + (8 - c) ≡ 8 = omega arith in
    rw e at (shl_lt c (8 - c) l)

pub placed_is : (x c : ℕ) → c ≤ 8 → x < 2 ^ c → x * 2 ^ (8 - c) % 2 ^ 32 ≡ x * 2 ^ (8 - c)
placed_is x c h l = shl_exact c (8 - c) 32 l (omega arith)

-- ---- the loop: what is packed of the first j positions, with k zeros behind it

pub record Packing (f : ℕ → Bool) (p k j acc : ℕ) : Type 0 where
  pub is : acc ≡ packed f p j * 2 ^ k
  pub small : acc < 32768

packing_is : (f : ℕ → Bool) (p k j acc : ℕ) → k < 8 → j ≤ 8 → acc ≡ packed f p j * 2 ^ k → Packing f p k j acc
packing_is f p k j acc hk hj e = record { is = e; small = omega (arith, shl_lt j k (packed_lt f p j), pow_mono {i = j + k} {j = 15} (omega arith)) }

pub packing_none : (f : ℕ → Bool) (p k : ℕ) → Packing f p k 0 0
unfolding packed
packing_none f p k = record { is = sym (zero-mul (2 ^ k)); small = omega arith }

module _ {f : ℕ → Bool} {p k j acc : ℕ} (h : Packing f p k j acc) where
  packing_next : (v : Bool) → k < 8 → j < 8 → v ≡ f (p + j) → Packing f p k (j + 1) (acc * 2 + digit v * 2 ^ k)
  unfolding packed
  packing_next v hk hj hv =
      packing_is f p k (j + 1) _ hk (omega arith)
      (rw (add-one j, h.is, hv, add-mul (packed f p j * 2) (digit (f (p + j))) (2 ^ k), mul_right_comm (packed f p j) 2 (2 ^ k)))

  packing_all : acc / 2 ^ k ≡ packed f p j
  packing_all = rw h.is (mul-div_cancel (packed f p j) (pow_pos k))

  pub packing_lt : acc / 2 ^ k < 2 ^ j
  packing_lt = rw packing_all (packed_lt f p j)

  pub packing_done : j ≤ 8 → Packs f p j (acc / 2 ^ k * 2 ^ (8 - j))
  packing_done l = rw packing_all (packs f p j l)

-- A digit taken by its mask stays in its place.
bit_digit : (r : ℕ) → r < 2 → r ≡ digit (eqb r 1)
bit_digit zero h = refl
bit_digit (suc zero) h = refl
bit_digit (suc (suc r)) h = absurd (omega arith)

mask_bit : (x k : ℕ) → bit_and x (2 ^ k) ≡ digit (bit_b x k) * 2 ^ k
unfolding bit_b
mask_bit x zero = omega (arith, and_step x 1, and_zero_r (x / 2), bit_digit (x % 2) (omega arith))
mask_bit x (suc k) =
    let e = pow-suc 2 k in
    let m : 2 ^ suc k / 2 ≡ 2 ^ k = omega arith in
    let s : bit_and x (2 ^ suc k) ≡ bit_and (x / 2) (2 ^ suc k / 2) * 2 = omega (arith, and_step x (2 ^ suc k)) in
    s ∙ rw (m, mask_bit (x / 2) k, e) (omega (arith, mul_assoc (digit (bit_b (x / 2) k)) (2 ^ k) 2))

pub packing_masked : {f : ℕ → Bool} {p k j acc : ℕ} → Packing f p k j acc → (x : ℕ) → k < 8 → j < 8 → bit_b x k ≡ f (p + j) → Packing f p k (j + 1) (acc * 2 + bit_and x (2 ^ k))
packing_masked {f} {p} {k} h x hk hj hx = rw (mask_bit x k) (packing_next h (bit_b x k) hk hj hx)
