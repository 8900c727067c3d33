-- Digits of a number: read by a shift, put, turned, joined by an operator, and taken apart.
-- Assumes nothing.
use Prim.Native.Nat.{ℕ, zero, suc, ◌+◌, ◌-◌, ◌*◌, ◌/◌, ◌%◌, ◌^◌, ◌<◌, ◌≤◌, min, max}
use mathlib.Core.Path.{◌≡◌, refl, ◌∙◌}
use mathlib.Core.Bool.{Bool, true, false, not, ◌&&◌, ◌||◌, and-true, and-false, or-true, or-false}
use mathlib.Core.Logic.{◌≢◌}
use native.Mathlib.Nat.{pow-suc, pow-succ', div-one, div-div-eq-div-mul, suc-add, add-zero, zero-add, mul-one, pow-le-pow_right}
use native.Mathlib.Omega.{arith}
use lib.Arith.{mod-mul}
use lib.Dec.{eqb, lit<}
use lib.Pow.{shl_exact, pow_pos}
use lib.Bits.{bit_and, bit_or, and_step, or_step, block_half, block_odd}
use borrow.Author.Tests.{eq-eqb, ne_eqb, eqb-true, eqb-false}
use Rattle.bits.specs.Bits.{bit_b, put_b, digit}

pub bit_suc : (x k : ℕ) → bit_b x (suc k) ≡ bit_b (x / 2) k
unfolding bit_b
bit_suc x k = refl

-- The digit by a shift.
pub bit_shr : (x k : ℕ) → bit_b x k ≡ eqb (x / 2 ^ k % 2) 1
unfolding bit_b
bit_shr x zero = rw div-one
bit_shr x (suc k) = bit_shr (x / 2) k ∙ rw (div-div-eq-div-mul x 2 (2 ^ k), ← pow-succ' 2 k)

pub digit_lt : (v : Bool) → digit v < 2
digit_lt true = omega arith
digit_lt false = omega arith

pub odd_digit : (x : ℕ) (v : Bool) → eqb ((x * 2 + digit v) % 2) 1 ≡ v
odd_digit x true = eq-eqb ((x * 2 + 1) % 2) 1 (omega arith)
odd_digit x false = ne_eqb ((x * 2 + 0) % 2) 1 (omega arith)

pub half : (x r : ℕ) → r < 2 → (x * 2 + r) / 2 ≡ x
half x r h = omega arith

-- ---- a digit put

-- An unset digit is set by adding, a set one unset by taking away.
pub put_up : (x k : ℕ) → bit_b x k ≡ false → x + 2 ^ k ≡ put_b x k true
unfolding bit_b put_b
put_up x zero h = omega (arith, eqb-false)
put_up x (suc k) h = omega (arith, pow-suc 2 k, put_up (x / 2) k h)

pub put_down : (x k : ℕ) → bit_b x k ≡ true → x ≡ put_b x k false + 2 ^ k
unfolding bit_b put_b
put_down x zero h = omega (arith, eqb-true)
put_down x (suc k) h = omega (arith, pow-suc 2 k, put_down (x / 2) k h)

pub put_same : (x k : ℕ) (v : Bool) → bit_b x k ≡ v → x ≡ put_b x k v
unfolding bit_b put_b
put_same x zero true h = omega (arith, eqb-true)
put_same x zero false h = omega (arith, eqb-false)
put_same x (suc k) v h = omega (arith, put_same (x / 2) k v h)

pub put_lt : (w x k : ℕ) (v : Bool) → x < 2 ^ w → k < w → put_b x k v < 2 ^ w
unfolding put_b
put_lt zero x k v hx hk = absurd (omega arith)
put_lt (suc w) x zero v hx hk = omega (arith, pow-suc 2 w, digit_lt v)
put_lt (suc w) x (suc k) v hx hk =
    let e = pow-suc 2 w in
    omega (arith, put_lt w (x / 2) k v (omega arith) (omega arith))

-- What was put is read, and the other digits are as they were.
pub bit_put : (x k : ℕ) (v : Bool) → bit_b (put_b x k v) k ≡ v
unfolding bit_b put_b
bit_put x zero v = odd_digit (x / 2) v
bit_put x (suc k) v = rw (half (put_b (x / 2) k v) (x % 2) (omega arith)) (bit_put (x / 2) k v)

pub bit_put_other : (x j k : ℕ) (v : Bool) → j ≢ k → bit_b (put_b x k v) j ≡ bit_b x j
unfolding bit_b put_b
bit_put_other x zero zero v h = absurd (h refl)
bit_put_other x (suc j) zero v h = rw (half (x / 2) (digit v) (digit_lt v))
bit_put_other x zero (suc k) v h =
    let e : (put_b (x / 2) k v * 2 + x % 2) % 2 ≡ x % 2 = omega arith in
    rw e
bit_put_other x (suc j) (suc k) v h =
    rw (half (put_b (x / 2) k v) (x % 2) (omega arith)) (bit_put_other (x / 2) j k v (omega arith))

-- ---- operators

-- All digits turned.
odd_not : (x y : ℕ) → x + y ≡ 1 → eqb y 1 ≡ not (eqb x 1)
odd_not zero y h = eq-eqb y 1 (omega arith)
odd_not (suc x) y h = rw (eq-eqb (suc x) 1 (omega arith)) (ne_eqb y 1 (omega arith))

pub bit_not : (w x k : ℕ) → x < 2 ^ w → k < w → bit_b (2 ^ w - 1 - x) k ≡ not (bit_b x k)
unfolding bit_b
bit_not zero x k hx hk = absurd (omega arith)
bit_not (suc w) x zero hx hk = let e = pow-suc 2 w in odd_not (x % 2) ((2 ^ suc w - 1 - x) % 2) (omega arith)
bit_not (suc w) x (suc k) hx hk =
    let e = pow-suc 2 w in
    let m : (2 ^ suc w - 1 - x) / 2 ≡ 2 ^ w - 1 - x / 2 = omega arith in
    rw m (bit_not w (x / 2) k (omega arith) (omega arith))

-- An operator that goes digit by digit: f on the lowest digits, and itself on the halves.
module _ (op f : ℕ → ℕ → ℕ) (step : (x y : ℕ) → op x y ≡ op (x / 2) (y / 2) * 2 + f (x % 2) (y % 2)) (small : (x y : ℕ) → x < 2 → y < 2 → f x y < 2) where
  pub op_half : (x y : ℕ) → op x y / 2 ≡ op (x / 2) (y / 2)
  op_half x y = omega (arith, step x y, small (x % 2) (y % 2) (omega arith) (omega arith))

  pub op_low : (x y : ℕ) → op x y % 2 ≡ f (x % 2) (y % 2)
  op_low x y = omega (arith, step x y, small (x % 2) (y % 2) (omega arith) (omega arith))

  module _ (g : Bool → Bool → Bool) (odd : (x y : ℕ) → x < 2 → y < 2 → eqb (f x y) 1 ≡ g (eqb x 1) (eqb y 1)) where
    bit_op : (x y k : ℕ) → bit_b (op x y) k ≡ g (bit_b x k) (bit_b y k)
    unfolding bit_b
    bit_op x y zero = rw (op_low x y) (odd (x % 2) (y % 2) (omega arith) (omega arith))
    bit_op x y (suc k) = rw (op_half x y) (bit_op (x / 2) (y / 2) k)

odd_and : (x y : ℕ) → x < 2 → y < 2 → eqb (min x y) 1 ≡ (eqb x 1 && eqb y 1)
odd_and zero y hx hy = ne_eqb (min 0 y) 1 (omega arith)
odd_and (suc x) y hx hy =
    let m : min (suc x) y ≡ y = omega arith in
    rw (m, eq-eqb (suc x) 1 (omega arith))

pub bit_and_lem : (x y k : ℕ) → bit_b (bit_and x y) k ≡ (bit_b x k && bit_b y k)
bit_and_lem = bit_op bit_and min and_step (λ x y hx hy. omega arith) ◌&&◌ odd_and

odd_or : (x y : ℕ) → x < 2 → y < 2 → eqb (max x y) 1 ≡ (eqb x 1 || eqb y 1)
odd_or zero y hx hy =
    let m : max 0 y ≡ y = omega arith in
    rw m
odd_or (suc x) y hx hy = rw (eq-eqb (suc x) 1 (omega arith)) (eq-eqb (max (suc x) y) 1 (omega arith))

pub max_lt : (x y : ℕ) → x < 2 → y < 2 → max x y < 2
max_lt x y hx hy = omega arith

pub bit_or_lem : (x y k : ℕ) → bit_b (bit_or x y) k ≡ (bit_b x k || bit_b y k)
bit_or_lem = bit_op bit_or max or_step max_lt ◌||◌ odd_or

-- ---- the k low digits

-- The mask of a digit of a byte.
pub mask_is : (k : ℕ) → k < 8 → 1 * 2 ^ k % 256 ≡ 2 ^ k
mask_is k h = shl_exact {a = 1} 1 k 8 (lit< tt) (omega arith) ∙ omega arith

low_half : (k : ℕ) → (2 ^ suc k - 1) / 2 ≡ 2 ^ k - 1
low_half k = omega (arith, pow-suc 2 k, pow_pos k)

pub bit_low : (k j : ℕ) → j < k → bit_b (2 ^ k - 1) j ≡ true
unfolding bit_b
bit_low zero j h = absurd (omega arith)
bit_low (suc k) zero h = let e = pow-suc 2 k in let q = pow_pos k in eq-eqb ((2 ^ suc k - 1) % 2) 1 (omega arith)
bit_low (suc k) (suc j) h = rw (low_half k) (bit_low k j (omega arith))

bit_none : (j : ℕ) → bit_b 0 j ≡ false
unfolding bit_b
bit_none zero = refl
bit_none (suc j) = bit_none j

bit_high : (k j : ℕ) → k ≤ j → bit_b (2 ^ k - 1) j ≡ false
unfolding bit_b
bit_high zero j h = bit_none j
bit_high (suc k) zero h = absurd (omega arith)
bit_high (suc k) (suc j) h = rw (low_half k) (bit_high k j (omega arith))

-- They are set in x, and the others left.
pub up_high : (x k j : ℕ) → k ≤ j → bit_b (bit_or x (2 ^ k - 1)) j ≡ bit_b x j
up_high x k j h = rw (bit_or_lem x (2 ^ k - 1) j, bit_high k j h) (or-false (bit_b x j))

pub up_low : (x k j : ℕ) → j < k → bit_b (bit_or x (2 ^ k - 1)) j ≡ true
up_low x k j h = rw (bit_or_lem x (2 ^ k - 1) j, bit_low k j h) (or-true (bit_b x j))

-- They are unset in x, and the others left.
module _ (x k j : ℕ) (hk : k < 8) (hj : j < 8) where
  turned : bit_b (bit_and x (255 - (2 ^ k - 1))) j ≡ (bit_b x j && not (bit_b (2 ^ k - 1) j))
  turned =
      let l : 2 ^ k - 1 < 256 = omega (arith, pow-le-pow_right {n = 2} (omega arith) {i = k} {j = 8} (omega arith)) in
      rw (bit_and_lem x (255 - (2 ^ k - 1)) j, bit_not 8 (2 ^ k - 1) j l hj)

  pub down_high : k ≤ j → bit_b (bit_and x (255 - (2 ^ k - 1))) j ≡ bit_b x j
  down_high h = rw (turned, bit_high k j h) (and-true (bit_b x j))

  pub down_low : j < k → bit_b (bit_and x (255 - (2 ^ k - 1))) j ≡ false
  down_low h = rw (turned, bit_low k j h) (and-false (bit_b x j))

-- ---- parts of a number

pub bit_mod : (w x j : ℕ) → j < w → bit_b (x % 2 ^ w) j ≡ bit_b x j
unfolding bit_b
bit_mod zero x j h = absurd (omega arith)
bit_mod (suc w) x zero h =
    let e : x % 2 ^ suc w % 2 ≡ x % 2 = rw (pow-suc 2 w) (omega (arith, mod-mul x {m = 2 ^ w} {c = 2} (pow_pos w) (lit< tt))) in
    rw e
bit_mod (suc w) x (suc j) h =
    let e : x % 2 ^ suc w / 2 ≡ x / 2 % 2 ^ w = rw (pow-suc 2 w) (omega (arith, mod-mul x {m = 2 ^ w} {c = 2} (pow_pos w) (lit< tt))) in
    rw e (bit_mod w (x / 2) j (omega arith))

pub bit_div : (x k j : ℕ) → bit_b (x / 2 ^ k) j ≡ bit_b x (k + j)
bit_div x zero j = rw (div-one x, zero-add j)
bit_div x (suc k) j = rw (suc-add k j, bit_suc x (k + j), pow-succ' 2 k, ← div-div-eq-div-mul x 2 (2 ^ k)) (bit_div (x / 2) k j)

-- Two numbers side by side.
pub join_low : (w a b j : ℕ) → j < w → bit_b (a * 2 ^ w + b) j ≡ bit_b b j
unfolding bit_b
join_low zero a b j h = absurd (omega arith)
join_low (suc w) a b zero h = rw (block_odd a w b)
join_low (suc w) a b (suc j) h = rw (bit_suc (a * 2 ^ suc w + b) j, block_half a w b) (join_low w a (b / 2) j (omega arith))

pub join_high : (w a b j : ℕ) → b < 2 ^ w → bit_b (a * 2 ^ w + b) (w + j) ≡ bit_b a j
join_high zero a b j h =
    let z : b ≡ 0 = omega arith in
    rw (z, mul-one a, add-zero a, zero-add j)
join_high (suc w) a b j h =
    let e = pow-suc 2 w in
    rw (suc-add w j, bit_suc (a * 2 ^ suc w + b) (w + j), block_half a w b) (join_high w a (b / 2) j (omega arith))

-- A number with w zeros behind it.
pub bit_shl : (x w j : ℕ) → bit_b (x * 2 ^ w) (w + j) ≡ bit_b x j
bit_shl x w j = rw add-zero at (join_high w x 0 j (pow_pos w))
