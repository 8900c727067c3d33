-- Until at all positions of a word at once, by the carries of a sum.
-- Assumes nothing.
use Prim.Native.Nat.{ℕ, zero, suc, ◌+◌, ◌/◌, ◌%◌, ◌^◌, ◌<◌, max}
use mathlib.Core.Path.{◌≡◌, refl, sym, ap, ◌∙◌}
use mathlib.Core.Bool.{Bool, true, false, ◌&&◌, ◌||◌}
use native.Mathlib.Nat.{pow-suc, pow-succ', div-div-eq-div-mul}
use native.Mathlib.Omega.{arith}
use lib.Dec.{eqb}
use lib.Bits.{bit_or, bit_xor, differ, or_step, xor_step, or_lt, xor_lt}
use Rattle.bits.specs.Bits.{bit_b, digit}
use Rattle.bits.specs.Rows.{ripple, until_b}
use Rattle.bits.proofs.Digits.{digit_lt, op_half, op_low, max_lt}

differ_lt : (x y : ℕ) → x < 2 → y < 2 → differ x y < 2
differ_lt zero y hx hy = hy
differ_lt (suc zero) zero hx hy = hx
differ_lt (suc zero) (suc zero) hx hy = omega arith
differ_lt (suc zero) (suc (suc y)) hx hy = absurd (omega arith)
differ_lt (suc (suc x)) y hx hy = absurd (omega arith)

xor_half : (x y : ℕ) → bit_xor x y / 2 ≡ bit_xor (x / 2) (y / 2)
xor_half = op_half bit_xor differ xor_step differ_lt

xor_low : (x y : ℕ) → bit_xor x y % 2 ≡ differ (x % 2) (y % 2)
xor_low = op_low bit_xor differ xor_step differ_lt

or_half : (x y : ℕ) → bit_or x y / 2 ≡ bit_or (x / 2) (y / 2)
or_half = op_half bit_or max or_step max_lt

or_low : (x y : ℕ) → bit_or x y % 2 ≡ max (x % 2) (y % 2)
or_low = op_low bit_or max or_step max_lt

-- The digits of ripple: what came in, and then the ripple of the halves.
odd : (p q c : ℕ) → p < 2 → q < 2 → c < 2 → differ (differ ((p + q + c) % 2) p) q ≡ c
odd zero zero zero hp hq hc = refl
odd zero zero (suc zero) hp hq hc = refl
odd zero (suc zero) zero hp hq hc = refl
odd zero (suc zero) (suc zero) hp hq hc = refl
odd (suc zero) zero zero hp hq hc = refl
odd (suc zero) zero (suc zero) hp hq hc = refl
odd (suc zero) (suc zero) zero hp hq hc = refl
odd (suc zero) (suc zero) (suc zero) hp hq hc = refl
odd (suc (suc p)) q c hp hq hc = absurd (omega arith)
odd zero (suc (suc q)) c hp hq hc = absurd (omega arith)
odd (suc zero) (suc (suc q)) c hp hq hc = absurd (omega arith)
odd zero zero (suc (suc c)) hp hq hc = absurd (omega arith)
odd zero (suc zero) (suc (suc c)) hp hq hc = absurd (omega arith)
odd (suc zero) zero (suc (suc c)) hp hq hc = absurd (omega arith)
odd (suc zero) (suc zero) (suc (suc c)) hp hq hc = absurd (omega arith)

ripple_low : (a b c : ℕ) → c < 2 → ripple a b c % 2 ≡ c
unfolding ripple
ripple_low a b c h =
    let e : (a + b + c) % 2 ≡ (a % 2 + b % 2 + c) % 2 = omega arith in
    rw (xor_low (bit_xor (a + b + c) a) b, xor_low (a + b + c) a, e) (odd (a % 2) (b % 2) c (omega arith) (omega arith) h)

ripple_half : (a b c : ℕ) → ripple a b c / 2 ≡ ripple (a / 2) (b / 2) ((a % 2 + b % 2 + c) / 2)
unfolding ripple
ripple_half a b c =
    let e : (a + b + c) / 2 ≡ a / 2 + b / 2 + (a % 2 + b % 2 + c) / 2 = omega arith in
    rw (xor_half (bit_xor (a + b + c) a) b, xor_half (a + b + c) a, e)

-- What comes out of one position.
next : (p q : ℕ) (v : Bool) → p < 2 → q < 2 → (max p q + q + digit v) / 2 ≡ digit (eqb q 1 || (eqb p 1 && v))
next zero zero true hp hq = refl
next zero zero false hp hq = refl
next zero (suc zero) true hp hq = refl
next zero (suc zero) false hp hq = refl
next (suc zero) zero true hp hq = refl
next (suc zero) zero false hp hq = refl
next (suc zero) (suc zero) true hp hq = refl
next (suc zero) (suc zero) false hp hq = refl
next (suc (suc p)) q v hp hq = absurd (omega arith)
next zero (suc (suc q)) v hp hq = absurd (omega arith)
next (suc zero) (suc (suc q)) v hp hq = absurd (omega arith)

abbrev out : ℕ → ℕ → Bool → Bool
out x y v = bit_b y 0 || (bit_b x 0 && v)

until_is : (x y : ℕ) (v : Bool) → until_b x y (digit v) ≡ ripple (bit_or (x / 2) (y / 2)) (y / 2) (digit (out x y v))
unfolding until_b bit_b
until_is x y v = rw (ripple_half (bit_or x y) y (digit v), or_half x y, or_low x y, next (x % 2) (y % 2) v (omega arith) (omega arith))

until_half : (x y : ℕ) (v : Bool) → until_b x y (digit v) / 2 ≡ until_b (x / 2) (y / 2) (digit (out x y v))
unfolding until_b
until_half x y v = ap (λ n. n / 2) (until_is x y v)

-- The lowest position takes what comes in, and each other one what the one below it has.
pub until_first : (x y : ℕ) (v : Bool) → bit_b (until_b x y (digit v)) 0 ≡ (bit_b y 0 || (bit_b x 0 && v))
unfolding bit_b
until_first x y v =
    rw (until_is x y v, ripple_low (bit_or (x / 2) (y / 2)) (y / 2) (digit (out x y v)) (digit_lt (out x y v)))
    (told (out x y v))
  where
    told : (b : Bool) → eqb (digit b) 1 ≡ b
    told true = refl
    told false = refl

pub until_next : (k x y : ℕ) (v : Bool) → bit_b (until_b x y (digit v)) (suc k) ≡ (bit_b y (suc k) || (bit_b x (suc k) && bit_b (until_b x y (digit v)) k))
unfolding bit_b
until_next zero x y v = rw (until_half x y v, until_first x y v) (until_first (x / 2) (y / 2) (out x y v))
until_next (suc k) x y v = rw (until_half x y v) (until_next k (x / 2) (y / 2) (out x y v))

-- What comes out at the top is the top position's.
sum_half : (x y : ℕ) (v : Bool) → (bit_or x y + y + digit v) / 2 ≡ bit_or (x / 2) (y / 2) + y / 2 + digit (out x y v)
unfolding bit_b
sum_half x y v =
    let e : (bit_or x y + y + digit v) / 2 ≡ bit_or x y / 2 + y / 2 + (bit_or x y % 2 + y % 2 + digit v) / 2 = omega arith in
    rw (e, or_half x y, or_low x y, next (x % 2) (y % 2) v (omega arith) (omega arith))

half_bit : (k x y : ℕ) (v : Bool) → bit_b (until_b x y (digit v)) (suc k) ≡ bit_b (until_b (x / 2) (y / 2) (digit (out x y v))) k
unfolding bit_b
half_bit k x y v = rw (until_half x y v)

pub until_out : (w x y : ℕ) (v : Bool) → x < 2 ^ suc w → y < 2 ^ suc w → (bit_or x y + y + digit v) / 2 ^ suc w ≡ digit (bit_b (until_b x y (digit v)) w)
until_out zero x y v hx hy =
    let p : x / 2 ≡ 0 = omega arith in
    let q : y / 2 ≡ 0 = omega arith in
    sum_half x y v ∙ rw (p, q, until_first x y v) (omega arith)
until_out (suc w) x y v hx hy =
    let h = pow-suc 2 (suc w) in
    rw (pow-succ' 2 (suc w), ← div-div-eq-div-mul (bit_or x y + y + digit v) 2 (2 ^ suc w), sum_half x y v, until_out w (x / 2) (y / 2) (out x y v) (omega arith) (omega arith))
    (ap digit (sym (half_bit w x y v)))

pub until_lt : (w x y c : ℕ) → c < 2 → x < 2 ^ w → y < 2 ^ w → until_b x y c < 2 ^ w
unfolding until_b ripple
until_lt w x y c hc hx hy =
    let e = pow-suc 2 w in
    let o = or_lt w x y hx hy in
    omega (arith, xor_lt (suc w) (bit_xor (bit_or x y + y + c) (bit_or x y)) y (xor_lt (suc w) (bit_or x y + y + c) (bit_or x y) (omega arith) (omega arith)) (omega arith))
