-- Counts of positions, and of the set digits of a row's bytes.
-- Assumes nothing.
use Prim.Native.Nat.{ℕ, zero, suc, ◌+◌, ◌-◌, ◌*◌, ◌/◌, ◌%◌, ◌^◌, ◌<◌, ◌≤◌}
use mathlib.Core.Path.{◌≡◌, refl, sym, ap, ◌∙◌}
use mathlib.Core.Bool.{Bool}
use mathlib.Core.List.{List}
use native.Mathlib.Nat.{add-zero, add-suc, pow-suc, div-one}
use native.Mathlib.Omega.{arith}
use native.Mathlib.Decide.{ℕ_discrete}
use lib.Dec.{eqb}
use lib.ListN.{get_or}
use lib.Pow.{shr_lt}
use lib.Count.{ones, ones_step}
use borrow.Author.Tests.{eq-eqb, ne_eqb}
use Rattle.bits.specs.Bits.{bit_b, bit_at, digit, count_b}
use Rattle.bits.proofs.Digits.{bit_div}
use Rattle.bits.proofs.Bytes.{at_byte}

-- Equal tests have equal counts; a count in two parts.
pub count_same : (f g : ℕ → Bool) (n : ℕ) → ((k : ℕ) → k < n → f k ≡ g k) → count_b f n ≡ count_b g n
unfolding count_b
count_same f g zero h = refl
count_same f g (suc n) h = rw (count_same f g n (λ k i. h k (omega arith)), h n (omega arith))

pub count_add : (f : ℕ → Bool) (a n : ℕ) → count_b f (a + n) ≡ count_b f a + count_b (λ k. f (a + k)) n
unfolding count_b
count_add f a zero = rw (add-zero a) (omega arith)
count_add f a (suc n) = rw (add-suc a n) (omega (arith, count_add f a n))

count_first : (f : ℕ → Bool) (n : ℕ) → count_b f (suc n) ≡ digit (f 0) + count_b (λ k. f (suc k)) n
unfolding count_b
count_first f zero = omega arith
count_first f (suc n) = omega (arith, count_first f n)

-- The same from the other end.
count_turned : (f : ℕ → Bool) (n : ℕ) → count_b (λ k. f (n - 1 - k)) n ≡ count_b f n
unfolding count_b
count_turned f zero = refl
count_turned f (suc n) =
    let e : suc n - 1 - 0 ≡ n = omega arith in
    let t : count_b (λ k. f (suc n - 1 - suc k)) n ≡ count_b (λ k. f (n - 1 - k)) n = count_same _ _ n (λ k l. let m : suc n - 1 - suc k ≡ n - 1 - k = omega arith in rw m) in
    count_first (λ k. f (suc n - 1 - k)) n ∙ rw (e, t, count_turned f n) (omega arith)

-- The language's count of a number's digits is theirs.
digit_odd : (x : ℕ) → digit (eqb (x % 2) 1) ≡ x % 2
digit_odd x = go (ℕ_discrete (x % 2) 1)
  where
    go : Dec (x % 2 ≡ 1) → digit (eqb (x % 2) 1) ≡ x % 2
    go (yes e) = rw (eq-eqb (x % 2) 1 e) (sym e)
    go (no e) = rw (ne_eqb (x % 2) 1 e) (omega arith)

pub ones_count : (w x : ℕ) → x < 2 ^ w → ones x ≡ count_b (bit_b x) w
unfolding ones count_b bit_b
ones_count zero x h = let e : x ≡ 0 = omega arith in rw e
ones_count (suc w) x h =
    let p = pow-suc 2 w in
    ones_step x ∙ omega (arith, count_first (bit_b x) w, digit_odd x, ones_count w (x / 2) (omega arith))

-- The first c positions of byte i are its c highest digits.
pub count_part : (s : List ℕ) (i c : ℕ) → c ≤ 8 → get_or s i 0 < 256 → count_b (bit_at s) (8 * i + c) ≡ count_b (bit_at s) (8 * i) + ones (get_or s i 0 / 2 ^ (8 - c))
count_part s i c hc h =
    let x = get_or s i 0 in
    let b = 8 - c in
    let e : c + b ≡ 8 = omega arith in
    let l : x < 2 ^ (c + b) = rw e h in
    count_add (bit_at s) (8 * i) c
    ∙ ap (λ (m : ℕ). count_b (bit_at s) (8 * i) + m)
    (count_same (λ k. bit_at s (8 * i + k)) (λ k. bit_b (x / 2 ^ b) (c - 1 - k)) c
    (λ k a. let m : 8 - c + (c - 1 - k) ≡ 7 - k = omega arith in rw (at_byte s i k (omega arith), bit_div x b (c - 1 - k), m))
    ∙ count_turned (bit_b (x / 2 ^ b)) c ∙ sym (ones_count c (x / 2 ^ b) (shr_lt c b l)))

-- A whole byte more.
pub count_byte : (s : List ℕ) (i : ℕ) → get_or s i 0 < 256 → count_b (bit_at s) (8 * (i + 1)) ≡ count_b (bit_at s) (8 * i) + ones (get_or s i 0)
count_byte s i h =
    let e : 8 * (i + 1) ≡ 8 * i + 8 = omega arith in
    rw e (count_part s i 8 (omega arith) h ∙ rw (div-one (get_or s i 0)))
