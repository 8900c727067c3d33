-- Rows changed a byte at a time: what an operation does to bytes it does to bits; two or four bytes written at once; and a row's bits counted.
-- Assumes nothing.
use Prim.Native.Nat.{ℕ, zero, suc, ◌+◌, ◌-◌, ◌*◌, ◌/◌, ◌%◌, ◌<◌, ◌≤◌}
use native.Mathlib.Omega.{arith}
use native.Mathlib.Nat.{suc-add}
use mathlib.Core.Path.{◌≡◌, refl, sym, ap, ◌∙◌}
use mathlib.Core.Bool.{Bool, true}
use mathlib.Core.List.{List, [], ◌∷◌, ◌++◌}
use lib.ListN.{length, get_or, set, take, drop, replicate, get_or-append, get_or-replicate}
use lib.Seq.{get_or-take, drop_at, length-take-le}
use borrow.Rule.Slice.PartMut.{put_mid}
use Rattle.std.proofs.Common.{sum_by}
use Rattle.std.proofs.lemmas.List.Sums.{sum_by-cons}
use Rattle.std.specs.Int.Count.{ones}
use Rattle.bits.specs.Bits.{bit_b, bit_at, count_b}
use Rattle.bits.proofs.Digits.{bit_low}
use Rattle.bits.proofs.Bytes.{at_drop, same_bits}
use Rattle.bits.proofs.Counts.{count_same, count_add, count_byte}

-- The first i bytes of s are what R says of those of s₀, and the others are those of s₀.
pub record Each (R : ℕ → ℕ → ℕ → Type 0) (s₀ : List ℕ) (i : ℕ) (s : List ℕ) : Type 0 where
  pub done : (k : ℕ) → k < i → R k (get_or s₀ k 0) (get_or s k 0)
  pub rest : (k : ℕ) → i ≤ k → get_or s k 0 ≡ get_or s₀ k 0

-- What holds of the digits of each byte holds of the bits of the row.
pub by_bits : (f : Bool → Bool → Bool) (s o t : List ℕ) (n : ℕ)
    → ((i : ℕ) → i < n → (k : ℕ) → k < 8 → bit_b (get_or t i 0) k ≡ f (bit_b (get_or s i 0) k) (bit_b (get_or o i 0) k))
    → (p : ℕ) → p < 8 * n → bit_at t p ≡ f (bit_at s p) (bit_at o p)
unfolding bit_at
by_bits f s o t n h p l = h (p / 8) (omega arith) (7 - p % 8) (omega arith)

-- ---- the first r bytes of w, or what is made of them

pub taken_is : (r : ℕ) (w : List ℕ) (p : ℕ) → p < 8 * r → bit_at (take r w) p ≡ bit_at w p
taken_is r w p l = same_bits (take r w) w p (get_or-take r w (p / 8) 0 (omega arith))

pub full_is : (r p : ℕ) → p < 8 * r → bit_at (replicate r 255) p ≡ true
unfolding bit_at
full_is r p l = rw (get_or-replicate {A = ℕ} r (p / 8) 255 0 (omega arith)) (bit_low 8 (7 - p % 8) (omega arith))

-- x with something behind it, and y in the middle.
pub front_is : (x s : List ℕ) (p : ℕ) → p < 8 * length x → bit_at (x ++ s) p ≡ bit_at x p
front_is x s p l = same_bits (x ++ s) x p (get_or-append x s 0 (p / 8) (omega arith))

pub back_is : (x s : List ℕ) (r : ℕ) → length x ≡ r → drop r (x ++ s) ≡ s
back_is x s r e = drop_at x s r e

pub middle_is : (x y s : List ℕ) (r : ℕ) → length x ≡ r → (p : ℕ) → p < 8 * length y → bit_at (drop r (x ++ (y ++ s))) p ≡ bit_at y p
middle_is x y s r e p l = rw (drop_at x (y ++ s) r e) (front_is y s p l)

module _ (r : ℕ) (w x : List ℕ) (fits : r ≤ length w) (size : length x ≡ length (take r w)) where
  pub front_by : (f : Bool → Bool → Bool) (o s : List ℕ)
      → ((i : ℕ) → i < length (take r w) → (k : ℕ) → k < 8 → bit_b (get_or x i 0) k ≡ f (bit_b (get_or (take r w) i 0) k) (bit_b (get_or o i 0) k))
      → (p : ℕ) → p < 8 * r → bit_at (x ++ s) p ≡ f (bit_at w p) (bit_at o p)
  front_by f o s h p l =
      let e = length-take-le r w fits in
      front_is x s p (omega arith) ∙ by_bits f (take r w) o x r (λ i m. h i (omega arith)) p l ∙ ap (λ b. f b (bit_at o p)) (taken_is r w p l)

-- Two or four bytes copied over those from i on are put there one by one.
pub put_two : (i : ℕ) (s : List ℕ) (a b : ℕ) → i + 2 ≤ length s → put_mid i 2 s (a ∷ b ∷ []) ≡ set (set s i a) (i + 1) b
put_two zero [] a b h = absurd (omega arith)
put_two zero (x ∷ []) a b h = absurd (omega arith)
put_two zero (x ∷ y ∷ s) a b h = refl
put_two (suc i) [] a b h = absurd (omega arith)
put_two (suc i) (x ∷ s) a b h = rw (suc-add i 1) (ap (λ (t : List ℕ). x ∷ t) (put_two i s a b (omega arith)))

pub put_four : (i : ℕ) (s : List ℕ) (a b c d : ℕ) → i + 4 ≤ length s → put_mid i 4 s (a ∷ b ∷ c ∷ d ∷ []) ≡ set (set (set (set s (i + 3) d) (i + 2) c) (i + 1) b) i a
put_four zero [] a b c d h = absurd (omega arith)
put_four zero (x ∷ []) a b c d h = absurd (omega arith)
put_four zero (x ∷ y ∷ []) a b c d h = absurd (omega arith)
put_four zero (x ∷ y ∷ z ∷ []) a b c d h = absurd (omega arith)
put_four zero (x ∷ y ∷ z ∷ u ∷ s) a b c d h = refl
put_four (suc i) [] a b c d h = absurd (omega arith)
put_four (suc i) (x ∷ s) a b c d h = rw (suc-add i 3, suc-add i 2, suc-add i 1) (ap (λ (t : List ℕ). x ∷ t) (put_four i s a b c d (omega arith)))

-- The ones of all bytes are the bits of the row.
count_none : (f : ℕ → Bool) → count_b f 0 ≡ 0
unfolding count_b
count_none f = refl

pub count_bytes : (s : List ℕ) → ((i : ℕ) → get_or s i 0 < 256) → sum_by (λ x. ones x) s ≡ count_b (bit_at s) (8 * length s)
count_bytes [] fit = sym (count_none (bit_at []))
count_bytes (x ∷ s) fit =
    let f = bit_at (x ∷ s) in
    let e : 8 * length (x ∷ s) ≡ 8 + 8 * length s = omega arith in
    let all : sum_by (λ y. ones y) (x ∷ s) ≡ ones x + sum_by (λ y. ones y) s = sum_by-cons (λ y. ones y) x s in
    let first : count_b f 8 ≡ count_b f 0 + ones x = count_byte (x ∷ s) 0 (fit 0) in
    let behind : count_b (λ k. f (8 + k)) (8 * length s) ≡ count_b (bit_at s) (8 * length s) = count_same _ _ (8 * length s) (λ k l. sym (at_drop 1 (x ∷ s) k)) in
    rw e (omega (arith, all, count_add f 8 (8 * length s), first, count_none f, behind, count_bytes s (λ i. fit (suc i))))
