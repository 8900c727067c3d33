-- Words of four bytes of a row.
-- Assumes nothing.
use Prim.Native.Nat.{ℕ, ◌+◌, ◌-◌, ◌*◌, ◌/◌, ◌%◌, ◌^◌, ◌<◌, ◌≤◌}
use mathlib.Core.Path.{◌≡◌, ap, ◌∙◌}
use mathlib.Core.Bool.{Bool}
use mathlib.Core.List.{List}
use native.Mathlib.Nat.{add_assoc, add-zero, div-one}
use native.Mathlib.Omega.{arith}
use native.Mathlib.Decide.{dec_lt}
use lib.ListN.{length, get_or, drop}
use lib.Seq.{get_or-drop}
use Rattle.bits.specs.Bits.{bit_b, bit_at}
use Rattle.bits.specs.Rows.{word_at, put_word}
use Rattle.bits.proofs.Digits.{bit_mod, bit_div, join_low, join_high}
use Rattle.bits.proofs.Walks.{Wide, wide_byte, Both, at_until, Down, down_byte}

-- Two numbers side by side, and a part of one.
wide_join : (u w : ℕ) (f : ℕ → Bool) (p q x y : ℕ) → y < 2 ^ w → q ≡ p + u → Wide u f p x → Wide w f q y → Wide (u + w) f p (x * 2 ^ w + y)
wide_join u w f p q x y hy eq hx hw = record { at = λ j h. go j h (dec_lt j w) }
  where
    go : (j : ℕ) → j < u + w → Dec (j < w) → bit_b (x * 2 ^ w + y) j ≡ f (p + (u + w - 1 - j))
    go j h (yes l) =
        let e : q + (w - 1 - j) ≡ p + (u + w - 1 - j) = omega arith in
        join_low w x y j l ∙ hw.at j l ∙ ap f e
    go j h (no l) =
        let m : j ≡ w + (j - w) = omega arith in
        let e : p + (u - 1 - (j - w)) ≡ p + (u + w - 1 - j) = omega arith in
        ap (bit_b (x * 2 ^ w + y)) m ∙ join_high w x y (j - w) hy ∙ hx.at (j - w) (omega arith) ∙ ap f e

wide_part : (w k u : ℕ) (f : ℕ → Bool) (p q x : ℕ) → k + w ≤ u → q ≡ p + (u - (k + w)) → Wide u f p x → Wide w f q (x / 2 ^ k % 2 ^ w)
wide_part w k u f p q x h eq hx = record { at = λ j l. bit_mod w (x / 2 ^ k) j l ∙ bit_div x k j ∙ hx.at (k + j) (omega arith) ∙ ap f (place j l) }
  where
    place : (j : ℕ) → j < w → p + (u - 1 - (k + j)) ≡ q + (w - 1 - j)
    place j l = omega arith

-- ---- a word read

module _ (s : List ℕ) (fit : (k : ℕ) → get_or s k 0 < 256) (i : ℕ) where
  word_lt : word_at s i < 2 ^ 32
  unfolding word_at
  word_lt = omega (arith, fit i, fit (i + 1), fit (i + 2), fit (i + 3))

  wide_word : Wide 32 (bit_at s) (8 * i) (word_at s i)
  unfolding word_at
  wide_word =
      let d = fit (i + 3) in
      let c = fit (i + 2) in
      let b = fit (i + 1) in
      wide_join 8 24 (bit_at s) (8 * i) (8 * (i + 1)) _ _ (omega arith) (omega arith) (wide_byte s i)
      (wide_join 8 16 (bit_at s) (8 * (i + 1)) (8 * (i + 2)) _ _ (omega arith) (omega arith) (wide_byte s (i + 1))
      (wide_join 8 8 (bit_at s) (8 * (i + 2)) (8 * (i + 3)) _ _ d (omega arith) (wide_byte s (i + 2)) (wide_byte s (i + 3))))

word_same : (s t : List ℕ) (i j : ℕ) → ((k : ℕ) → k < 4 → get_or s (i + k) 0 ≡ get_or t (j + k) 0) → word_at s i ≡ word_at t j
unfolding word_at
word_same s t i j h = rw (rw (add-zero i, add-zero j) at (h 0 (omega arith)), h 1 (omega arith), h 2 (omega arith), h 3 (omega arith))

word_drop : (a : ℕ) (s : List ℕ) (i : ℕ) → word_at (drop a s) i ≡ word_at s (a + i)
word_drop a s i = word_same (drop a s) s i (a + i) (λ k l. rw (get_or-drop a s (i + k) 0, add_assoc a i k))

-- ---- 32 positions of a walk over the rows of s₀

pub both_words : (s₀ : List ℕ) (row : ℕ) (fit : (k : ℕ) → get_or s₀ k 0 < 256) (i x y : ℕ) → x ≡ word_at s₀ i → y ≡ word_at s₀ (row + i) → Both s₀ row 32 i x y
both_words s₀ row fit i x y ex ey = record {
  first = rw ex (wide_word s₀ fit i);
  second = rw (ey, ← word_drop row s₀ i) (wide_word (drop row s₀) (λ k. rw (get_or-drop row s₀ k 0) (fit (row + k))) i);
  x_lt = rw ex (word_lt s₀ fit i);
  y_lt = rw ey (word_lt s₀ fit (row + i));
}

module _ {s₀ : List ℕ} {row : ℕ} {last : Bool} (i : ℕ) {k : ℕ} {s : List ℕ} (e : k ≡ i + 4) (hk : k ≤ row) (h : Down s₀ row last k s) where
  pub down_word : (r : ℕ) → row ≤ length s₀ → Wide 32 (at_until s₀ row last) (8 * i) r → Down s₀ row last i (put_word s i r)
  unfolding put_word
  down_word r hl hr =
      let z : r / 2 ^ 0 % 256 ≡ r % 256 = rw (div-one r) in
      let s₃ = down_byte (i + 3) (omega arith) hk h (r % 256) hl (rw z at (byte 0 (i + 3) (omega arith) (omega arith))) in
      let s₂ = down_byte (i + 2) (omega arith) (omega arith) s₃ _ hl (byte 8 (i + 2) (omega arith) (omega arith)) in
      let s₁ = down_byte (i + 1) (omega arith) (omega arith) s₂ _ hl (byte 16 (i + 1) (omega arith) (omega arith)) in
      down_byte i (omega arith) (omega arith) s₁ _ hl (byte 24 i (omega arith) (omega arith))
    where
      byte : (a q : ℕ) → a + 8 ≤ 32 → 8 * q ≡ 8 * i + (32 - (a + 8)) → Wide 8 (at_until s₀ row last) (8 * q) (r / 2 ^ a % 256)
      byte a q ha e = wide_part 8 a 32 (at_until s₀ row last) (8 * i) (8 * q) r ha e hr

  -- The words not yet walked are those of s₀.
  pub down_words : ((j : ℕ) → get_or s₀ j 0 < 256) → Both s₀ row 32 i (word_at s i) (word_at s (row + i))
  down_words fit =
      both_words s₀ row fit i _ _ (word_same s s₀ i i (λ j l. h.ahead (i + j) (omega arith))) (word_same s s₀ (row + i) (row + i) (λ j l. h.second (row + i + j) (omega arith)))
