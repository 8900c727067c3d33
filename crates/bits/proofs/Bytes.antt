-- A row's bits by its bytes; parts of a row; rows made byte by byte; two rows padded.
-- Assumes nothing.
use Prim.Native.Nat.{ℕ, ◌+◌, ◌-◌, ◌*◌, ◌/◌, ◌%◌, ◌^◌, ◌<◌, ◌≤◌}
use mathlib.Core.Path.{◌≡◌, refl, sym, ap, ◌∙◌}
use mathlib.Core.Bool.{Bool, false}
use mathlib.Core.List.{List}
use mathlib.Core.Logic.{◌≢◌}
use native.Mathlib.Omega.{arith}
use native.Mathlib.Decide.{ℕ_discrete}
use lib.ListN.{length, get_or, set, take, drop, length-set, length-drop, get_or-append}
use lib.Seq.{get_or-set_same, get_or-set_other, get_or-take, get_or-drop, ext_get_or, drop_at, length-take-le}
use lib.Bits.{bit_and, bit_or}
use borrow.Rule.Slice.PartMut.{put_mid}
use Rattle.bits.specs.Bits.{bit_b, bit_at}
use Rattle.bits.specs.Rows.{row_of, Padded, Packs}
use Rattle.bits.proofs.Digits.{up_high, up_low, down_high, down_low}

-- Position 8 * i + q is digit 7 - q of byte i.
pub at_byte : (s : List ℕ) (i q : ℕ) → q < 8 → bit_at s (8 * i + q) ≡ bit_b (get_or s i 0) (7 - q)
unfolding bit_at
at_byte s i q h =
    let d : (8 * i + q) / 8 ≡ i = omega arith in
    let m : (8 * i + q) % 8 ≡ q = omega arith in
    rw (d, m)

pub packs_byte : (s : List ℕ) (i c : ℕ) → c ≤ 8 → Packs (bit_at s) (8 * i) c (get_or s i 0)
unfolding Packs
packs_byte s i c h q l = sym (at_byte s i q (omega arith))

-- The bits from byte a on.
pub at_drop : (a : ℕ) (s : List ℕ) (p : ℕ) → bit_at (drop a s) p ≡ bit_at s (8 * a + p)
unfolding bit_at
at_drop a s p =
    let d : (8 * a + p) / 8 ≡ a + p / 8 = omega arith in
    let m : (8 * a + p) % 8 ≡ p % 8 = omega arith in
    rw (d, m, get_or-drop a s (p / 8) 0)

-- Rows with the same bytes have the same bits.
pub same_bits : (s t : List ℕ) (p : ℕ) → get_or s (p / 8) 0 ≡ get_or t (p / 8) 0 → bit_at s p ≡ bit_at t p
unfolding bit_at
same_bits s t p e = rw e

-- ---- a part lent, and put back as ys

module _ (a k : ℕ) (xs ys : List ℕ) (ha : a ≤ length xs) (p : ℕ) where
  pub part_before : p < 8 * a → bit_at (put_mid a k xs ys) p ≡ bit_at xs p
  part_before h =
      let l : p / 8 < length (take a xs) = rw (length-take-le a xs ha) (omega arith) in
      same_bits (put_mid a k xs ys) xs p (get_or-append (take a xs) _ 0 (p / 8) l ∙ get_or-take a xs (p / 8) 0 (omega arith))

  pub part_is : p < 8 * length ys → bit_at (drop a (put_mid a k xs ys)) p ≡ bit_at ys p
  part_is h = rw (drop_at (take a xs) _ a (length-take-le a xs ha)) (same_bits _ ys p (get_or-append ys _ 0 (p / 8) (omega arith)))

-- ---- one byte of a row made

set_in : (s : List ℕ) (i y p : ℕ) → i < length s → p / 8 ≡ i → bit_at (set s i y) p ≡ bit_b y (7 - p % 8)
unfolding bit_at
set_in s i y p hi e = rw (e, get_or-set_same s i y 0 hi)

set_out : (s : List ℕ) (i y p : ℕ) → p / 8 ≢ i → bit_at (set s i y) p ≡ bit_at s p
set_out s i y p n = same_bits (set s i y) s p (get_or-set_other s i (p / 8) y 0 n)

-- A bit is what it should be if it is so in that byte and was so elsewhere.
pub set_byte : (s : List ℕ) (i y p : ℕ) (v : Bool) → i < length s → (p / 8 ≡ i → bit_b y (7 - p % 8) ≡ v) → (p / 8 ≢ i → bit_at s p ≡ v) → bit_at (set s i y) p ≡ v
set_byte s i y p v hi hy hs = go (ℕ_discrete (p / 8) i)
  where
    go : Dec (p / 8 ≡ i) → bit_at (set s i y) p ≡ v
    go (yes e) = set_in s i y p hi e ∙ hy e
    go (no n) = set_out s i y p n ∙ hs n

-- ---- a row made from its first byte on

-- The first i bytes of s hold f, and the others are those of s₀.
pub record Made (f : ℕ → Bool) (s₀ : List ℕ) (i : ℕ) (s : List ℕ) : Type 0 where
  pub size : length s ≡ length s₀
  pub done : (p : ℕ) → p < 8 * i → bit_at s p ≡ f p
  pub rest : (k : ℕ) → i ≤ k → get_or s k 0 ≡ get_or s₀ k 0

module _ {f : ℕ → Bool} {s₀ s : List ℕ} {i : ℕ} (y : ℕ) (hi : i < length s₀) where
  -- Some positions of one byte more, and all of them.
  pub made_part : (c : ℕ) → c ≤ 8 → Packs f (8 * i) c y → Made f s₀ i s → (p : ℕ) → p < 8 * i + c → bit_at (set s i y) p ≡ f p
  unfolding Packs
  made_part c hc hy h p l = set_byte s i y p (f p) (omega (arith, h.size)) (λ e. here e) (λ n. h.done p (omega arith))
    where
      here : p / 8 ≡ i → bit_b y (7 - p % 8) ≡ f p
      here e =
          let m : 8 * i + p % 8 ≡ p = omega arith in
          hy (p % 8) (omega arith) ∙ ap f m

  pub made_more : Packs f (8 * i) 8 y → Made f s₀ i s → Made f s₀ (i + 1) (set s i y)
  made_more hy h = record {
    size = simp length-set h.size;
    done = λ p l. made_part 8 (omega arith) hy h p (omega arith);
    rest = λ k l. get_or-set_other s i k y 0 (omega arith) ∙ h.rest k (omega arith);
  }

-- The rest by itself.
pub made_rest : {f : ℕ → Bool} {s₀ s : List ℕ} {i : ℕ} → Made f s₀ i s → drop i s ≡ drop i s₀
made_rest {f} {s₀} {s} {i} h =
    ext_get_or 0 (drop i s) (drop i s₀) (simp length-drop (omega (arith, h.size))) (λ k l. rw (get_or-drop i s k 0, get_or-drop i s₀ k 0) (h.rest (i + k) (omega arith)))

-- ---- the last byte of each of two rows, padded

module _ (n row i j k : ℕ) (s : List ℕ) (hn : 0 < n) (hr : row ≡ row_of n) (hs : row + row ≤ length s) (ei : i ≡ row - 1) (ej : j ≡ row + i) (ek : k ≡ 8 * row - n) where
  X : ℕ
  X = bit_or (get_or s i 0) (2 ^ k - 1)

  Y : ℕ
  Y = bit_and (get_or s j 0) (255 - (2 ^ k - 1))

  in_first : (p : ℕ) → p < 8 * row → bit_at (set (set s i X) j Y) p ≡ bit_at (set s i X) p
  in_first p h = set_out (set s i X) j Y p (omega arith)

  at_first : (p : ℕ) → p < n → bit_at (set s i X) p ≡ bit_at s p
  unfolding X bit_at
  at_first p h = set_byte s i X p _ (omega arith) (λ e. up_high (get_or s i 0) k (7 - p % 8) (omega arith) ∙ rw e) (λ e. refl)

  at_second : (p : ℕ) → p < n → bit_at (set (set s i X) j Y) (8 * row + p) ≡ bit_at s (8 * row + p)
  unfolding Y bit_at
  at_second p h =
      let l : j < length (set s i X) = simp length-set (omega arith) in
      set_byte (set s i X) j Y (8 * row + p) _ l
      (λ d. down_high (get_or s j 0) k (7 - (8 * row + p) % 8) (omega arith) (omega arith) (omega arith) ∙ rw d)
      (λ e. set_out s i X (8 * row + p) (omega arith))

  at_behind : (p : ℕ) → n ≤ p → p < 8 * row → bit_at (set (set s i X) j Y) (8 * row + p) ≡ false
  unfolding Y
  at_behind p h h' =
      let l : j < length (set s i X) = simp length-set (omega arith) in
      set_in (set s i X) j Y (8 * row + p) l (omega arith) ∙ down_low (get_or s j 0) k (7 - (8 * row + p) % 8) (omega arith) (omega arith) (omega arith)

  pub padded : Padded n row s (set (set s i (bit_or (get_or s i 0) (2 ^ k - 1))) j (bit_and (get_or s j 0) (255 - (2 ^ k - 1))))
  unfolding X Y
  padded = record {
    first = λ p h. in_first p (omega arith) ∙ at_first p h;
    second = λ p h. at_drop row _ p ∙ at_second p h ∙ sym (at_drop row s p);
    behind = λ p h h'. (
      in_first p h' ∙ set_in s i X p (omega arith) (omega arith) ∙ up_low (get_or s i 0) k (7 - p % 8) (omega arith),
      at_drop row _ p ∙ at_behind p h h',
    );
  }
