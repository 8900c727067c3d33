-- The list of the positions of a row's bits, and its bytes put into a buffer one position after the other.
-- Assumes nothing.
use Prim.Native.Nat.{ℕ, zero, suc, ◌+◌, ◌-◌, ◌*◌, ◌/◌, ◌%◌, ◌<◌, ◌≤◌}
use native.Mathlib.Omega.{arith}
use native.Mathlib.Nat.{suc-add, zero-add}
use native.Mathlib.Numerals.{add-one}
use mathlib.Core.Path.{◌≡◌, refl, ap, ◌∙◌}
use mathlib.Core.Bool.{Bool, true, false, not}
use mathlib.Core.List.{List, [], ◌∷◌}
use lib.ListN.{length, get_or, set}
use lib.Dec.{ltb}
use lib.Seq.{length-sets}
use borrow.Author.Tests.{lt-ltb, le-ltb, ltb-true}
use Rattle.coding.specs.Room.{over}
use Rattle.coding.proofs.Bytes.{over_append}
use Rattle.meaning.specs.Findings.{put, select}
use Rattle.bits.specs.Bits.{bit_b, bit_at, digit, count_b}
use Rattle.bits.proofs.Digits.{bit_not, bit_low}
use Rattle.bits.proofs.Bytes.{at_byte}
use Rattle.bits.proofs.Counts.{count_add, count_same}
use Rattle.judge.specs.Judging.{position_bytes}
use Rattle.judge.specs.Working.{PutPosition, Listing}
use Rattle.judge.proofs.Bytewise.{put_two}
use borrow.Rule.Slice.PartMut.{put_mid}

-- ---- the positions among k from i on
module _ (b : ℕ → Bool) where
  none : (k i : ℕ) → ((j : ℕ) → i ≤ j → j < i + k → b j ≡ false) → select b k i ≡ []
  unfolding select
  none zero i h = refl
  none (suc k) i h = rw (h i (omega arith) (omega arith)) (none k (suc i) (λ j l m. h j (omega arith) (omega arith)))

  -- nothing is behind the first k of them, which are another row's
  pub select_before : (c : ℕ → Bool) (k l i : ℕ) → ((j : ℕ) → i ≤ j → j < i + k → b j ≡ c j) → ((j : ℕ) → i + k ≤ j → j < i + k + l → b j ≡ false)
      → select b (k + l) i ≡ select c k i
  unfolding select
  select_before c zero l i a h = rw (zero-add l) (none l i (λ j m n. h j (omega arith) (omega arith)))
  select_before c (suc k) l i a h =
      rw (suc-add k l, a i (omega arith) (omega arith), select_before c k l (suc i) (λ j m n. a j (omega arith) (omega arith)) (λ j m n. h j (omega arith) (omega arith)))

  put_length : (v : Bool) (i : ℕ) (l : List ℕ) → length (put v i l) ≡ digit v + length l
  put_length true i l = omega arith
  put_length false i l = omega arith

  pub select_length : (k i : ℕ) → length (select b k i) ≡ count_b (λ j. b (i + j)) k
  unfolding select count_b
  select_length zero i = refl
  select_length (suc k) i =
      let z : i + 0 ≡ i = omega arith in
      let one : count_b (λ j. b (i + j)) (1 + k) ≡ count_b (λ j. b (i + j)) 1 + count_b (λ j. b (i + (1 + j))) k = count_add (λ j. b (i + j)) 1 k in
      let s : count_b (λ j. b (i + (1 + j))) k ≡ count_b (λ j. b (suc i + j)) k = count_same _ _ k (λ j l. let e : i + (1 + j) ≡ suc i + j = omega arith in rw e) in
      let first : count_b (λ j. b (i + j)) 1 ≡ digit (b i) = rw z (omega arith) in
      let t : 1 + k ≡ suc k = omega arith in
      let u = rw t at one in
      put_length (b i) i (select b k (suc i)) ∙ omega (arith, select_length k (suc i))

  step : (n p : ℕ) → p < n → select b (n - p) p ≡ put (b p) p (select b (n - (p + 1)) (p + 1))
  unfolding select
  step n p h =
      let e : n - p ≡ suc (n - (p + 1)) = omega arith in
      rw (e, add-one p)

-- ---- one position put into a buffer
module _ (p at : ℕ) (d : List ℕ) where
  pub put_here : at + 1 < length d → PutPosition p d at (set (set d at (p % 256)) (at + 1) (p / 256)) (at + 2)
  unfolding over position_bytes
  put_here h = rw (lt-ltb (at + 1) (length d) h) (refl, rw (add-one at))

  pub put_both : p < 65536 → at + 1 < length d → PutPosition p d at (put_mid at 2 d (p % 256 ∷ p / 256 % 256 ∷ [])) (at + 2)
  put_both few h =
      let high : p / 256 % 256 ≡ p / 256 = omega arith in
      rw (high, put_two at d (p % 256) (p / 256) (omega arith)) (put_here h)

  pub put_nowhere : length d ≤ at + 1 → PutPosition p d at d at
  put_nowhere h = rw (le-ltb (at + 1) (length d) h) (refl, refl)

  put_inside : at ≤ length d → (d' : List ℕ) (r : ℕ) → PutPosition p d at d' r → (r ≤ length d') × (length d' ≡ length d)
  unfolding over position_bytes
  put_inside h d' r g = go (ltb (at + 1) (length d)) refl
    where
      go : (b : Bool) → ltb (at + 1) (length d) ≡ b → (r ≤ length d') × (length d' ≡ length d)
      go true e =
          let k = rw e at g.0 in
          let v : length d' ≡ length d = ap length (rw e at g.1) ∙ length-sets d at (p % 256 ∷ p / 256 ∷ []) in
          (omega (arith, ltb-true (at + 1) (length d) e), v)
      go false e =
          let k = rw e at g.0 in
          let v : length d' ≡ length d = ap length (rw e at g.1) in
          (omega arith, v)

-- ---- the loop: what is left to put gives the whole list
pub listing_none : (b : ℕ → Bool) (n : ℕ) (d : List ℕ) → 2 * count_b b n ≤ length d → Listing b n d 0 0 d
listing_none b n d h =
    let e : n - 0 ≡ n = omega arith in
    let c : count_b (λ j. b (0 + j)) n ≡ count_b b n = count_same _ _ n (λ j l. rw (zero-add j)) in
    record { below = omega arith; rest = rw e; room = rw e (omega (arith, select_length b n 0)); size = refl }

module _ {b : ℕ → Bool} {n : ℕ} {d₀ : List ℕ} {at p : ℕ} {d : List ℕ} (h : Listing b n d₀ at p d) where
  pub listing_skip : p < n → b p ≡ false → Listing b n d₀ at (p + 1) d
  listing_skip l e =
      let s : select b (n - p) p ≡ select b (n - (p + 1)) (p + 1) = step b n p l ∙ rw e in
      record { below = omega arith; rest = rw s at h.rest; room = rw s at h.room; size = h.size }

  pub listing_put : p < n → b p ≡ true → (d' : List ℕ) (r : ℕ) → PutPosition p d at d' r → Listing b n d₀ r (p + 1) d'
  unfolding over position_bytes
  listing_put l e d' r g =
      let s : select b (n - p) p ≡ p ∷ select b (n - (p + 1)) (p + 1) = step b n p l ∙ rw e in
      let m = rw s at h.room in
      let t : at + 1 < length d = omega arith in
      let k = rw (lt-ltb (at + 1) (length d) t) at g.0 in
      let u = rw (lt-ltb (at + 1) (length d) t) at g.1 in
      let v : length d' ≡ length d = ap length u ∙ length-sets d at (p % 256 ∷ p / 256 ∷ []) in
      record {
        below = omega arith;
        rest = rw (k, u) (over_append d at (p % 256 ∷ p / 256 ∷ []) (position_bytes (select b (n - (p + 1)) (p + 1))) ∙ rw s at h.rest);
        room = omega (arith, v, k);
        size = v ∙ h.size;
      }

  pub listing_done : n ≤ p → d ≡ over d₀ 0 (position_bytes (select b n 0))
  unfolding over position_bytes select
  listing_done l = let e : n - p ≡ 0 = omega arith in rw e at h.rest

-- A stretch without a bit is passed at once.
pub listing_pass : {b : ℕ → Bool} {n : ℕ} {d₀ : List ℕ} {at p : ℕ} {d : List ℕ} → Listing b n d₀ at p d → (k : ℕ) → p + k ≤ n
    → ((j : ℕ) → j < k → b (p + j) ≡ false) → Listing b n d₀ at (p + k) d
listing_pass {b} {n} {d₀} {at} {p} {d} h zero l none = let e : p + 0 ≡ p = omega arith in rw e h
listing_pass {b} {n} {d₀} {at} {p} {d} h (suc k) l none =
    let e : p + suc k ≡ p + k + 1 = omega arith in
    rw e (listing_skip (listing_pass h k (omega arith) (λ j m. none j (omega arith))) (omega arith) (none k (omega arith)))

digit_none : (j : ℕ) → j < 8 → bit_b 0 j ≡ false
digit_none j h = bit_not 8 255 j (omega arith) h ∙ ap not (bit_low 8 j h)

pub listing_zero : (s : List ℕ) (i : ℕ) {n : ℕ} {d₀ : List ℕ} {at : ℕ} {d : List ℕ} → Listing (bit_at s) n d₀ at (8 * i) d → 8 * i + 8 ≤ n → get_or s i 0 ≡ 0
    → Listing (bit_at s) n d₀ at (8 * i + 8) d
listing_zero s i h l e = listing_pass h 8 l (λ j m. at_byte s i j m ∙ rw e (digit_none (7 - j) (omega arith)))

-- ---- the positions of one byte: wherever the list has come to that byte, it comes k of its positions further
pub record Byte (s : List ℕ) (i place : ℕ) (d₀ : List ℕ) (at k : ℕ) (d : List ℕ) : Type 0 where
  pub below : k ≤ 8
  pub inside : at ≤ length d
  pub size : length d ≡ length d₀
  pub goes : (n : ℕ) (e : List ℕ) → 8 * i + 8 ≤ n → Listing (bit_at s) n e place (8 * i) d₀ → Listing (bit_at s) n e at (8 * i + k) d

pub byte_none : (s : List ℕ) (i place : ℕ) (d : List ℕ) → place ≤ length d → Byte s i place d place 0 d
byte_none s i place d h = record { below = omega arith; inside = h; size = refl; goes = λ n e l g. let z : 8 * i + 0 ≡ 8 * i = omega arith in rw z g }

module _ {s : List ℕ} {i place : ℕ} {d₀ : List ℕ} {at k : ℕ} {d : List ℕ} (h : Byte s i place d₀ at k d) (more : k < 8) where
  next : 8 * i + (k + 1) ≡ 8 * i + k + 1
  next = omega arith

  pub byte_skip : bit_b (get_or s i 0) (7 - k) ≡ false → Byte s i place d₀ at (k + 1) d
  byte_skip e = record {
    below = omega arith;
    inside = h.inside;
    size = h.size;
    goes = λ n f l g. rw next (listing_skip (h.goes n f l g) (omega arith) (at_byte s i k more ∙ e));
  }

  pub byte_put : bit_b (get_or s i 0) (7 - k) ≡ true → (d' : List ℕ) (r : ℕ) → PutPosition (8 * i + k) d at d' r → Byte s i place d₀ r (k + 1) d'
  byte_put e d' r p =
      let m = put_inside (8 * i + k) at d h.inside d' r p in
      record {
        below = omega arith;
        inside = m.0;
        size = m.1 ∙ h.size;
        goes = λ n f l g. rw next (listing_put (h.goes n f l g) (omega arith) (at_byte s i k more ∙ e) d' r p);
      }
