-- The backward walk of until over two rows, several positions at a time; and until on a lasso by two walks.
-- Assumes nothing.
use Prim.Native.Nat.{ℕ, zero, suc, ◌+◌, ◌-◌, ◌*◌, ◌/◌, ◌%◌, ◌^◌, ◌<◌, ◌≤◌}
use mathlib.Core.Path.{◌≡◌, refl, sym, ap, ◌∙◌}
use mathlib.Core.Bool.{Bool, true, false, ◌&&◌, ◌||◌}
use mathlib.Core.List.{List}
use native.Mathlib.Nat.{suc-add, zero-add}
use native.Mathlib.Omega.{arith}
use native.Mathlib.Numerals.{add-one}
use lib.ListN.{length, get_or, set, drop, length-set}
use lib.Seq.{get_or-drop, get_or-set_other}
use lib.Bits.{bit_or}
use Rattle.meaning.specs.Rows.{walk}
use Rattle.meaning.proofs.Below.{walk_end, walk_step}
use Rattle.bits.specs.Bits.{bit_b, bit_at, digit}
use Rattle.bits.specs.Rows.{until_b, until_on, Padded}
use Rattle.bits.proofs.Digits.{digit_lt}
use Rattle.bits.proofs.Bytes.{at_byte, set_byte}
use Rattle.bits.proofs.Until.{until_first, until_next, until_out}

-- The w digits of x are f from p on, the first of them the highest.
pub record Wide (w : ℕ) (f : ℕ → Bool) (p x : ℕ) : Type 0 where
  pub at : (j : ℕ) → j < w → bit_b x j ≡ f (p + (w - 1 - j))

pub wide_byte : (s : List ℕ) (i : ℕ) → Wide 8 (bit_at s) (8 * i) (get_or s i 0)
wide_byte s i = record { at = λ j h. let m : 7 - (7 - j) ≡ j = omega arith in sym (rw m at (at_byte s i (7 - j) (omega arith))) }

pub wide_position : {f : ℕ → Bool} {x : ℕ} (i p : ℕ) → Wide 8 f (8 * i) x → p / 8 ≡ i → bit_b x (7 - p % 8) ≡ f p
wide_position {f} i p h e =
    let m : 8 * i + (7 - (7 - p % 8)) ≡ p = omega arith in
    h.at (7 - p % 8) (omega arith) ∙ ap f m

-- ---- one walk

-- The walk over the first row and the second of s₀ that has come down to position p.
unfoldable pub at_until : List ℕ → ℕ → Bool → ℕ → Bool
at_until s₀ row last p = walk (bit_at s₀) (bit_at (drop row s₀)) last (8 * row - p) p

-- At byte i, w positions of the first row are the digits of x, and of the second those of y.
pub record Both (s₀ : List ℕ) (row w i x y : ℕ) : Type 0 where
  pub first : Wide w (bit_at s₀) (8 * i) x
  pub second : Wide w (bit_at (drop row s₀)) (8 * i) y
  pub x_lt : x < 2 ^ w
  pub y_lt : y < 2 ^ w

pub both_bytes : (s₀ : List ℕ) (row i x y : ℕ) → x < 256 → y < 256 → x ≡ get_or s₀ i 0 → y ≡ get_or s₀ (row + i) 0 → Both s₀ row 8 i x y
both_bytes s₀ row i x y lx ly ex ey = record {
  first = rw ex (wide_byte s₀ i);
  second = rw (ey, ← get_or-drop row s₀ i 0) (wide_byte (drop row s₀) i);
  x_lt = lx;
  y_lt = ly;
}

-- c is what the walk carries out of byte i.
pub record Carried (s₀ : List ℕ) (row : ℕ) (last : Bool) (i c : ℕ) : Type 0 where
  pub small : c < 2
  pub is : c ≡ digit (at_until s₀ row last (8 * i))

pub carried_is : (s₀ : List ℕ) (row : ℕ) (last : Bool) (i c : ℕ) → c ≡ digit (at_until s₀ row last (8 * i)) → Carried s₀ row last i c
carried_is s₀ row last i c e = record { small = rw e (digit_lt (at_until s₀ row last (8 * i))); is = e }

pub carried_end : (s₀ : List ℕ) (row : ℕ) (last : Bool) → Carried s₀ row last row (digit last)
unfolding at_until
carried_end s₀ row last = carried_is s₀ row last row (digit last) (ap digit (sym (walk_end (bit_at s₀) (bit_at (drop row s₀)) last (8 * row))))

-- One position.
module _ (s₀ : List ℕ) (row : ℕ) (last : Bool) where
  until_step : (p q : ℕ) → p < 8 * row → q ≡ p + 1 → at_until s₀ row last p ≡ (bit_at (drop row s₀) p || (bit_at s₀ p && at_until s₀ row last q))
  unfolding at_until
  until_step p q h e = rw (e, add-one p) (walk_step (bit_at s₀) (bit_at (drop row s₀)) last (8 * row) p h)

-- Several positions, from what is carried out of the byte behind them.
module _ {s₀ : List ℕ} {row : ℕ} {last : Bool} (u : ℕ) {i k c x y : ℕ} (b : Both s₀ row (suc u) i x y) (e : 8 * k ≡ 8 * i + suc u) (h : k ≤ row) (hc : Carried s₀ row last k c) where
  v : Bool
  v = at_until s₀ row last (8 * k)

  digits : (j : ℕ) → j < suc u → bit_b (until_b x y (digit v)) j ≡ at_until s₀ row last (8 * i + (suc u - 1 - j))
  unfolding v
  digits zero l =
      rw (until_step s₀ row last (8 * i + (suc u - 1 - 0)) (8 * k) (omega arith) (omega arith), until_first x y v, b.first.at 0 l, b.second.at 0 l)
  digits (suc j) l =
      rw (until_next j x y v, b.first.at (suc j) l, b.second.at (suc j) l, digits j (omega arith))
      (sym (until_step s₀ row last (8 * i + (suc u - 1 - suc j)) (8 * i + (suc u - 1 - j)) (omega arith) (omega arith)))

  pub walked : Wide (suc u) (at_until s₀ row last) (8 * i) (until_b x y c)
  unfolding v
  walked = rw hc.is record { at = digits }

  pub carried : Carried s₀ row last i ((bit_or x y + y + c) / 2 ^ suc u)
  unfolding v
  carried =
      let z : 8 * i + (suc u - 1 - u) ≡ 8 * i = omega arith in
      carried_is s₀ row last i _ (rw hc.is (until_out u x y v b.x_lt b.y_lt ∙ ap digit (rw z at (digits u (omega arith)))))

module _ (s₀ : List ℕ) (row : ℕ) (last : Bool) where
  -- The walk has come down to byte i: from there on s holds until, before it and in the second row it is s₀.
  pub record Down (i : ℕ) (s : List ℕ) : Type 0 where
    pub size : length s ≡ length s₀
    pub done : (p : ℕ) → 8 * i ≤ p → p < 8 * row → bit_at s p ≡ at_until s₀ row last p
    pub ahead : (k : ℕ) → k < i → get_or s k 0 ≡ get_or s₀ k 0
    pub second : (k : ℕ) → row ≤ k → get_or s k 0 ≡ get_or s₀ k 0

  pub down_none : Down row s₀
  down_none = record { size = refl; done = λ p h l. absurd (omega arith); ahead = λ k h. refl; second = λ k h. refl }

module _ {s₀ : List ℕ} {row : ℕ} {last : Bool} (i : ℕ) {k : ℕ} {s : List ℕ} (e : k ≡ i + 1) (hk : k ≤ row) (h : Down s₀ row last k s) where
  pub down_byte : (r : ℕ) → row ≤ length s₀ → Wide 8 (at_until s₀ row last) (8 * i) r → Down s₀ row last i (set s i r)
  down_byte r hl hr = record {
    size = simp length-set h.size;
    done = λ p a l. set_byte s i r p _ (omega (arith, h.size)) (λ d. wide_position i p hr d) (λ n. h.done p (omega arith) l);
    ahead = λ j l. get_or-set_other s i j r 0 (omega arith) ∙ h.ahead j (omega arith);
    second = λ j l. get_or-set_other s i j r 0 (omega arith) ∙ h.second j l;
  }

-- ---- both walks

-- Positions that hold f and not g pass on what is behind them.
walk_tail : (f g : ℕ → Bool) (v : Bool) (k i : ℕ) → ((p : ℕ) → i ≤ p → p < i + k → (f p ≡ true) × (g p ≡ false)) → walk f g v k i ≡ v
unfolding walk
walk_tail f g v zero i h = refl
walk_tail f g v (suc k) i h =
    rw ((h i (omega arith) (omega arith)).0, (h i (omega arith) (omega arith)).1) (walk_tail f g v k (suc i) (λ p a b. h p (omega arith) (omega arith)))

walk_pad : (f g f' g' : ℕ → Bool) (v : Bool) (n k : ℕ) → ((p : ℕ) → p < n → f' p ≡ f p) → ((p : ℕ) → p < n → g' p ≡ g p)
    → ((p : ℕ) → n ≤ p → p < n + k → (f' p ≡ true) × (g' p ≡ false))
    → (d i : ℕ) → i + d ≡ n → walk f' g' v (d + k) i ≡ walk f g v d i
unfolding walk
walk_pad f g f' g' v n k hf hg ht zero i e =
    rw (zero-add k) (walk_tail f' g' v k i (λ p a b. ht p (omega arith) (omega arith)))
walk_pad f g f' g' v n k hf hg ht (suc d) i e =
    rw (suc-add d k, hf i (omega arith), hg i (omega arith), walk_pad f g f' g' v n k hf hg ht d (suc i) (omega arith))

-- Until on n positions is until on more, if those behind only pass on.
until_pad : (n m l : ℕ) (f g f' g' : ℕ → Bool) → n ≤ m → l < n → ((p : ℕ) → p < n → f' p ≡ f p) → ((p : ℕ) → p < n → g' p ≡ g p)
    → ((p : ℕ) → n ≤ p → p < m → (f' p ≡ true) × (g' p ≡ false)) → (p : ℕ) → p < n → until_on m l f' g' p ≡ until_on n l f g p
until_pad n m l f g f' g' hm hl hf hg ht p hp = cut _ p hp ∙ ap (λ b. walk f g b (n - p) p) (cut false l hl)
  where
    cut : (b : Bool) (q : ℕ) → q < n → walk f' g' b (m - q) q ≡ walk f g b (n - q) q
    cut b q hq =
        let e : m - q ≡ n - q + (m - n) = omega arith in
        rw e (walk_pad f g f' g' b n (m - n) hf hg (λ k a l. ht k a (omega arith)) (n - q) q (omega arith))

-- Rows that are the same at n positions.
pub until_same : (n l : ℕ) (f g f' g' : ℕ → Bool) → l < n → ((p : ℕ) → p < n → f' p ≡ f p) → ((p : ℕ) → p < n → g' p ≡ g p) → (p : ℕ) → p < n → until_on n l f' g' p ≡ until_on n l f g p
until_same n l f g f' g' hl hf hg = until_pad n n l f g f' g' (omega arith) hl hf hg (λ p a b. absurd (omega arith))

-- Two rows padded, and then walked twice.
pub until_lasso : (n l row : ℕ) (s r t : List ℕ) (v : Bool) → l < n → n ≤ 8 * row → Padded n row s r → v ≡ at_until r row false l
    → ((p : ℕ) → p < 8 * row → bit_at t p ≡ at_until r row v p) → (p : ℕ) → p < n → bit_at t p ≡ until_on n l (bit_at s) (bit_at (drop row s)) p
unfolding at_until
until_lasso n l row s r t v hl hn h hv ht p hp =
    rw hv at (ht p (omega arith)) ∙ until_pad n (8 * row) l (bit_at s) (bit_at (drop row s)) (bit_at r) (bit_at (drop row r)) hn hl h.first h.second h.behind p hp
