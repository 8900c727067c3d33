-- An atom's digit in a trace's bytes; bytes of rows joined; and a digit put by its mask.
-- Assumes nothing.
use Prim.Native.Nat.{ℕ, ◌+◌, ◌-◌, ◌*◌, ◌/◌, ◌%◌, ◌^◌, ◌<◌, ◌≤◌}
use mathlib.Core.Path.{◌≡◌, sym, ◌∙◌}
use mathlib.Core.Bool.{Bool, true, false, not, ◌||◌}
use mathlib.Core.List.{List}
use native.Mathlib.Omega.{arith}
use lib.ListN.{get_or, drop}
use lib.Seq.{get_or-drop}
use lib.Bits.{bit_or, or_lt}
use Rattle.bits.specs.Bits.{bit_b, put_b, bit_at}
use Rattle.bits.specs.Rows.{Packs}
use Rattle.bits.proofs.Digits.{put_up, put_down, put_lt, mask_is, bit_not, bit_or_lem}
use Rattle.bits.proofs.Bytes.{packs_byte, Made}
use Rattle.lasso.specs.Bytes.{atom_b}
use Rattle.judge.specs.Working.{digit_in}

pub atom_digit : (t : List ℕ) (a p : ℕ) → digit_in t (1 + a / 8) (a % 8) p ≡ atom_b t a p
unfolding atom_b
atom_digit t a p =
    let m : p * 5 + (1 + a / 8) ≡ p * 5 + 1 + a / 8 = omega arith in
    rw m

-- Byte i of a row that stands behind the one that is being made.
pub packs_behind : {f : ℕ → Bool} {s₀ s : List ℕ} {i : ℕ} (a : ℕ) → Made f s₀ i s → Packs (bit_at (drop a s₀)) (8 * i) 8 (get_or s (a + i) 0)
packs_behind {f} {s₀} {s} {i} a h =
    let e : get_or s (a + i) 0 ≡ get_or (drop a s₀) i 0 = h.rest (a + i) (omega arith) ∙ sym (get_or-drop a s₀ i 0) in
    rw e (packs_byte (drop a s₀) i 8 (omega arith))

-- What neither of two bytes has.
pub packs_neither : (f g : ℕ → Bool) (p x y : ℕ) → x < 256 → y < 256 → Packs f p 8 x → Packs g p 8 y → Packs (λ q. not (f q || g q)) p 8 (255 - bit_or x y)
unfolding Packs
packs_neither f g p x y hx hy a b q l =
    let n : bit_b (255 - bit_or x y) (7 - q) ≡ not (bit_b (bit_or x y) (7 - q)) = bit_not 8 (bit_or x y) (7 - q) (or_lt 8 x y hx hy) (omega arith) in
    rw (n, bit_or_lem x y (7 - q), a q l, b q l)

module _ (x k : ℕ) (h : k < 8) where
  module _ (t : bit_b x k ≡ true) where
    pub down_fits : 1 * 2 ^ k % 256 ≤ x
    down_fits = omega (arith, put_down x k t, mask_is k h)

    pub down_is : x - 1 * 2 ^ k % 256 ≡ put_b x k false
    down_is = omega (arith, put_down x k t, mask_is k h)

  module _ (t : bit_b x k ≡ false) where
    pub up_fits : x < 256 → x + 1 * 2 ^ k % 256 < 256
    up_fits b =
        let l : put_b x k true < 2 ^ 8 = put_lt 8 x k true (omega arith) h in
        omega (arith, put_up x k t, mask_is k h, l)

    pub up_is : x + 1 * 2 ^ k % 256 ≡ put_b x k true
    up_is = omega (arith, put_up x k t, mask_is k h)
