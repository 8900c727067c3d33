-- The first row of the work as the findings' row: its bits counted and listed, and the verdict read off its first.
-- Assumes nothing.
use Prim.Native.Nat.{ℕ, ◌+◌, ◌-◌, ◌*◌, ◌/◌, ◌%◌, ◌<◌, ◌≤◌}
use native.Mathlib.Omega.{arith}
use native.Mathlib.Decide.{dec_le}
use mathlib.Core.Path.{◌≡◌, sym, ◌∙◌}
use mathlib.Core.Bool.{Bool, false}
use mathlib.Core.List.{List}
use lib.ListN.{length, get_or, take}
use lib.Seq.{get_or-take, length-take-le}
use lib.Dec.{leb, eqb}
use borrow.Author.Tests.{le-leb, lt-leb, eq-eqb, ne_eqb}
use Rattle.requirement.specs.Walking.{Walked, walked, lost}
use Rattle.meaning.specs.Findings.{select}
use Rattle.bits.specs.Bits.{bit_at, count_b}
use Rattle.bits.specs.Rows.{row_of}
use Rattle.bits.proofs.Digits.{bit_shr}
use Rattle.bits.proofs.Bytes.{same_bits}
use Rattle.meaning.specs.Rows.{judge}
use Rattle.lasso.specs.Bytes.{positions, trace_of}
use Rattle.judge.specs.Working.{Same, Room, failing, Rowed, Tallies}
use Rattle.judge.proofs.Rowing.{room_row}
use Rattle.judge.proofs.Failing.{count_before}
use Rattle.judge.proofs.Listing.{select_before}

pub room_some : {d l : ℕ} {t w : List ℕ} → 0 < d → Room d t l w → row_of (positions t) ≤ length w
room_some {d} {l} {t} h r = room_row d (row_of (positions t)) (λ z. omega arith) r.room

-- The first position is the highest digit of the first byte.
pub first_bit : (w : List ℕ) → get_or w 0 0 < 256 → leb 128 (get_or w 0 0) ≡ bit_at w 0
unfolding bit_at
first_bit w h = go (dec_le 128 (get_or w 0 0)) ∙ sym (bit_shr (get_or w 0 0) 7)
  where
    go : Dec (128 ≤ get_or w 0 0) → leb 128 (get_or w 0 0) ≡ eqb (get_or w 0 0 / 128 % 2) 1
    go (yes l) = rw (le-leb 128 (get_or w 0 0) l, eq-eqb (get_or w 0 0 / 128 % 2) 1 (omega arith))
    go (no l) = rw (lt-leb 128 (get_or w 0 0) (omega arith), ne_eqb (get_or w 0 0 / 128 % 2) 1 (omega arith))

-- ---- the first row alone
module _ (k n : ℕ) (w : List ℕ) (g : ℕ → Bool) (ek : k ≡ row_of n) (room : row_of n ≤ length w)
    (found : Same n (bit_at w) g) (behind : (p : ℕ) → n ≤ p → p < 8 * row_of n → bit_at w p ≡ false) where
  size : length (take k w) ≡ row_of n
  size = length-take-le k w (omega arith) ∙ ek

  bit : (p : ℕ) → p < 8 * row_of n → bit_at (take k w) p ≡ bit_at w p
  bit p l = same_bits (take k w) w p (get_or-take k w (p / 8) 0 (omega arith))

  pub part_count : count_b (bit_at (take k w)) (8 * length (take k w)) ≡ count_b g n
  part_count = rw size (count_before (bit_at (take k w)) g n (8 * row_of n) (omega arith) (λ p l. bit p (omega arith) ∙ found p l) (λ p a b. bit p b ∙ behind p a b))

  pub part_select : select (bit_at (take k w)) (8 * length (take k w)) 0 ≡ select g n 0
  part_select =
      let e : 8 * row_of n ≡ n + (8 * row_of n - n) = omega arith in
      rw (size, e) (select_before (bit_at (take k w)) g n (8 * row_of n - n) 0 (λ p a b. bit p (omega arith) ∙ found p (omega arith)) (λ p a b. bit p (omega arith) ∙ behind p (omega arith) (omega arith)))

-- ---- verdict and count
pub tallied : (trace : List ℕ) (start : ℕ) (w v : List ℕ) (r k count : ℕ) (x : Walked) → start < positions trace → get_or w 0 0 < 256 → k ≡ row_of (positions trace) → row_of (positions trace) ≤ length v
    → Rowed x trace start w r → Same (positions trace) (bit_at v) (failing trace (bit_at w))
    → ((p : ℕ) → positions trace ≤ p → p < 8 * row_of (positions trace) → bit_at v p ≡ false) → count ≡ count_b (bit_at (take k v)) (8 * length (take k v))
    → Tallies x trace start v (record { holds = leb 128 (get_or w 0 0); count = count })
tallied trace start w v r k count lost some byte ek room h kept behind e = tt
tallied trace start w v r k count (walked f next) some byte ek room h kept behind e =
    let same : Same (positions trace) (bit_at v) (failing trace (judge (trace_of trace start) f)) = λ p l. kept p l ∙ rw (h.1 p l) in
    record {
      verdict = first_bit w byte ∙ h.1 0 (omega arith);
      found = same;
      behind = behind;
      count = e ∙ part_count k (positions trace) v (failing trace (judge (trace_of trace start) f)) ek room same behind;
    }
