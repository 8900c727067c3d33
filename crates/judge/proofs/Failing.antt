-- The findings' row: the Input positions at which the requirement's row has no bit; cut behind the last position, and counted.
-- Assumes nothing.
use Prim.Native.Nat.{ℕ, zero, suc, ◌+◌, ◌-◌, ◌*◌, ◌%◌, ◌^◌, ◌<◌, ◌≤◌}
use native.Mathlib.Omega.{arith}
use native.Mathlib.Nat.{add-zero}
use mathlib.Core.Path.{◌≡◌, refl, ap, ◌∙◌}
use mathlib.Core.Bool.{Bool, true, false, not, ◌&&◌}
use mathlib.Core.List.{List}
use lib.ListN.{length, get_or, set}
use lib.Bits.{bit_and}
use Rattle.requirement.specs.declared.Phase.TheVariants.{Input}
use Rattle.bits.specs.Bits.{bit_at, digit, count_b}
use Rattle.bits.specs.Rows.{row_of}
use Rattle.bits.proofs.Digits.{down_high, down_low}
use Rattle.bits.proofs.Bytes.{set_byte}
use Rattle.bits.proofs.Counts.{count_same, count_add}
use Rattle.lasso.specs.Bytes.{positions, phase_byte, mark_b}
use Rattle.judge.specs.Working.{Same, is_at, Marked, failing}
use Rattle.judge.proofs.Rowing.{mark_is}

-- The row of the phase Input is the first of the marks.
pub failing_marked : {trace marks : List ℕ} → Marked trace marks → (w v : List ℕ)
    → ((p : ℕ) → p < 8 * row_of (positions trace) → bit_at v p ≡ (bit_at marks p && not (bit_at w p))) → Same (positions trace) (bit_at v) (failing trace (bit_at w))
failing_marked m w v h p l = h p (omega arith) ∙ ap (λ (b : Bool). b && not (bit_at w p)) (m.rows Input p l)

module _ (trace : List ℕ) (phases : (p : ℕ) → p < positions trace → phase_byte trace p ≤ 2) where
  -- no more fail than there are Inputs
  pub failing_few : (row : ℕ → Bool) (n : ℕ) → n ≤ positions trace → count_b (failing trace row) n ≤ count_b (mark_b trace 0) n
  unfolding count_b
  failing_few row zero h = omega arith
  failing_few row (suc n) h = omega (arith, failing_few row n (omega arith), both (is_at trace Input n) (row n) (mark_b trace 0 n) (mark_is trace Input n (phases n (omega arith))))
    where
      both : (a b m : Bool) → m ≡ a → digit (a && not b) ≤ digit m
      both true true m e = omega arith
      both true false m e = rw e (omega arith)
      both false b m e = omega arith

-- ---- the last byte, with nothing behind n positions
module _ (n i k : ℕ) (s : List ℕ) (some : 0 < n) (room : row_of n ≤ length s) (ei : i ≡ row_of n - 1) (ek : k ≡ 8 * row_of n - n) where
  pub cut_before : Same n (bit_at (set s i (bit_and (get_or s i 0) (255 - (2 ^ k - 1))))) (bit_at s)
  unfolding bit_at
  cut_before p h =
      set_byte s i (bit_and (get_or s i 0) (255 - (2 ^ k - 1))) p _ (omega arith)
      (λ e. down_high (get_or s i 0) k (7 - p % 8) (omega arith) (omega arith) (omega arith) ∙ rw e) (λ e. refl)

  pub cut_behind : (p : ℕ) → n ≤ p → p < 8 * row_of n → bit_at (set s i (bit_and (get_or s i 0) (255 - (2 ^ k - 1)))) p ≡ false
  cut_behind p a b =
      set_byte s i (bit_and (get_or s i 0) (255 - (2 ^ k - 1))) p false (omega arith)
      (λ e. down_low (get_or s i 0) k (7 - p % 8) (omega arith) (omega arith) (omega arith)) (λ d. absurd (d (omega arith)))

-- ---- a count where nothing is behind n
none : (f : ℕ → Bool) (n : ℕ) → ((p : ℕ) → p < n → f p ≡ false) → count_b f n ≡ 0
unfolding count_b
none f zero h = refl
none f (suc n) h = rw (none f n (λ p l. h p (omega arith)), h n (omega arith))

pub count_before : (f g : ℕ → Bool) (n m : ℕ) → n ≤ m → Same n f g → ((p : ℕ) → n ≤ p → p < m → f p ≡ false) → count_b f m ≡ count_b g n
count_before f g n m h a b =
    let e : m ≡ n + (m - n) = omega arith in
    ap (count_b f) e ∙ count_add f n (m - n)
    ∙ rw (none (λ k. f (n + k)) (m - n) (λ p l. b (n + p) (omega arith) (omega arith)), add-zero (count_b f n)) (count_same f g n a)
