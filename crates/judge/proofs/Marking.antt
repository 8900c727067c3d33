-- The rows of the three phases: the low digit of a phase's byte is Exe, the next is Output, and Input has neither.
-- Assumes nothing.
use Prim.Native.Nat.{ℕ, zero, suc, ◌+◌, ◌*◌, ◌<◌, ◌≤◌}
use native.Mathlib.Omega.{arith}
use native.Mathlib.Nat.{add-zero}
use mathlib.Core.Path.{◌≡◌, refl, sym, ap, ap₂, ◌∙◌}
use mathlib.Core.Bool.{Bool, not, ◌||◌, decide}
use mathlib.Core.List.{List}
use lib.ListN.{length, get_or, drop}
use lib.Seq.{drop-drop}
use borrow.Rule.Slice.PartMut.{mid_of, put_mid, mid_len, same_len_mid}
use Rattle.requirement.specs.declared.Phase.{Phase}
use Rattle.requirement.specs.declared.Phase.TheVariants.{Input, Exe, Output}
use Rattle.meaning.specs.Phases.{Phase-discrete}
use Rattle.bits.specs.Bits.{bit_b, bit_at}
use Rattle.bits.proofs.Bytes.{at_drop, part_before, part_is}
use Rattle.lasso.specs.Bytes.{positions, phase_from, phase_byte}
use Rattle.judge.specs.Working.{Same, is_at, longest_row, digit_in, mark_place, Marked}

-- A test of the two low digits that holds of the bytes of this phase alone.
abbrev tells_of : Phase → Bool → Bool → Bool
tells_of Input exe output = not (exe || output)
tells_of Exe exe output = exe
tells_of Output exe output = output

phase_digits : (x : ℕ) (p : Phase) → x ≤ 2 → tells_of p (bit_b x 0) (bit_b x 1) ≡ decide (Phase-discrete (phase_from x) p)
unfolding decide bit_b
phase_digits zero Input h = refl
phase_digits zero Exe h = refl
phase_digits zero Output h = refl
phase_digits (suc zero) Input h = refl
phase_digits (suc zero) Exe h = refl
phase_digits (suc zero) Output h = refl
phase_digits (suc (suc zero)) Input h = refl
phase_digits (suc (suc zero)) Exe h = refl
phase_digits (suc (suc zero)) Output h = refl
phase_digits (suc (suc (suc x))) p h = absurd (omega arith)

-- ---- the rows of the two digits put behind the first, and the first filled from them
abbrev with_exe : List ℕ → List ℕ → List ℕ
with_exe m a = put_mid longest_row longest_row m a

abbrev with_both : List ℕ → List ℕ → List ℕ → List ℕ
with_both m a b = put_mid (2 * longest_row) longest_row (with_exe m a) b

module _ (m a b : List ℕ) (size : length m ≡ 3 * longest_row) (exe_long : length a ≡ length (mid_of longest_row longest_row m))
    (output_long : length b ≡ length (mid_of (2 * longest_row) longest_row (with_exe m a))) where
  exe_size : length (with_exe m a) ≡ 3 * longest_row
  exe_size = same_len_mid longest_row longest_row m a exe_long ∙ size

  both_size : length (with_both m a b) ≡ 3 * longest_row
  both_size = same_len_mid (2 * longest_row) longest_row (with_exe m a) b output_long ∙ exe_size

  at_exe : (p : ℕ) → p < 8 * longest_row → bit_at (drop longest_row (with_both m a b)) p ≡ bit_at a p
  at_exe p l =
      let k : length a ≡ longest_row = exe_long ∙ mid_len longest_row (2 * longest_row) m (omega arith) in
      at_drop longest_row (with_both m a b) p
      ∙ part_before (2 * longest_row) longest_row (with_exe m a) b (omega (arith, exe_size)) (8 * longest_row + p) (omega arith)
      ∙ sym (at_drop longest_row (with_exe m a) p)
      ∙ part_is longest_row longest_row m a (omega arith) p (omega arith)

  at_output : (p : ℕ) → p < 8 * longest_row → bit_at (drop (2 * longest_row) (with_both m a b)) p ≡ bit_at b p
  at_output p l =
      let k : length b ≡ longest_row = output_long ∙ mid_len (2 * longest_row) (3 * longest_row) (with_exe m a) (omega (arith, exe_size)) in
      part_is (2 * longest_row) longest_row (with_exe m a) b (omega (arith, exe_size)) p (omega arith)

  module _ (t v : List ℕ) (few : positions t ≤ 4096) (phases : (p : ℕ) → p < positions t → phase_byte t p ≤ 2)
      (exe : Same (positions t) (bit_at a) (digit_in t 0 0)) (output : Same (positions t) (bit_at b) (digit_in t 0 1)) (long : length v ≡ length (with_both m a b))
      (first : (p : ℕ) → p < 8 * longest_row → bit_at v p ≡ not (bit_at (drop longest_row (with_both m a b)) p || bit_at (drop (2 * longest_row) (with_both m a b)) p))
      (kept : drop longest_row v ≡ drop longest_row (with_both m a b)) where
    told : (phase : Phase) (p : ℕ) → p < positions t → tells_of phase (bit_at a p) (bit_at b p) ≡ is_at t phase p
    told phase p l =
        let low : bit_at a p ≡ bit_b (phase_byte t p) 0 = exe p l ∙ ap (λ (i : ℕ). bit_b (get_or t i 0) 0) (add-zero (p * 5)) in
        let high : bit_at b p ≡ bit_b (phase_byte t p) 1 = output p l ∙ ap (λ (i : ℕ). bit_b (get_or t i 0) 1) (add-zero (p * 5)) in
        ap₂ (tells_of phase) low high ∙ phase_digits (phase_byte t p) phase (phases p l)

    row_of : (phase : Phase) → Same (positions t) (bit_at (drop (mark_place phase) v)) (is_at t phase)
    row_of Input p l = first p (omega arith) ∙ ap₂ (λ (x y : Bool). not (x || y)) (at_exe p (omega arith)) (at_output p (omega arith)) ∙ told Input p l
    row_of Exe p l = ap (λ (s : List ℕ). bit_at s p) kept ∙ at_exe p (omega arith) ∙ told Exe p l
    row_of Output p l =
        let e : drop (2 * longest_row) v ≡ drop (2 * longest_row) (with_both m a b) = sym (drop-drop longest_row longest_row v) ∙ ap (drop longest_row) kept ∙ drop-drop longest_row longest_row (with_both m a b) in
        ap (λ (s : List ℕ). bit_at s p) e ∙ at_output p (omega arith) ∙ told Output p l

    pub marked : Marked t v
    marked = record { size = long ∙ both_size; rows = row_of }
