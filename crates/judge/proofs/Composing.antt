-- Rows in the work: an operator over rows that agree, a phase's row lent from the marks, and the second row of the work lent alone.
-- Assumes nothing.
use Prim.Native.Nat.{ℕ, ◌+◌, ◌-◌, ◌*◌, ◌<◌, ◌≤◌}
use mathlib.Core.Path.{◌≡◌, ap, ◌∙◌}
use mathlib.Core.Bool.{Bool, not, ◌&&◌, and_comm}
use mathlib.Core.List.{List}
use native.Mathlib.Omega.{arith}
use lib.ListN.{length, drop}
use borrow.Rule.Slice.PartMut.{mid_of, put_mid, mid_len}
use Rattle.requirement.specs.declared.Phase.{Phase}
use Rattle.meaning.specs.Rows.{rowed}
use Rattle.bits.specs.Bits.{bit_at}
use Rattle.bits.specs.Rows.{after_of}
use Rattle.bits.proofs.Bytes.{part_before, part_is}
use Rattle.bits.proofs.Walks.{until_same}
use Rattle.lasso.specs.Bytes.{positions, trace_of}
use Rattle.lasso.proofs.Positions.{after_inside}
use Rattle.judge.specs.Working.{Same, is_at, mark_place, Marked}
use Rattle.judge.proofs.Bytewise.{taken_is}

-- ---- operators over rows that agree

module _ (t : List ℕ) {start : ℕ} (inside : start < positions t) where
  pub after_below : (p : ℕ) → p < positions t → after_of (positions t) start p < positions t
  after_below p l = after_inside p inside

  pub until_of_lem : {r u v f g : ℕ → Bool} → Same (positions t) r ((rowed (trace_of t start)).U u v) → Same (positions t) u f → Same (positions t) v g
      → Same (positions t) r ((rowed (trace_of t start)).U f g)
  until_of_lem {r} {u} {v} {f} {g} e eu ev p l = e p l ∙ until_same (positions t) start f g u v inside eu ev p l

-- A row kept where a phase is, the phase first; and negated, kept and negated again: the phase implies the row.
module _ (t : List ℕ) (phase : Phase) (w : List ℕ) (p : ℕ) where
  pub kept : (bit_at w p && is_at t phase p) ≡ (is_at t phase p && bit_at w p)
  kept = and_comm (bit_at w p) (is_at t phase p)

  pub implied : not (not (bit_at w p) && is_at t phase p) ≡ not (is_at t phase p && not (bit_at w p))
  implied = ap not (and_comm (not (bit_at w p)) (is_at t phase p))

-- ---- a phase's row, lent from its place in the marks on

pub mark_is : {t m : List ℕ} → Marked t m → (phase : Phase) (from k : ℕ) → from ≡ mark_place phase → positions t ≤ 8 * k → Same (positions t) (bit_at (mid_of from k m)) (is_at t phase)
mark_is {t} {m} h phase from k e a p l = taken_is k (drop from m) p (omega arith) ∙ rw e (h.rows phase p l)

-- ---- the second row of two lent alone, and back as x

module _ (n r : ℕ) (w : List ℕ) (hn : n ≤ 8 * r) (hr : r + r ≤ length w) where
  pub second_at : Same n (bit_at (mid_of r (length w - r) w)) (bit_at (drop r w))
  second_at p l = taken_is (length w - r) (drop r w) p (omega arith)

  pub second_put : (x : List ℕ) (f : ℕ → Bool) → length x ≡ length (mid_of r (length w - r) w) → Same n (bit_at x) f
      → Same n (bit_at (put_mid r (length w - r) w x)) (bit_at w) × Same n (bit_at (drop r (put_mid r (length w - r) w x))) f
  second_put x f k e =
      let q : length x ≡ length w - r = k ∙ mid_len r (length w) w (omega arith) in
      (λ p l. part_before r (length w - r) w x (omega arith) p (omega arith), λ p l. part_is r (length w - r) w x (omega arith) p (omega arith) ∙ e p l)
