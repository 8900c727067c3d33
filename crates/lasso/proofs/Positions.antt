-- What stands at a position of a trace, on each way through the code that looks there.
-- Assumes nothing.
use Prim.Native.Nat.{ℕ, suc, ◌+◌, ◌<◌}
use native.Mathlib.Omega.{arith}
use native.Mathlib.Numerals.{add-one}
use mathlib.Core.Path.{◌≡◌, refl}
use mathlib.Core.Bool.{Bool, true, false, cond}
use mathlib.Core.List.{List}
use lib.Dec.{ltb, eqb}
use borrow.Author.Tests.{ltb-true, lt-ltb, eq-eqb, ne_eqb}
use Rattle.bits.specs.Bits.{digit, count_b}
use Rattle.bits.specs.Rows.{after_of}
use Rattle.lasso.specs.Bytes.{positions, phase_byte, mark_b}

-- the position after one inside a lasso is inside too
pub after_inside : {n start : ℕ} (i : ℕ) → start < n → after_of n start i < n
after_inside {n} {start} i h = go (ltb (suc i) n) refl
  where
    go : (b : Bool) → ltb (suc i) n ≡ b → cond b (suc i) start < n
    go true e = ltb-true (suc i) n e
    go false e = h

module _ (s : List ℕ) (p : ℕ) where
  -- what is read of the position after p is what stands at p + 1, but for the last position
  pub next_phase : (start j y : ℕ) → j ≡ after_of (positions s) start p → y ≡ phase_byte s j → p + 1 < positions s → y ≡ phase_byte s (p + 1)
  next_phase start j y ej ey h = rw (ey, ej, ← add-one p, lt-ltb _ _ h)

  -- one position more in the count of Inputs
  counted : count_b (mark_b s 0) (p + 1) ≡ count_b (mark_b s 0) p + digit (eqb (phase_byte s p) 0)
  unfolding count_b mark_b
  counted = rw (add-one p)

  module _ (n m : ℕ) (e : n ≡ phase_byte s p) (sofar : m ≡ count_b (mark_b s 0) p) where
    pub one_more : n ≡ 0 → m + 1 ≡ count_b (mark_b s 0) (p + 1)
    one_more z = rw (counted, ← e, eq-eqb _ _ z) (omega arith)

    pub no_more : (n ≡ 0 → ⊥) → m ≡ count_b (mark_b s 0) (p + 1)
    no_more n₀ = rw (counted, ← e, ne_eqb _ _ n₀) (omega arith)

-- a position counted, or not
pub ruleset counts = (one_more, no_more)
