-- What a check of a trace says on each way through the code.
-- Assumes nothing.
use Prim.Native.Nat.{ℕ, suc, ◌+◌, ◌-◌, ◌≤◌, ◌<◌}
use native.Mathlib.Omega.{arith}
use mathlib.Core.Path.{◌≡◌}
use mathlib.Core.Bool.{Bool, true, false}
use mathlib.Core.List.{List}
use lib.ListN.{length}
use borrow.Author.Tests.{eq-eqb, ne_eqb, lt-ltb}
use Rattle.coding.specs.Refusal.{Answer, refused_at}
use Rattle.std.specs.Prelude.{Ok}
use Rattle.coding.specs.Number.{pick}
use Rattle.coding.specs.declared.Cause.TheVariants.{BadTrace}
use Rattle.bits.specs.Rows.{after_of}
use Rattle.lasso.specs.Bytes.{positions, phase_byte}
use Rattle.lasso.specs.Checking.{length_ok, steps_from, output_from, check_by}

-- what is left from a position on is that position and then the rest
left : {n i : ℕ} → i < n → n - i ≡ suc (n - (i + 1))
left h = omega arith

module _ (rule : ℕ → ℕ → Bool) (s : List ℕ) (start : ℕ) (fine : Answer) (i : ℕ) where
  pub steps_end : positions s ≤ i → fine ≡ steps_from rule s start (positions s - i) i fine
  unfolding steps_from
  steps_end h = let e : positions s - i ≡ 0 = omega arith in rw e

  module _ (h : i < positions s) (x j y : ℕ) (r : Bool)
      (ex : x ≡ phase_byte s i) (ej : j ≡ after_of (positions s) start i) (ey : y ≡ phase_byte s j) (er : r ≡ rule x y) where
    here : steps_from rule s start (positions s - i) i fine
        ≡ pick r (steps_from rule s start (positions s - (i + 1)) (i + 1) fine) (refused_at BadTrace i)
    unfolding steps_from
    here = rw (left h, er, ey, ej, ex)

    pub steps_on : r ≡ true → steps_from rule s start (positions s - (i + 1)) (i + 1) fine ≡ steps_from rule s start (positions s - i) i fine
    steps_on e = rw (here, e)

    pub steps_stop : r ≡ false → refused_at BadTrace i ≡ steps_from rule s start (positions s - i) i fine
    steps_stop e = rw (here, e)

module _ (s : List ℕ) (i : ℕ) where
  pub output_end : positions s ≤ i → false ≡ output_from s (positions s - i) i
  unfolding output_from
  output_end h = let e : positions s - i ≡ 0 = omega arith in rw e

  module _ (h : i < positions s) (x : ℕ) (ex : x ≡ phase_byte s i) where
    pub output_here : x ≡ 2 → true ≡ output_from s (positions s - i) i
    unfolding output_from
    output_here e = rw (left h, ← ex, eq-eqb _ _ e)

    pub output_on : (x ≡ 2 → ⊥) → output_from s (positions s - (i + 1)) (i + 1) ≡ output_from s (positions s - i) i
    unfolding output_from
    output_on n₂ = rw (left h, ← ex, ne_eqb _ _ n₂)

-- a trace whose length and loop start are right
module _ (rule : ℕ → ℕ → Bool) (s : List ℕ) (start : ℕ) where
  module _ (ok : length_ok (length s) ≡ true) where
    module _ (h : start < positions s) where
      walked : check_by rule s start
          ≡ steps_from rule s start (positions s) 0 (pick (output_from s (positions s - start) start) (Ok (positions s)) (refused_at BadTrace start))
      unfolding check_by
      walked = rw (ok, lt-ltb start (positions s) h)

      pub with_output : output_from s (positions s - start) start ≡ true →
          steps_from rule s start (positions s) 0 (Ok (positions s)) ≡ check_by rule s start
      with_output e = rw (walked, e)

      pub without_output : output_from s (positions s - start) start ≡ false →
          steps_from rule s start (positions s) 0 (refused_at BadTrace start) ≡ check_by rule s start
      without_output e = rw (walked, e)

-- what the loops over the positions go by
pub ruleset steps = (steps_on, steps_stop, steps_end)

pub ruleset outputs = (output_here, output_on, output_end)
