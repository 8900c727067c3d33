-- For the code: rows that agree at the stored positions; and a walk, one step after the other from its end.
-- Assumes nothing.
use Prim.Native.Nat.{ℕ, suc, ◌<◌, ◌-◌}
use native.Mathlib.Omega.{arith}
use mathlib.Core.Bool.{Bool, ◌&&◌, ◌||◌}
use mathlib.Core.Path.{◌≡◌}
use Rattle.meaning.specs.Trace.{Trace}
use Rattle.meaning.specs.Rows.{walk}

pub record Agree (t : Trace) (f g : ℕ → Bool) : Type 0 where
  pub at : (i : ℕ) → i < t.len → f i ≡ g i

-- A walk to the end, at i: from the value at i + 1, or at the end the value that it starts with.
pub walk_end : (f g : ℕ → Bool) (v : Bool) (n : ℕ) → walk f g v (n - n) n ≡ v
unfolding walk
walk_end f g v n = let e : n - n ≡ 0 = omega arith in rw e

pub walk_step : (f g : ℕ → Bool) (v : Bool) (n i : ℕ) → i < n → walk f g v (n - i) i ≡ g i || (f i && walk f g v (n - suc i) (suc i))
unfolding walk
walk_step f g v n i h = let e : n - i ≡ suc (n - suc i) = omega arith in rw e
