-- Past the last number there is nothing.
-- Assumes nothing.
use Prim.Native.Nat.{ℕ, ◌+◌, ◌-◌, ◌*◌, ◌≤◌}
use native.Mathlib.Omega.{arith}
use mathlib.Core.Path.{◌≡◌, refl}
use mathlib.Core.List.{List}
use lib.ListN.{length, get_or, get_or-eq_default}
use Rattle.lookups.specs.Places.{row_from, no_action}

pub none_there : (T : List ℕ) (state a : ℕ) → length T ≤ state → row_from T (state + 1 + 6 * (a - 1)) ≡ no_action
unfolding row_from
none_there T state a h =
    let at = state + 1 + 6 * (a - 1) in
    let past : (k : ℕ) → get_or T (at + k) 0 ≡ 0 = λ k. get_or-eq_default T 0 (omega arith) in
    rw (past 1, past 2, past 3, past 4, past 5, get_or-eq_default T 0 {n = at} (omega arith)) refl
