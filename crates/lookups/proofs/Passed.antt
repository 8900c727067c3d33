-- One state, and one process, passed on the way to a place, where `done` of `k` are passed already.
-- Assumes nothing.
use Prim.Native.Nat.{ℕ, suc, ◌+◌, ◌-◌, ◌*◌, ◌<◌, ◌≤◌}
use mathlib.Core.Path.{◌≡◌, refl}
use mathlib.Core.List.{List}
use native.Mathlib.Omega.{arith}
use lib.ListN.{get_or}
use Rattle.lookups.specs.Places.{after_states, after_processes}

pub pass_state : (T : List ℕ) (k done at : ℕ) → done < k →
    after_states T (k - (done + 1)) (at + 1 + 6 * get_or T at 0) ≡ after_states T (k - done) at
unfolding after_states
pass_state T k done at h = let e : k - done ≡ suc (k - (done + 1)) = omega arith in rw e refl

pub pass_process : (T : List ℕ) (k done at : ℕ) → done < k →
    after_processes T (k - (done + 1)) (after_states T (get_or T at 0) (at + 1)) ≡ after_processes T (k - done) at
unfolding after_processes
pass_process T k done at h = let e : k - done ≡ suc (k - (done + 1)) = omega arith in rw e refl

-- None to pass: the place itself.
pub no_states : (T : List ℕ) (k done at : ℕ) → k ≤ done → after_states T (k - done) at ≡ at
unfolding after_states
no_states T k done at h = let e : k - done ≡ 0 = omega arith in rw e refl

pub no_processes : (T : List ℕ) (k done at : ℕ) → k ≤ done → after_processes T (k - done) at ≡ at
unfolding after_processes
no_processes T k done at h = let e : k - done ≡ 0 = omega arith in rw e refl
