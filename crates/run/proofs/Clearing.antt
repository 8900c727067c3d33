-- A buffer cleared from a place on, and what a walk leaves once it is cleared.
-- Assumes nothing.
use Prim.Native.Nat.{ℕ, zero, suc, ◌+◌, ◌-◌, ◌≤◌}
use mathlib.Core.Path.{◌≡◌, sym, ap}
use mathlib.Core.List.{List, ◌++◌}
use native.Mathlib.Omega.{arith}
use lib.ListN.{length, take, drop, replicate, length-replicate}
use Rattle.coding.specs.Room.{over}
use Rattle.coding.proofs.Bytes.{over_eq, over_length}
use Rattle.coding.proofs.Grammars.{front}
use Rattle.run.specs.Working.Walking.{cleared}

abbrev pub zeros : ℕ → List ℕ
zeros n = replicate n 0

pub clear_whole : (d : List ℕ) → cleared 0 d ≡ zeros (length d)
unfolding cleared
clear_whole d = let e : length d - 0 ≡ length d = omega arith in rw e

drop_zeros : (n k : ℕ) → drop n (zeros k) ≡ zeros (k - n)
drop_zeros zero k = let e : k - 0 ≡ k = omega arith in rw e
drop_zeros (suc n) zero = let e : 0 - suc n ≡ 0 = omega arith in rw e
drop_zeros (suc n) (suc k) = let e : suc k - suc n ≡ k - n = omega arith in rw e (drop_zeros n k)

-- behind what was written at the front
pub clear_behind : (d xs : List ℕ) (n : ℕ) → length xs ≡ n → n ≤ length d → cleared n (over d 0 xs) ≡ over (zeros (length d)) 0 xs
unfolding cleared
clear_behind d xs n e h =
    let z : 0 + length xs ≤ length (zeros (length d)) = rw length-replicate (omega arith) in
    let f : take n (over d 0 xs) ≡ xs = rw (← e) (front d xs (omega arith)) in
    let s : 0 + length xs ≡ length xs = omega arith in
    rw (f, over_length d 0 xs, over_eq (zeros (length d)) 0 xs z, s)
    (ap (λ (l : List ℕ). xs ++ l) (rw (← e) (sym (drop_zeros (length xs) (length d)))))
