-- What a caller is told of a position, on each way through the code that looks there.
-- Assumes nothing.
use Prim.Native.Nat.{ℕ, zero, suc, ◌+◌, ◌*◌, ◌/◌, ◌%◌, ◌≤◌, ◌<◌}
use mathlib.Core.Path.{◌≡◌, refl, sym}
use mathlib.Core.Bool.{false}
use mathlib.Core.List.{List}
use lib.ListN.{length, get_or, get_or-eq_default}
use borrow.Author.Tests.{lt-ltb, le-ltb}
use Rattle.bits.specs.Bits.{bit_b}
use Rattle.lasso.specs.Bytes.{phase_byte, atom_b, atom_at}

none_set : (k : ℕ) → false ≡ bit_b 0 k
unfolding bit_b
none_set zero = refl
none_set (suc k) = none_set k

module _ (s : List ℕ) (p : ℕ) where
  -- past the end of the bytes
  pub no_phase : length s ≤ p * 5 → 0 ≡ phase_byte s p
  no_phase h = sym (get_or-eq_default s 0 h)

  module _ (a : ℕ) where
    pub above : 32 ≤ a → false ≡ atom_at s a p
    unfolding atom_at
    above h = rw (le-ltb a 32 h) refl

    pub atom_digit : a < 32 → bit_b (get_or s (p * 5 + 1 + a / 8) 0) (a % 8) ≡ atom_at s a p
    unfolding atom_at atom_b
    atom_digit h = rw (lt-ltb a 32 h) refl

    pub no_atom : a < 32 → length s ≤ p * 5 + 1 + a / 8 → false ≡ atom_at s a p
    unfolding atom_at atom_b
    no_atom k h = rw (lt-ltb a 32 k, get_or-eq_default s 0 h) (none_set (a % 8))

    -- one of the 32 atoms is looked up without the bound
    pub atom_within : a < 32 → atom_at s a p ≡ atom_b s a p
    unfolding atom_at
    atom_within h = rw (lt-ltb a 32 h) refl

-- every way through `atom_at`
pub ruleset atoms = (above, no_atom, atom_digit)
