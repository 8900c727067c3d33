-- Bits of a number, and of a row of bytes with eight positions to a byte.
-- Assumes nothing: these are definitions.
use Rattle.std.specs.Prelude.{ℕ, zero, suc, ◌+◌, ◌-◌, ◌*◌, ◌/◌, ◌%◌, Bool, true, false, List, get_or, eqb}

-- Digit k of x is set; the lowest is digit 0.
unfoldable pub bit_b : ℕ → ℕ → Bool
bit_b x zero = eqb (x % 2) 1
bit_b x (suc k) = bit_b (x / 2) k

abbrev pub digit : Bool → ℕ
digit true = 1
digit false = 0

-- x with digit k made v.
unfoldable pub put_b : ℕ → ℕ → Bool → ℕ
put_b x zero v = x / 2 * 2 + digit v
put_b x (suc k) v = put_b (x / 2) k v * 2 + x % 2

-- Position p of a row: the highest digit of a byte is its first position.
unfoldable pub bit_at : List ℕ → ℕ → Bool
bit_at s p = bit_b (get_or s (p / 8) 0) (7 - p % 8)

-- How many of the numbers below n a test holds of.
unfoldable pub count_b : (ℕ → Bool) → ℕ → ℕ
count_b f zero = zero
count_b f (suc n) = count_b f n + digit (f n)
