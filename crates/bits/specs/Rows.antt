-- Rows of a lasso worked on by bytes and by words of four bytes.
-- Assumes nothing: these are definitions.
use Rattle.std.specs.Prelude.{ℕ, suc, ◌+◌, ◌-◌, ◌*◌, ◌/◌, ◌%◌, ◌^◌, ◌<◌, ◌≤◌, ◌≡◌, Bool, true, false, cond, List, get_or, set, drop, ltb}
use Rattle.std.specs.Int.Bits.{bit_or, bit_xor}
use Rattle.meaning.specs.Rows.{walk}
use Rattle.bits.specs.Bits.{bit_b, bit_at}

-- "row bytes (positions over 8, rounded up)"
abbrev pub row_of : ℕ → ℕ
row_of n = (n + 7) / 8

-- The position after p of a lasso of n positions whose loop starts at l.
abbrev pub after_of : ℕ → ℕ → ℕ → ℕ
after_of n l p = cond (ltb (suc p) n) (suc p) l

-- f U g on such a lasso: one walk from behind that starts with false at the join, and a second that starts with the value found there.
abbrev pub until_on : ℕ → ℕ → (ℕ → Bool) → (ℕ → Bool) → ℕ → Bool
until_on n l f g p = walk f g (walk f g false (n - l) l) (n - p) p

-- The carries of a sum, each with what came in.
unfoldable pub ripple : ℕ → ℕ → ℕ → ℕ
ripple a b c = bit_xor (bit_xor (a + b + c) a) b

-- Until at all positions of a word at once, from what is behind them: the carries out of (f or g) + g.
unfoldable pub until_b : ℕ → ℕ → ℕ → ℕ
until_b f g c = ripple (bit_or f g) g c / 2

-- What the first position of a byte, or of a word, carries out.
unfoldable pub carry_b : ℕ → ℕ → ℕ → ℕ
carry_b f g c = (bit_or f g + g + c) / 256

unfoldable pub carry_w : ℕ → ℕ → ℕ → ℕ
carry_w f g c = (bit_or f g + g + c) / 2 ^ 32

-- Behind n positions the first row is made all true and the second all false, so that these positions only pass the carry on.
pub record Padded (n row : ℕ) (s r : List ℕ) : Type 0 where
  pub first : (p : ℕ) → p < n → bit_at r p ≡ bit_at s p
  pub second : (p : ℕ) → p < n → bit_at (drop row r) p ≡ bit_at (drop row s) p
  pub behind : (p : ℕ) → n ≤ p → p < 8 * row → (bit_at r p ≡ true) × (bit_at (drop row r) p ≡ false)

-- The highest c digits of x are f at c positions from p on.
unfoldable pub Packs : (ℕ → Bool) → ℕ → ℕ → ℕ → Type 0
Packs f p c x = (q : ℕ) → q < c → bit_b x (7 - q) ≡ f (p + q)

-- Four bytes from i on as one number, the first of them the highest; and a number's four bytes put there.
unfoldable pub word_at : List ℕ → ℕ → ℕ
word_at s i = get_or s i 0 * 2 ^ 24 + (get_or s (i + 1) 0 * 2 ^ 16 + (get_or s (i + 2) 0 * 2 ^ 8 + get_or s (i + 3) 0))

unfoldable pub put_word : List ℕ → ℕ → ℕ → List ℕ
put_word s i x = set (set (set (set s (i + 3) (x % 256)) (i + 2) (x / 2 ^ 8 % 256)) (i + 1) (x / 2 ^ 16 % 256)) i (x / 2 ^ 24 % 256)

-- One step down of a walk, of 32 positions.
pub record Stepped (row i c : ℕ) (s r : List ℕ) (d : ℕ) : Type 0 where
  pub row_is : r ≡ put_word s i (until_b (word_at s i) (word_at s (row + i)) c)
  pub carry_is : d ≡ carry_w (word_at s i) (word_at s (row + i)) c
