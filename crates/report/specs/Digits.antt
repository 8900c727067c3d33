-- What a row of decimal digits says: the number that a reader of the printed text takes it for.
-- Assumes nothing: these are definitions.
use Rattle.std.specs.Prelude.{ℕ, ◌+◌, ◌-◌, ◌*◌, ◌≤◌, ◌≡◌, List, [], ◌∷◌, length, get_or}

-- Digit characters, the highest first, where those before them come to a number: each makes ten of what was there and
-- adds its own value.
unfoldable pub denoted_from : ℕ → List ℕ → ℕ
denoted_from sofar [] = sofar
denoted_from sofar (c ∷ cs) = denoted_from (sofar * 10 + (c - 48)) cs

abbrev pub denoted : List ℕ → ℕ
denoted text = denoted_from 0 text

-- Every element is a character from '0' to '9'.
unfoldable pub DigitsOnly : List ℕ → Type 0
DigitsOnly [] = Unit {0}
DigitsOnly (c ∷ cs) = ((48 ≤ c) × (c ≤ 57)) × DigitsOnly cs

-- The text is a number as one writes it: digits, at least one, that denote it, and no '0' in front unless that is the
-- one digit.
pub record Spells (n : ℕ) (text : List ℕ) : Type 0 where
  pub digits_only : DigitsOnly text
  pub some : 1 ≤ length text
  pub denotes : denoted text ≡ n
  pub no_zero_first : get_or text 0 0 ≡ 48 → length text ≡ 1
