-- Document 01, Coding: "A number is 0 to 65,535, in groups of seven bits, low group first, high bit set on all but the last, shortest form only."
-- Assumes nothing: these are definitions.
use Rattle.std.specs.Prelude.{ℕ, ◌+◌, ◌-◌, ◌*◌, ◌/◌, ◌%◌, List, [], ◌∷◌, Bool, true, false, drop, ltb, eqb}
use Rattle.coding.specs.declared.Cause.{Cause}
use Rattle.coding.specs.declared.Cause.TheVariants.{CutShort, NotShortest, TooLarge}
use Rattle.coding.specs.Refusal.{NumberRead, value_then, refused_at}

abbrev pub pick {ℓ} : {A : Type ℓ} → Bool → A → A → A
pick true a b = a
pick false a b = b

-- The bytes of a number.
unfoldable pub bytes_of : ℕ → List ℕ
bytes_of v =
    pick (ltb v 128) (v ∷ [])
    (pick (ltb v 16384) ((v % 128 + 128) ∷ v / 128 ∷ [])
    ((v % 128 + 128) ∷ (v / 128 % 128 + 128) ∷ v / 16384 ∷ []))

-- What a list of bytes begins with: a number and how many bytes it takes, or why there is none.
pub data Begin : Type 0 where
  number : ℕ → ℕ → Begin
  none : Cause → Begin

-- The third byte, where the first two give x: "a third byte above 03 is too large", and 00 is not the shortest form.
abbrev pub third : ℕ → List ℕ → Begin
third x [] = none CutShort
third x (c ∷ rest) = pick (eqb c 0) (none NotShortest) (pick (ltb 3 c) (none TooLarge) (number (x + c * 16384) 3))

-- The second byte, where the first gives x: 00 is not the shortest form, and below 128 it is the last.
abbrev pub second : ℕ → List ℕ → Begin
second x [] = none CutShort
second x (b ∷ rest) = pick (eqb b 0) (none NotShortest) (pick (ltb b 128) (number (x + b * 128) 2) (third (x + (b - 128) * 128) rest))

abbrev pub first : List ℕ → Begin
first [] = none CutShort
first (a ∷ rest) = pick (ltb a 128) (number a 1) (second (a - 128) rest)

-- The number at a place of the bytes s. "a number's fault stands at its first byte", and a missing number where it should begin.
abbrev pub placed : ℕ → Begin → NumberRead
placed at (number v k) = value_then v (at + k)
placed at (none cause) = refused_at cause at

unfoldable pub number_at : List ℕ → ℕ → NumberRead
number_at s at = placed at (first (drop at s))
