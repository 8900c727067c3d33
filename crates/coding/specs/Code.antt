-- A code as a row of numbers, each with its place: what every check goes over, whether it reads bytes (a place is a byte) or is handed numbers (a place is an index).
-- Assumes nothing: these are definitions.
use Rattle.std.specs.Prelude.{◌≡◌, ℕ, zero, suc, ◌+◌, ◌≤◌, ◌<◌, ◌⊎◌, List, [], ◌∷◌, ◌++◌, length, drop, get_or, ltb}
use Rattle.coding.specs.Number.{Begin, number, none, first, bytes_of, pick, number_at}
use Rattle.coding.specs.declared.Cause.{Cause}
use Rattle.coding.specs.declared.Cause.TheVariants.{CutShort}
use Rattle.std.specs.Prelude.{Ok, Err}
use Rattle.coding.specs.Refusal.{NumberRead, value_then, refused_at}

pub data Code : Type 0 where
  -- a number at a place, and what follows
  item : ℕ → ℕ → Code → Code
  -- nothing is left at this place
  end : ℕ → Code
  -- something is left at this place, and it is no number
  broken : Cause → ℕ → Code

abbrev pub item_or : ℕ → Begin → (ℕ → Code) → Code
item_or p (number v k) rest = item p v (rest k)
item_or p (none cause) rest = broken cause p

-- The number that the bytes begin with, and the rest, which takes up after so many bytes.
abbrev pub first_item : ℕ → List ℕ → (ℕ → Code) → Code
first_item p [] rest = end p
first_item p (b ∷ s) rest = item_or p (first (b ∷ s)) rest

-- The bytes s, the first of which is at place p. A number takes a byte at least, so that `fuel` bounds how many there are.
abbrev pub code_from : ℕ → ℕ → List ℕ → Code
code_from zero p s = end p
code_from (suc fuel) p s = first_item p s (λ k. code_from fuel (p + k) (drop k s))

-- The bytes of s from place p on.
unfoldable pub code_at : List ℕ → ℕ → Code
code_at s p = code_from (length (drop p s)) p (drop p s)

-- "The writer takes .. 16-bit numbers in this order": a number's place is "the number's index".
abbrev pub numbered : ℕ → List ℕ → Code
numbered i [] = end i
numbered i (v ∷ vs) = item i v (numbered (i + 1) vs)

-- The numbers of a code, up to its first fault.
abbrev pub values : Code → List ℕ
values (item p v c) = v ∷ values c
values (end p) = []
values (broken cause p) = []

-- The bytes of a row of numbers.
abbrev pub bytes_of_all : List ℕ → List ℕ
bytes_of_all [] = []
bytes_of_all (v ∷ vs) = bytes_of v ++ bytes_of_all vs

-- A source of numbers, for a check that is written once for bytes and for numbers: the code from each place on, how many places there are, and the number at each.
pub record Places : Type 0 where
  pub code : ℕ → Code
  pub size : ℕ
  pub number : ℕ → NumberRead

-- The bytes s: a place is a byte.
abbrev pub places_of_bytes : List ℕ → Places
places_of_bytes s = record { code = code_at s; size = length s; number = number_at s }

-- The number at an index of the numbers xs.
unfoldable pub number_in : List ℕ → ℕ → NumberRead
number_in xs at = pick (ltb at (length xs)) (value_then (get_or xs at 0) (at + 1)) (refused_at CutShort at)

-- The numbers xs: a place is an index.
unfoldable pub numbers_from : List ℕ → ℕ → Code
numbers_from xs at = numbered at (drop at xs)

abbrev pub places_of_numbers : List ℕ → Places
places_of_numbers xs = record { code = numbers_from xs; size = length xs; number = number_in xs }

-- What the number at a place says of the code there: it is the code's next number, the code goes on at the place after it, and that is a later one; or the
-- code is at its end there, or is broken.
abbrev pub Turn : Places → ℕ → NumberRead → Type 0
Turn source p (Ok num) = (source.code p ≡ item p num.value (source.code num.next)) × (p < num.next) × (num.next ≤ source.size)
Turn source p (Err why) =
    (why.place ≡ p)
    × (((source.size ≤ p) × (why.cause ≡ CutShort) × (source.code p ≡ end p)) ⊎ ((p < source.size) × (source.code p ≡ broken why.cause p)))

abbrev pub Turns : Places → Type 0
Turns source = (p : ℕ) → Turn source p (source.number p)
