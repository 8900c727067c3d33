-- Both sources say at each place what their code says there: what the trait asks of a source.
-- Assumes nothing.
use Rattle.std.specs.Prelude.{◌≡◌, ℕ, ◌+◌, ◌≤◌, ◌<◌, Bool, true, false, List, length, get_or, ltb}
use Rattle.std.specs.Prelude.{Ok, Err}
use mathlib.Core.Path.{refl}
use native.Mathlib.Omega.{arith}
use mathlib.Core.Logic.{inl}
use lib.ListN.{drop_of_length-le}
use borrow.Author.Tests.{ltb-true, ltb-false}
use Rattle.coding.specs.Refusal.{NumberRead, value_then, refused_at}
use Rattle.coding.specs.Number.{number_at, pick}
use Rattle.coding.specs.Code.{Turn, Turns, number_in, numbers_from, places_of_bytes, places_of_numbers}
use Rattle.coding.specs.declared.Cause.TheVariants.{CutShort}
use Rattle.coding.specs.Working.Rows.{drop_at}
use Rattle.coding.specs.Working.Rows.{Row, row}

of_code : (s : List ℕ) (p : ℕ) (r : NumberRead) → Row s p r → Turn (places_of_bytes s) p r
of_code s p (Ok num) r = r
of_code s p (Err why) r = r

pub bytes_turn : (s : List ℕ) → Turns (places_of_bytes s)
bytes_turn s p = of_code s p (number_at s p) (row s p)

pub numbers_turn : (xs : List ℕ) → Turns (places_of_numbers xs)
unfolding numbers_from number_in
numbers_turn xs p = go (ltb p (length xs)) refl
  where
    go : (b : Bool) → ltb p (length xs) ≡ b → Turn (places_of_numbers xs) p (pick b (value_then (get_or xs p 0) (p + 1)) (refused_at CutShort p))
    go true e = let h : p < length xs = ltb-true _ _ e in (rw (drop_at xs p h), omega arith, omega arith)
    go false e = let h : length xs ≤ p = ltb-false _ _ e in (refl, inl (h, refl, rw (drop_of_length-le xs h)))
