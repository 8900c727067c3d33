-- Why the numbers of a code are refused: every fault of a number is refusal 1.
-- Assumes nothing.
use Prim.Native.Nat.{ℕ, zero, suc, ◌+◌, ◌-◌}
use mathlib.Core.Path.{◌≡◌, refl}
use mathlib.Core.Bool.{Bool, true, false}
use mathlib.Core.List.{List, [], ◌∷◌}
use lib.ListN.{length, drop}
use lib.Dec.{ltb, eqb}
use Rattle.std.specs.Prelude.{Ok, Err}
use Rattle.coding.specs.Refusal.{NumberRead}
use Rattle.coding.specs.Number.{pick, Begin, number, none, first, second, third, placed, number_at}
use Rattle.coding.specs.Code.{Code, item, end, broken, item_or, code_from, code_at}
use Rattle.coding.specs.Refusal.{number_of}

-- Where there is a fault, it is refusal 1: of what bytes begin with, of the number at a place, of a whole code.
abbrev OneBegin : Begin → Type 0
OneBegin (number v k) = Unit {0}
OneBegin (none cause) = number_of cause ≡ 1

abbrev pub OneNumber : NumberRead → Type 0
OneNumber (Ok num) = Unit {0}
OneNumber (Err why) = number_of why.cause ≡ 1

abbrev pub OneCode : Code → Type 0
OneCode (item p v c) = OneCode c
OneCode (end p) = Unit {0}
OneCode (broken cause p) = number_of cause ≡ 1

-- What is true of both answers of a test is true of the one that it picks.
pub by_test : {A : Type 0} (P : A → Type 0) (t : Bool) (x y : A) → P x → P y → P (pick t x y)
by_test P true x y p q = p
by_test P false x y p q = q

first_one : (s : List ℕ) → OneBegin (first s)
first_one [] = refl
first_one (a ∷ s) = by_test OneBegin (ltb a 128) _ _ tt (two_bytes s)
  where
    three_bytes : (x : ℕ) (r : List ℕ) → OneBegin (third x r)
    three_bytes x [] = refl
    three_bytes x (c ∷ r) = by_test OneBegin (eqb c 0) _ _ refl (by_test OneBegin (ltb 3 c) _ _ refl tt)

    two_bytes : (r : List ℕ) → OneBegin (second (a - 128) r)
    two_bytes [] = refl
    two_bytes (b ∷ r) = by_test OneBegin (eqb b 0) _ _ refl (by_test OneBegin (ltb b 128) _ _ tt (three_bytes _ r))

pub number_one : (s : List ℕ) (p : ℕ) → OneNumber (number_at s p)
unfolding number_at
number_one s p = go (first (drop p s)) (first_one (drop p s))
  where
    go : (m : Begin) → OneBegin m → OneNumber (placed p m)
    go (number v k) o = tt
    go (none cause) o = o

from_one : (fuel p : ℕ) (s : List ℕ) → OneCode (code_from fuel p s)
from_one zero p s = tt
from_one (suc fuel) p [] = tt
from_one (suc fuel) p (b ∷ s) = go (first (b ∷ s)) (first_one (b ∷ s)) (λ k. from_one fuel (p + k) (drop k (b ∷ s)))
  where
    go : (m : Begin) → OneBegin m → ((k : ℕ) → OneCode (code_from fuel (p + k) (drop k (b ∷ s)))) →
        OneCode (item_or p m (λ k. code_from fuel (p + k) (drop k (b ∷ s))))
    go (number v k) o rest = rest k
    go (none cause) o rest = o

-- So of any bytes, from any place on.
pub code_one : (s : List ℕ) (p : ℕ) → OneCode (code_at s p)
unfolding code_at
code_one s p = from_one (length (drop p s)) p (drop p s)
