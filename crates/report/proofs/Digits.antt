-- The digits that are printed for a number denote it.
-- Assumes nothing.
use Prim.Native.Nat.{ℕ, zero, suc, ◌+◌, ◌-◌, ◌*◌, ◌/◌, ◌%◌, ◌^◌, ◌≤◌, ◌<◌}
use native.Mathlib.Omega.{arith}
use native.Mathlib.Nat.{pow-suc}
use mathlib.Core.Path.{◌≡◌, refl, sym, ◌∙◌, ap}
use mathlib.Core.Bool.{Bool, true, false}
use mathlib.Core.List.{List, [], ◌∷◌, ◌++◌}
use lib.ListN.{length, get_or, length-append}
use lib.Dec.{ltb}
use borrow.Author.Tests.{ltb-true, ltb-false}
use Rattle.report.specs.Lines.{digits, decimal}
use Rattle.report.specs.Digits.{denoted_from, denoted, DigitsOnly, Spells}
use Rattle.report.proofs.Putting.{digits_one, digits_more}

-- ---- one digit more behind a row of digits
denoted_more : (sofar : ℕ) (xs : List ℕ) (c : ℕ) →
    denoted_from sofar (xs ++ (c ∷ [])) ≡ denoted_from sofar xs * 10 + (c - 48)
unfolding denoted_from
denoted_more sofar [] c = refl
denoted_more sofar (x ∷ xs) c = denoted_more (sofar * 10 + (x - 48)) xs c

only_more : (xs : List ℕ) (c : ℕ) → DigitsOnly xs → 48 ≤ c → c ≤ 57 → DigitsOnly (xs ++ (c ∷ []))
unfolding DigitsOnly
only_more [] c h l m = ((l, m), tt)
only_more (x ∷ xs) c h l m = (h.0, only_more xs c h.1 l m)

first_more : (xs : List ℕ) (c : ℕ) → 1 ≤ length xs → get_or (xs ++ (c ∷ [])) 0 0 ≡ get_or xs 0 0
first_more [] c h = absurd (omega arith)
first_more (x ∷ xs) c h = refl

-- the one digit '0' denotes 0
zero_alone : (xs : List ℕ) → length xs ≡ 1 → get_or xs 0 0 ≡ 48 → denoted xs ≡ 0
unfolding denoted_from
zero_alone [] l e = absurd (omega arith)
zero_alone (x ∷ []) l e = omega arith
zero_alone (x ∷ (y ∷ xs)) l e = absurd (omega arith)

module _ (n : ℕ) where
  one_digit : n < 10 → Spells n ((48 + n) ∷ [])
  unfolding denoted_from DigitsOnly
  one_digit h =
      record {
        digits_only = ((omega arith, omega arith), tt);
        some = omega arith;
        denotes = omega arith;
        no_zero_first = λ e. refl;
      }

  more_digits : (xs : List ℕ) → 10 ≤ n → Spells (n / 10) xs → Spells n (xs ++ ((48 + n % 10) ∷ []))
  more_digits xs h s = record {
    digits_only = only_more xs (48 + n % 10) s.digits_only (omega arith) (omega arith);
    some = rw length-append (omega (arith, s.some));
    denotes = rw (denoted_more 0 xs (48 + n % 10), s.denotes) (omega arith);
    no_zero_first = λ e.
        let first : get_or xs 0 0 ≡ 48 = sym (first_more xs (48 + n % 10) s.some) ∙ e in
        absurd (omega (arith, zero_alone xs (s.no_zero_first first) first, s.denotes));
  }

-- ---- a number that so many digits are enough for
pub digits_spell : (k n : ℕ) → n < 10 ^ suc k → Spells n (digits (suc k) n)
digits_spell zero n h = rw (digits_one 1 n (omega arith) (omega arith)) (one_digit n (omega arith))
digits_spell (suc k) n h = go (ltb n 10) refl (λ l. digits_spell k (n / 10) l)
  where
    go : (t : Bool) → ltb n 10 ≡ t → (n / 10 < 10 ^ suc k → Spells (n / 10) (digits (suc k) (n / 10))) →
        Spells n (digits (suc (suc k)) n)
    go true e rest = let l : n < 10 = ltb-true _ _ e in rw (digits_one (suc (suc k)) n (omega arith) l) (one_digit n l)
    go false e rest =
        let l : 10 ≤ n = ltb-false _ _ e in
        let less : suc (suc k) - 1 ≡ suc k = omega arith in
        rw (digits_more (suc (suc k)) n (omega arith) l, less)
        (more_digits n (digits (suc k) (n / 10)) l (rest (omega (arith, pow-suc 10 (suc k)))))

-- What is printed for a number spells it, if it has at most 20 digits; every number of 64 bits has no more.
pub decimal_spells : (n : ℕ) → n < 10 ^ 20 → Spells n (decimal n)
decimal_spells n h = digits_spell 19 n h

pub wide_spells : (n : ℕ) → n < 2 ^ 64 → Spells n (decimal n)
wide_spells n h = decimal_spells n (omega arith)

-- Two numbers with one text are equal.
pub one_number : (n m : ℕ) → n < 10 ^ 20 → m < 10 ^ 20 → decimal n ≡ decimal m → n ≡ m
one_number n m h l e = sym (decimal_spells n h).denotes ∙ ap denoted e ∙ (decimal_spells m l).denotes
