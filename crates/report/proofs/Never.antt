-- The line of a refusal tells its number and its place, and is no answer: so the program never prints a refusal by 9,
-- 10 or 11.
-- Assumes nothing.
use Prim.Native.Nat.{ℕ, ◌^◌, ◌≤◌, ◌<◌}
use native.Mathlib.Omega.{arith}
use mathlib.Core.Path.{◌≡◌, refl, sym, ap, ◌∙◌}
use mathlib.Core.Bool.{Bool}
use mathlib.Core.List.{List, [], ◌∷◌, ◌++◌}
use lib.ListN.{get_or, drop}
use Rattle.coding.specs.Refusal.{number_of}
use Rattle.report.specs.Framing.{framing_of}
use Rattle.report.specs.Lines.{decimal, at_line, refused_line, positions_line, answer_lines}
use Rattle.report.specs.Digits.{DigitsOnly}
use Rattle.report.specs.Reporting.{Reports}
use Rattle.report.specs.Printed.{Printed, refused, answered}
use Rattle.report.proofs.Digits.{decimal_spells, one_number}
use Rattle.report.proofs.Printed.{printed}

-- ---- digits end at the first character that is no digit
digits_end : (c : ℕ) → c < 48 → (xs ys r t : List ℕ) → DigitsOnly xs → DigitsOnly ys → xs ++ (c ∷ r) ≡ ys ++ (c ∷ t) →
    (xs ≡ ys) × (r ≡ t)
unfolding DigitsOnly
digits_end c h [] [] r t a b e = (refl, ap (drop 1) e)
digits_end c h [] (y ∷ ys) r t a b e = absurd (omega (arith, ap (λ (l : List ℕ). get_or l 0 0) e, b.0.0))
digits_end c h (x ∷ xs) [] r t a b e = absurd (omega (arith, ap (λ (l : List ℕ). get_or l 0 0) e, a.0.0))
digits_end c h (x ∷ xs) (y ∷ ys) r t a b e =
    let first : x ≡ y = ap (λ (l : List ℕ). get_or l 0 0) e in
    let (same, rest) = digits_end c h xs ys r t a.1 b.1 (ap (drop 1) e) in
    (rw (first, same), rest)

module _ (n m : ℕ) (small : n < 10 ^ 20) (small' : m < 10 ^ 20) (c : ℕ) (sign : c < 48) (r t : List ℕ) where
  number_end : decimal n ++ (c ∷ r) ≡ decimal m ++ (c ∷ t) → (n ≡ m) × (r ≡ t)
  number_end e =
      let (same, rest) =
      digits_end c sign (decimal n) (decimal m) r t (decimal_spells n small).digits_only (decimal_spells m small').digits_only e in
      (one_number n m small small' same, rest)

-- The line of a refusal has one number and one place.
pub one_refusal : (n m p q : ℕ) → n < 10 ^ 20 → m < 10 ^ 20 → p < 10 ^ 20 → q < 10 ^ 20 →
    refused_line n p ≡ refused_line m q →
    (n ≡ m) × (p ≡ q)
unfolding refused_line at_line
one_refusal n m p q ln lm lp lq e =
    let (number, rest) = number_end n m ln lm 32 (omega arith) (at_line p) (at_line q) (ap (drop 8) e) in
    let (place, _) = number_end p q lp lq 10 (omega arith) [] [] (ap (drop 3) rest) in
    (number, place)

-- Its number alone, whatever the places.
pub one_refusal_number : (n m p q : ℕ) → n < 10 ^ 20 → m < 10 ^ 20 → refused_line n p ≡ refused_line m q → n ≡ m
unfolding refused_line
one_refusal_number n m p q ln lm e = (number_end n m ln lm 32 (omega arith) (at_line p) (at_line q) (ap (drop 8) e)).0

-- `refused` and `positions` begin with other letters.
refusal_first : (n p : ℕ) → get_or (refused_line n p) 0 0 ≡ 114
unfolding refused_line
refusal_first n p = refl

answer_first : (n start : ℕ) (holds : Bool) (found : List ℕ) → get_or (answer_lines n start holds found) 0 0 ≡ 112
unfolding answer_lines positions_line
answer_first n start holds found = refl

-- 9, 10 and 11, and any number above.
pub never_printed : (s text : List ℕ) → Reports s (framing_of s) text → (n p : ℕ) → 9 ≤ n → n < 10 ^ 20 →
    ¬ (text ≡ refused_line n p)
never_printed s text r n p high small e = go (printed s text r)
  where
    go : Printed s text → ⊥
    go (refused cause place some most lines) =
        omega (arith, one_refusal_number n (number_of cause) p place small (omega arith) (sym e ∙ lines))
    go (answered x a) =
        let first : get_or text 0 0 ≡ 112 = ap (λ (l : List ℕ). get_or l 0 0) a.lines ∙ answer_first _ _ _ _ in
        let other : get_or text 0 0 ≡ 114 = ap (λ (l : List ℕ). get_or l 0 0) e ∙ refusal_first n p in
        omega arith
