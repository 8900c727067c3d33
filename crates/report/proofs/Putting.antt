-- Bytes put after one another: words, digits and lines.
-- Assumes nothing.
use Prim.Native.Nat.{ℕ, zero, suc, ◌+◌, ◌-◌, ◌/◌, ◌%◌, ◌^◌, ◌≤◌, ◌<◌}
use native.Mathlib.Omega.{arith}
use mathlib.Core.Path.{◌≡◌, refl, sym, ◌∙◌}
use mathlib.Core.List.{List, [], ◌∷◌, ◌++◌}
use mathlib.Core.Bool.{Bool, true, false}
use lib.ListN.{length, length-append}
use lib.Dec.{ltb}
use borrow.Author.Tests.{lt-ltb, le-ltb}
use Rattle.coding.specs.Number.{pick}
use Rattle.coding.proofs.Bytes.{over_nil, over_append}
use Rattle.report.specs.Lines.{digits, decimal, line_feed, at_line, refused_line, positions_line, count_line}
use Rattle.report.specs.Placing.{Puts}
use Rattle.report.specs.declared.lines.Lines.{Lines}
use Rattle.std.specs.Fmt as text
use Rattle.std.proofs.lemmas.Fmt.{AppendsLastDigit, decimal_from_appends, length-decimal-le}

-- ---- one text after another
pub puts_none : (a : Lines) → Puts [] a a
puts_none a = record { place = omega arith; bytes = sym (over_nil a.out.now a.at); same = refl }

pub puts_both : (xs ys : List ℕ) (a b c : Lines) → Puts xs a b → Puts ys b c → Puts (xs ++ ys) a c
puts_both xs ys a b c p q = record {
  place = rw (q.place, p.place, length-append) (omega arith);
  bytes = rw (q.bytes, p.bytes, p.place, over_append a.out.now a.at xs ys);
  same = q.same ∙ p.same;
}

pub puts_same : (xs ys : List ℕ) (a b : Lines) → xs ≡ ys → Puts xs a b → Puts ys a b
puts_same xs ys a b e p = rw (← e) p

-- ---- the digits of a number
pub digits_most : (k n : ℕ) → length (digits k n) ≤ k
unfolding digits
digits_most zero n = omega arith
digits_most (suc k) n = go (ltb n 10) (digits_most k (n / 10))
  where
    go : (t : Bool) → length (digits k (n / 10)) ≤ k → length (pick t ((48 + n) ∷ []) (digits k (n / 10) ++ ((48 + n % 10) ∷ []))) ≤ suc k
    go true h = omega arith
    go false h = rw length-append (omega arith)

pub digits_one : (k n : ℕ) → 0 < k → n < 10 → digits k n ≡ (48 + n) ∷ []
unfolding digits
digits_one zero n h l = absurd (omega arith)
digits_one (suc k) n h l = rw (lt-ltb _ _ l)

pub digits_more : (k n : ℕ) → 0 < k → 10 ≤ n → digits k n ≡ digits (k - 1) (n / 10) ++ ((48 + n % 10) ∷ [])
unfolding digits
digits_more zero n h l = absurd (omega arith)
digits_more (suc k) n h l = let one : suc k - 1 ≡ k = omega arith in rw (le-ltb _ _ l, one)

by_last_digit : AppendsLastDigit digits
by_last_digit = record {
  one = λ k n h. digits_one (suc k) n (omega arith) h;
  more = λ k n h. let less : suc k - 1 ≡ k = omega arith in rw less at (digits_more (suc k) n (omega arith) h);
}

-- The library prints these digits.
pub decimal_printed : (n : ℕ) → n < 2 ^ 64 → text.decimal n ≡ decimal n
decimal_printed n h =
    let most = length-decimal-le 20 n (omega arith) (omega arith) h in
    sym (decimal_from_appends digits by_last_digit 20 n h most)

-- ---- the lines, each put word after word
module _ (a b c d : Lines) (n : ℕ) where
  pub at_puts : Puts (97 ∷ 116 ∷ 32 ∷ []) a b → Puts (decimal n) b c → Puts line_feed c d → Puts (at_line n) a d
  unfolding at_line
  at_puts p q r = puts_both _ _ _ _ _ p (puts_both _ _ _ _ _ q r)

  pub count_puts : Puts (102 ∷ 97 ∷ 105 ∷ 108 ∷ 115 ∷ 32 ∷ []) a b → Puts (decimal n) b c → Puts line_feed c d →
      Puts (count_line n) a d
  unfolding count_line
  count_puts p q r = puts_both _ _ _ _ _ p (puts_both _ _ _ _ _ q r)

  pub refused_puts : (k : ℕ) (e : Lines) → Puts (114 ∷ 101 ∷ 102 ∷ 117 ∷ 115 ∷ 101 ∷ 100 ∷ 32 ∷ []) a b →
      Puts (decimal k) b c → Puts (32 ∷ []) c d → Puts (at_line n) d e → Puts (refused_line k n) a e
  unfolding refused_line
  refused_puts k e p q r s = puts_both _ _ _ _ _ p (puts_both _ _ _ _ _ q (puts_both _ _ _ _ _ r s))

  pub positions_puts : (start : ℕ) (e f : Lines) →
      Puts (112 ∷ 111 ∷ 115 ∷ 105 ∷ 116 ∷ 105 ∷ 111 ∷ 110 ∷ 115 ∷ 32 ∷ []) a b → Puts (decimal n) b c →
      Puts (32 ∷ 108 ∷ 111 ∷ 111 ∷ 112 ∷ 32 ∷ []) c d → Puts (decimal start) d e → Puts line_feed e f →
      Puts (positions_line n start) a f
  unfolding positions_line
  positions_puts start e f p q r s t =
      puts_both _ _ _ _ _ p (puts_both _ _ _ _ _ q (puts_both _ _ _ _ _ r (puts_both _ _ _ _ _ s t)))

-- ---- four texts, one after another
pub four_puts : (ws xs ys zs : List ℕ) (a b c d e : Lines) → Puts ws a b → Puts xs b c → Puts ys c d →
    Puts zs d e → Puts (ws ++ (xs ++ (ys ++ zs))) a e
four_puts ws xs ys zs a b c d e p q r s = puts_both _ _ _ _ _ p (puts_both _ _ _ _ _ q (puts_both _ _ _ _ _ r s))
