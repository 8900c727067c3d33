-- The row of numbers that a code's bytes are, a number at a time.
-- Assumes nothing.
use Prim.Native.Nat.{ℕ, zero, suc, ◌+◌, ◌-◌, ◌≤◌, ◌<◌}
use native.Mathlib.Numerals.{add-one}
use native.Mathlib.Omega.{arith}
use native.Mathlib.Nat.{le_refl}
use mathlib.Core.Path.{◌≡◌, refl, ◌∙◌, ap}
use mathlib.Core.Logic.{◌⊎◌, inl, inr, ⊎_elim}
use mathlib.Core.List.{List, [], ◌∷◌, ◌++◌}
use mathlib.Core.Bool.{Bool, true, false}
use lib.ListN.{length, get_or, drop, length-drop, drop_of_length-le}
use lib.Seq.{drop-drop, drop-cons}
use lib.Dec.{ltb, eqb}
use Rattle.std.specs.Prelude.{Ok, Err}
use Rattle.coding.specs.Refusal.{NumberRead, value_then, refused_at}
use Rattle.coding.specs.Number.{first, second, third, pick, Begin, number, none, number_at, placed, bytes_of}
use Rattle.coding.specs.Code.{item, end, broken, item_or, code_from, code_at, values, bytes_of_all}
use Rattle.coding.specs.declared.Cause.{Cause}
use Rattle.coding.specs.declared.Cause.TheVariants.{CutShort}

pub drop_at : (s : List ℕ) (i : ℕ) → i < length s → drop i s ≡ get_or s i 0 ∷ drop (i + 1) s
drop_at s i h = rw (add-one, drop-cons s i 0)

-- a number takes a byte at least, and none that is not there
abbrev pub Taken : ℕ → Begin → Type 0
Taken n (number v k) = (1 ≤ k) × (k ≤ n)
Taken n (none cause) = Unit {0}

by_test : (n : ℕ) (p : Bool) (x y : Begin) → Taken n x → Taken n y → Taken n (pick p x y)
by_test n true x y f g = f
by_test n false x y f g = g

pub taken : (s : List ℕ) → Taken (length s) (first s)
taken [] = tt
taken (a ∷ s) = by_test _ (ltb a 128) _ _ (omega arith) (two s)
  where
    three : (x : ℕ) (b : ℕ) (r : List ℕ) → Taken (length (a ∷ b ∷ r)) (third x r)
    three x b [] = tt
    three x b (c ∷ r) = by_test _ (eqb c 0) _ _ tt (by_test _ (ltb 3 c) _ _ tt (omega arith))

    two : (r : List ℕ) → Taken (length (a ∷ r)) (second (a - 128) r)
    two [] = tt
    two (b ∷ r) = by_test _ (eqb b 0) _ _ tt (by_test _ (ltb b 128) _ _ (omega arith) (three _ b r))

-- the bound does not matter where it is large enough
enough : (f g p : ℕ) (s : List ℕ) → length s ≤ f → length s ≤ g → code_from f p s ≡ code_from g p s
enough zero zero p s h i = refl
enough zero (suc g) p [] h i = refl
enough zero (suc g) p (b ∷ s) h i = absurd (omega arith)
enough (suc f) zero p [] h i = refl
enough (suc f) zero p (b ∷ s) h i = absurd (omega arith)
enough (suc f) (suc g) p [] h i = refl
enough (suc f) (suc g) p (b ∷ s) h i = go (first (b ∷ s)) (taken (b ∷ s)) (λ k l. enough f g (p + k) (drop k (b ∷ s)) (shorter f k l h) (shorter g k l i))
  where
    shorter : (m k : ℕ) → (1 ≤ k) × (k ≤ length (b ∷ s)) → length (b ∷ s) ≤ suc m → length (drop k (b ∷ s)) ≤ m
    shorter m k l h = simp length-drop (omega arith)

    go : (m : Begin) → Taken (length (b ∷ s)) m →
        ((k : ℕ) → (1 ≤ k) × (k ≤ length (b ∷ s)) → code_from f (p + k) (drop k (b ∷ s)) ≡ code_from g (p + k) (drop k (b ∷ s))) →
        item_or p m (λ k. code_from f (p + k) (drop k (b ∷ s))) ≡ item_or p m (λ k. code_from g (p + k) (drop k (b ∷ s)))
    go (number v k) l same = ap (item p v) (same k l)
    go (none cause) l same = refl

-- a number at a place of a code is the row's next item, and where there is none the row ends
-- where no number stands: nothing is left there, or what is left is none
abbrev pub Stops : List ℕ → ℕ → Cause → Type 0
Stops s p cause = ((length s ≤ p) × (cause ≡ CutShort) × (code_at s p ≡ end p)) ⊎ ((p < length s) × (code_at s p ≡ broken cause p))

abbrev OfNum : List ℕ → ℕ → Begin → Type 0
OfNum s p (number v k) = (code_at s p ≡ item p v (code_at s (p + k))) × (1 ≤ k) × (k ≤ length (drop p s))
OfNum s p (none cause) = Stops s p cause

abbrev pub Row : List ℕ → ℕ → NumberRead → Type 0
Row s p (Ok num) = (code_at s p ≡ item p num.value (code_at s num.next)) × (p < num.next) × (num.next ≤ length s)
Row s p (Err why) = (why.place ≡ p) × Stops s p why.cause

module _ (s : List ℕ) (p : ℕ) where
  code_nil : drop p s ≡ [] → code_at s p ≡ end p
  unfolding code_at
  code_nil e = rw e

  module _ (b : ℕ) (t : List ℕ) (e : drop p s ≡ b ∷ t) where
    code_cons : code_at s p ≡ item_or p (first (b ∷ t)) (λ k. code_from (length t) (p + k) (drop k (b ∷ t)))
    unfolding code_at
    code_cons = rw e

    again : (k : ℕ) → (1 ≤ k) × (k ≤ length (b ∷ t)) → code_from (length t) (p + k) (drop k (b ∷ t)) ≡ code_at s (p + k)
    unfolding code_at
    again k l =
        rw (← drop-drop k p s, e)
        (enough (length t) (length (drop k (b ∷ t))) (p + k) (drop k (b ∷ t)) (simp length-drop (omega arith)) (le_refl _))

    at_num : (m : Begin) → first (b ∷ t) ≡ m → Taken (length (b ∷ t)) m → OfNum s p m
    at_num (number v k) q l = (rw q at code_cons ∙ ap (item p v) (again k l), l.0, rw e l.1)
    at_num (none cause) q l = inr (omega (arith, simp length-drop at (ap length e)), rw q at code_cons)

  at_list : (t : List ℕ) → drop p s ≡ t → OfNum s p (first t)
  at_list [] e = inl (omega (arith, simp length-drop at (ap length e)), refl, code_nil e)
  at_list (b ∷ t) e = at_num b t e (first (b ∷ t)) refl (taken (b ∷ t))

  by_num : (m : Begin) → OfNum s p m → Row s p (placed p m)
  by_num (number v k) o = (o.0, omega arith, omega (arith, simp length-drop at o.2))
  by_num (none cause) o = (refl, o)

  pub row : Row s p (number_at s p)
  unfolding number_at
  row = by_num (first (drop p s)) (at_list (drop p s) refl)

-- ---- what a loop over a code's numbers goes by
module _ (s : List ℕ) (p : ℕ) where
  pub next_row : (v n : ℕ) → value_then v n ≡ number_at s p → (code_at s p ≡ item p v (code_at s n)) × (p < n) × (n ≤ length s)
  next_row v n e = rw (← e) at (row s p)

  pub no_values : (cause : Cause) (q : ℕ) → refused_at cause q ≡ number_at s p → values (code_at s p) ≡ []
  no_values cause q e =
      let r : Row s p (refused_at cause q) = rw (← e) at (row s p) in
      ⊎_elim (λ o. rw o.2) (λ o. rw o.1) r.1

  pub next_values : (v n : ℕ) → value_then v n ≡ number_at s p → values (code_at s p) ≡ v ∷ values (code_at s n)
  next_values v n e = rw (next_row v n e).0

-- ---- and one over the bytes of a row of numbers
module _ (xs : List ℕ) (i : ℕ) where
  pub bytes_next : i < length xs → bytes_of_all (drop i xs) ≡ bytes_of (get_or xs i 0) ++ bytes_of_all (drop (i + 1) xs)
  bytes_next h = rw (drop_at xs i h)

  pub bytes_none : length xs ≤ i → bytes_of_all (drop i xs) ≡ []
  bytes_none h = rw (drop_of_length-le xs h)
