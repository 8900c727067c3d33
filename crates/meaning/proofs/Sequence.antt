-- The sequence of the moments of one phase, proved once over the phase. Assumes nothing.
use Prim.Native.Nat.{ℕ, suc, zero, ◌≤◌, ◌<◌, ◌+◌, ◌-◌}
use native.Mathlib.Omega.{arith}
use native.Mathlib.Nat.{eq-or-lt_of_le, le_of_suc-le-suc}
use mathlib.Core.Logic.{⊎_elim}
use mathlib.Core.Path.{◌≡◌, refl, subst}
use Rattle.requirement.specs.declared.Phase.{Phase}
use Rattle.meaning.specs.Phases.{Phase-discrete}
use Rattle.meaning.specs.Meaning.{Run, First, Nth, head, tail}

module _ {r : Run} {p : Phase} where
  pub first_unique : {n a b : ℕ} → First r p n a → First r p n b → a ≡ b
  first_unique {a = a} {b = b} f g =
      let u : ¬ (a < b) = λ h. g.none a f.from h f.there in
      let v : ¬ (b < a) = λ h. f.none b g.from h g.there in
      omega arith

  -- A moment of another phase may be put before.
  first_back : {n m : ℕ} → ¬ (r.phase n ≡ p) → First r p (suc n) m → First r p n m
  first_back {n} not_n f =
      record {
        from = omega (arith, f.from);
        there = f.there;
        none = λ j h l. ⊎_elim (λ (e : n ≡ j). rw (← e) not_n) (λ (k : n < j). f.none j k l) (eq-or-lt_of_le h);
      }

  nth_back : {n k m : ℕ} → ¬ (r.phase n ≡ p) → Nth r p (suc n) k m → Nth r p n k m
  nth_back not_n (head f) = head (first_back not_n f)
  nth_back not_n (tail f x) = tail (first_back not_n f) x

  -- What the sequence has lies at or after its start and has the phase.
  pub nth_from : {n k m : ℕ} → Nth r p n k m → n ≤ m
  nth_from (head f) = f.from
  nth_from (tail f x) = omega (arith, nth_from x)

  pub nth_there : {n k m : ℕ} → Nth r p n k m → r.phase m ≡ p
  nth_there (head f) = f.there
  nth_there (tail f x) = nth_there x

  -- And it has every such moment.
  first_here : {n m : ℕ} → n ≡ m → r.phase m ≡ p → First r p n m
  first_here e h = record { from = omega arith; there = h; none = λ j a b c. omega arith }

  one_more : {n m : ℕ} → Dec (r.phase n ≡ p) → (k : ℕ) × Nth r p (suc n) k m → (k : ℕ) × Nth r p n k m
  one_more (yes h) x = (suc x.0, tail (first_here refl h) x.1)
  one_more (no h) x = (x.0, nth_back h x.1)

  has : (d n m : ℕ) → n + d ≡ m → r.phase m ≡ p → (k : ℕ) × Nth r p n k m
  has zero n m e h = let q : n ≡ m = omega arith in (0, head (first_here q h))
  has (suc d) n m e h = one_more (Phase-discrete (r.phase n) p) (has d (suc n) m (omega arith) h)

  pub nth_has : {n m : ℕ} → n ≤ m → r.phase m ≡ p → (k : ℕ) × Nth r p n k m
  nth_has {n} {m} l h = has (m - n) n m (omega arith) h

  -- It ascends.
  pub nth_mono : {i k n l m : ℕ} → i < k → Nth r p n i l → Nth r p n k m → l < m
  nth_mono h (head a) (head b) = omega arith
  nth_mono h (head a) (tail b y) = omega (arith, first_unique a b, nth_from y)
  nth_mono h (tail a x) (head b) = omega arith
  nth_mono h (tail a x) (tail {k = k} {m = m} b y) =
      nth_mono (le_of_suc-le-suc h) x (subst (λ (z : ℕ). Nth r p (suc z) k m) (first_unique b a) y)

  nth_unique : {k n l m : ℕ} → Nth r p n k l → Nth r p n k m → l ≡ m
  nth_unique (head a) (head b) = first_unique a b
  nth_unique (tail a x) (tail {k = k} {m = m} b y) =
      nth_unique x (subst (λ (z : ℕ). Nth r p (suc z) k m) (first_unique b a) y)

  -- So an earlier one has a smaller number.
  pub nth_less : {i k n l m : ℕ} → l < m → Nth r p n i l → Nth r p n k m → i < k
  nth_less {i} {k} {n} {l} {m} h x y =
      let a : ¬ (k < i) = λ c. omega (arith, nth_mono c y x) in
      let b : ¬ (i ≡ k) = λ e. omega (arith, nth_unique (subst (λ (z : ℕ). Nth r p n z l) e x) y) in
      omega arith

  pub nth_first : {k n m : ℕ} → Nth r p n k m → (l : ℕ) × First r p n l
  nth_first (head f) = (_, f)
  nth_first (tail f x) = (_, f)
