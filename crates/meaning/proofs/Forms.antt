-- Each operator of the e, i and o families is its form in plain operators and marks, for any operands that can be decided; i and o once, over the phase.
-- `often` is asked by the e operators alone. Assumes nothing.
use Prim.Native.Nat.{ℕ, ◌≤◌, ◌<◌}
use native.Mathlib.Omega.{arith}
use mathlib.Core.Logic.{◌↔◌}
use mathlib.Core.Path.{◌≡◌, subst, sym}
use Rattle.requirement.specs.declared.Phase.{Phase}
use Rattle.requirement.specs.declared.End.{End}
use Rattle.requirement.specs.declared.One.{One}
use Rattle.requirement.specs.declared.Two.{Two}
use Rattle.requirement.specs.declared.Phase.TheVariants.{Exe, Output}
use Rattle.requirement.specs.declared.Family.TheVariants.{Plain, Within, Each}
use Rattle.requirement.specs.declared.One.TheVariants.{Not, Next, Ever, Always}
use Rattle.requirement.specs.declared.Two.TheVariants.{And, Until}
use Rattle.meaning.specs.Phases.{phase_of}
use Rattle.meaning.specs.Meaning.{Run, First, Nth, head, tail, NextOf, EverOf, AlwaysOf, UntilOf, Says, Says₂}
use Rattle.meaning.specs.Translation.{Operators, one_to, two_to}
use Rattle.meaning.proofs.Sequence.{nth_from, nth_there, nth_has, nth_mono, nth_less}

-- The plain operators on facts about moments.
abbrev pub meant : Run → Operators (ℕ → Type 0)
meant r =
    record {
      is = λ p n. r.phase n ≡ p;
      neg = λ P n. ¬ P n;
      both = λ P Q n. P n × Q n;
      X = NextOf r Plain;
      F = EverOf r Plain;
      G = AlwaysOf r Plain;
      U = UntilOf r Plain;
    }

pub stable : {A : Type 0} → Dec A → ¬ (¬ A) → A
stable (yes a) h = a
stable (no a) h = absurd (h a)

exe_not_output : {q : Phase} → q ≡ Exe → q ≡ Output → ⊥
exe_not_output {q} e f = let z : ◌≡◌ {A = ℕ} 0 1 = cc in omega arith

-- What lies before every Output of the stretch from n, and is no Output itself, lies below the first.
below_output : {r : Run} {n m o : ℕ} → First r Output n o → r.phase m ≡ Exe → ((j : ℕ) → n ≤ j → j < m → ¬ (r.phase j ≡ Output)) → m < o
below_output {r} {n} {m} {o} f e none =
    let a : ¬ (o < m) = λ h. none o f.from h f.there in
    let b : ¬ (o ≡ m) = λ q. exe_not_output (subst (λ (x : ℕ). r.phase x ≡ Exe) (sym q) e) f.there in
    omega arith

module _ (r : Run) (often : (n : ℕ) → (m : ℕ) × First r Output n m) (P : ℕ → Type 0) (dec : (n : ℕ) → Dec (P n)) where
  second : (s : End) {n l : ℕ} → Nth r (phase_of s) n 1 l → P l → one_to (meant r) (Next (Each s)) P n
  unfolding NextOf UntilOf
  second s (tail f (head g)) y = (_, f.from, (f.there, (_, g.from, (g.there, y), g.none)), f.none)

  pub one_form : (u : One) (n : ℕ) → one_to (meant r) u P n ↔ Says r u P n
  unfolding NextOf EverOf AlwaysOf UntilOf Says
  one_form Not n = (λ x. x, λ x. x)
  one_form (Next Plain) n = (λ x. x, λ x. x)
  one_form (Next Within) n = (λ x. x, λ x. x)
  one_form (Next (Each s)) n = (
    λ (m, a, (h, (l, b, (i, y), z)), w).
        (l, tail (record { from = a; there = h; none = w }) (head (record { from = b; there = i; none = z })), y),
    λ (l, x, y). second s x y,
  )
  one_form (Ever Plain) n = (λ x. x, λ x. x)
  one_form (Ever Within) n = (
    λ (m, a, (e, h), w). ((often n).0, (often n).1, (m, a, below_output (often n).1 e w, e, h)),
    λ (o, f, (m, a, b, e, h)). (m, a, (e, h), λ j c d. f.none j c (omega arith)),
  )
  one_form (Ever (Each s)) n = (
    λ (m, a, (e, h)). ((nth_has a e).0, m, (nth_has a e).1, h),
    λ (k, m, x, h). (m, nth_from x, (nth_there x, h)),
  )
  one_form (Always Plain) n = (λ x. x, λ x. x)
  one_form (Always Within) n = (
    λ (o, a, e, w). (
      o,
      record { from = a; there = e; none = λ j b c. exe_not_output (w j b c).1 },
      λ m b c. ((w m b c).1, (w m b c).0),
    ),
    λ (o, f, w). (o, f.from, f.there, λ j b c. ((w j b c).1, (w j b c).0)),
  )
  one_form (Always (Each s)) n = (
    λ x k m y. stable (dec m) (λ z. x m (nth_from y) (nth_there y, z)),
    λ x m h y. y.1 (x (nth_has h y.0).0 m (nth_has h y.0).1),
  )

  pub two_form : (Q : ℕ → Type 0) (b : Two) (n : ℕ) → two_to (meant r) b P Q n ↔ Says₂ r b P Q n
  unfolding UntilOf Says₂
  two_form Q And n = (λ x. x, λ x. x)
  two_form Q (Until Plain) n = (λ x. x, λ x. x)
  two_form Q (Until Within) n = (
    λ (m, a, (h, e), w). (
      (often n).0,
      (often n).1,
      (
        m,
        a,
        below_output (often n).1 e (λ j b c. exe_not_output (w j b c).1),
        e,
        h,
        λ j b c. ((w j b c).1, (w j b c).0),
      ),
    ),
    λ (o, f, (m, a, b, e, h, w)). (m, a, (h, e), λ j c d. ((w j c d).1, (w j c d).0)),
  )
  two_form Q (Until (Each s)) n = (
    λ (m, a, (e, h), w).
        let (k, x) = nth_has a e in
        (k, m, x, h, λ i j l y. stable (dec j) (λ z. w j (nth_from y) (nth_mono l y x) (nth_there y, z))),
    λ (k, m, x, h, w). (
      m,
      nth_from x,
      (nth_there x, h),
      λ j a b y. y.1 (w (nth_has a y.0).0 j (nth_less b (nth_has a y.0).1 x) (nth_has a y.0).1),
    ),
  )
