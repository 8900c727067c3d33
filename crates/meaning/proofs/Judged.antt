-- The rows are the meaning: what `judge` says at the position of a moment is what holds at the moment. So on a lasso the meaning can be decided,
-- it is the same at a moment and at its stored position, and the translation agrees. Assumes nothing.
use Prim.Native.Nat.{ℕ, suc, zero, ◌≤◌, ◌<◌, ◌+◌, ◌-◌}
use native.Mathlib.Omega.{arith}
use native.Mathlib.Nat.{add-zero}
use mathlib.Core.Logic.Iff
use mathlib.Core.Logic.{◌↔◌}
use mathlib.Core.Path.{◌≡◌, refl, sym, ap, ap₂, ◌∙◌}
use mathlib.Core.Bool.{Bool, true, false, not as inv, So, decide_iff, false≢true}
use Rattle.requirement.specs.declared.Phase.TheVariants.{Output}
use Rattle.requirement.specs.declared.Family.TheVariants.{Plain}
use Rattle.requirement.specs.Requirement.{Requirement, atom, mark, one, two}
use Rattle.meaning.specs.Phases.{Phase-discrete}
use Rattle.meaning.specs.Meaning.{First, NextOf, EverOf, AlwaysOf, UntilOf, Holds}
use Rattle.meaning.specs.Translation.{written, translate}
use Rattle.meaning.specs.Trace.{Trace, position, endless, WellFormed}
use Rattle.meaning.specs.Rows.{rowed, judge}
use Rattle.meaning.proofs.Sequence.{nth_has, nth_first}
use Rattle.meaning.proofs.Forms.{meant, stable, one_form, two_form}
use Rattle.meaning.proofs.Walk.{Shows, until_shows, and_both, and_pair, step_inside, step_join, start, position_below}
use Rattle.meaning.proofs.Related.{Related, one_related, two_related}

not_so : (b : Bool) → (¬ (So b)) ↔ So (inv b)
not_so true = (λ h. absurd (h refl), λ h g. false≢true h)
not_so false = (λ h. refl, λ h g. false≢true g)

so_dec : {A : Type 0} (b : Bool) → A ↔ So b → Dec A
so_dec true h = yes (h.1 refl)
so_dec false h = no (λ a. false≢true (h.0 a))

module _ {t : Trace} where
  not_shows : {b : ℕ → Bool} {P : ℕ → Type 0} → Shows t b P → Shows t ((rowed t).neg b) (λ n. ¬ P n)
  not_shows {b} h = record { at = λ n. simp h.at (not_so (b (position t n))) }

  shows_dec : {b : ℕ → Bool} {P : ℕ → Type 0} → Shows t b P → (n : ℕ) → Dec (P n)
  shows_dec {b} h n = so_dec (b (position t n)) (h.at n)

  next_shows : {b : ℕ → Bool} {P : ℕ → Type 0} → Shows t b P → Shows t ((rowed t).X b) (NextOf (endless t) Plain P)
  unfolding position NextOf
  next_shows h = record { at = λ n. h.at (suc n) }

  shows_same : {b : ℕ → Bool} {P Q : ℕ → Type 0} → ((n : ℕ) → P n ↔ Q n) → Shows t b P → Shows t b Q
  shows_same e h = record { at = λ n. Iff.trans (Iff.symm (e n)) (h.at n) }

module _ {t : Trace} (w : WellFormed t) where
  ever_shows : {b : ℕ → Bool} {P : ℕ → Type 0} → Shows t b P → Shows t ((rowed t).F b) (EverOf (endless t) Plain P)
  unfolding EverOf UntilOf
  ever_shows h =
      shows_same (λ n. (λ (m, a, q, z). (m, a, q), λ (m, a, q). (m, a, q, λ j x y. tt)))
      (until_shows t w.inside {P = λ n. Unit {0}} (record { at = λ n. (λ x. refl, λ x. tt) }) h)

  always_shows : {b : ℕ → Bool} {P : ℕ → Type 0} → Shows t b P → Shows t ((rowed t).G b) (AlwaysOf (endless t) Plain P)
  unfolding EverOf AlwaysOf
  always_shows h =
      shows_same (λ n. (λ x m a. stable (shows_dec h m) (λ z. x (m, a, z)), λ x (m, a, z). z (x m a))) (not_shows (ever_shows (not_shows h)))

  -- The plain operators on rows show those on facts.
  shown : Related (rowed t) (meant (endless t)) (Shows t)
  shown =
      record {
        is = λ p. record { at = λ n. Iff.symm (decide_iff (Phase-discrete (t.phase_at (position t n)) p)) };
        neg = not_shows;
        both = λ h k. record { at = λ n. simp (h.at, k.at) (λ x. and_pair x.0 x.1, and_both _ _) };
        X = next_shows;
        F = ever_shows;
        G = always_shows;
        U = until_shows t w.inside;
      }

  -- From every moment on there is a first Output.
  to_join : (k n : ℕ) → position t n + suc k ≡ t.len → (m : ℕ) × (n ≤ m) × (position t m ≡ t.loop)
  to_join zero n e = (suc n, omega arith, step_join t w.inside n (omega arith))
  to_join (suc k) n e =
      let s : position t (suc n) ≡ suc (position t n) = step_inside t w.inside n (omega arith) in
      let (m, a, j) = to_join k (suc n) (omega arith) in (m, omega arith, j)

  ahead : (d n : ℕ) → position t n + d < t.len → position t (n + d) ≡ position t n + d
  ahead zero n h = rw (add-zero n, add-zero)
  ahead (suc d) n h =
      let s : position t (suc n) ≡ suc (position t n) = step_inside t w.inside n (omega arith) in
      let i : position t (suc n + d) ≡ position t (suc n) + d = ahead d (suc n) (omega arith) in
      let q : n + suc d ≡ suc n + d = omega arith in
      ap (position t) q ∙ i ∙ omega arith

  often : (n : ℕ) → (m : ℕ) × First (endless t) Output n m
  often n =
      let (i, a, b, o) = w.written in
      let l : position t n < t.len = position_below t w.inside n in
      let (m, c, j) = to_join (t.len - position t n - 1) n (omega arith) in
      let s : position t (m + (i - t.loop)) ≡ i = ahead (i - t.loop) m (omega arith) ∙ omega arith in
      let (k, x) = nth_has {r = endless t} {n = n} {m = m + (i - t.loop)} (omega arith) (ap t.phase_at s ∙ o) in
      nth_first {k = k} x

  pub judged : (f : Requirement) → Shows t (judge t f) (Holds (endless t) f)
  unfolding judge Holds
  judged (atom k) = record { at = λ n. Iff.rfl }
  judged (mark p) = shown.is p
  judged (one u f) = let h = judged f in shows_same (one_form (endless t) often _ (shows_dec h) u) (one_related shown u h)
  judged (two b f g) = let h = judged f in shows_same (two_form (endless t) often _ (shows_dec h) _ b) (two_related shown b h (judged g))

  pub holds_dec : (f : Requirement) (n : ℕ) → Dec (Holds (endless t) f n)
  holds_dec f = shows_dec (judged f)

  -- The rows of a requirement and of its translation are the same.
  same : Related written (rowed t) (λ f b. judge t f ≡ b)
  unfolding judge
  same =
      record {
        is = λ p. refl;
        neg = λ h. ap (rowed t).neg h;
        both = λ h k. ap₂ (rowed t).both h k;
        X = λ h. ap (rowed t).X h;
        F = λ h. ap (rowed t).F h;
        G = λ h. ap (rowed t).G h;
        U = λ h k. ap₂ (rowed t).U h k;
      }

  pub rows_same : (f : Requirement) → judge t (translate f) ≡ judge t f
  unfolding judge translate
  rows_same (atom k) = refl
  rows_same (mark p) = refl
  rows_same (one u f) = one_related same u (rows_same f)
  rows_same (two b f g) = two_related same b (rows_same f) (rows_same g)

  pub agrees : (f : Requirement) (n : ℕ) → Holds (endless t) (translate f) n ↔ Holds (endless t) f n
  agrees f n = Iff.trans ((judged (translate f)).at n) (rw (rows_same f) (Iff.symm ((judged f).at n)))

  -- A stored position is a moment, and each moment says what its stored position says.
  pub stored : (i : ℕ) → i < t.len → position t i ≡ i
  stored i h =
      let z : position t 0 ≡ 0 = start t w.inside in
      let e : 0 + i ≡ i = omega arith in
      ap (position t) (sym e) ∙ ahead i 0 (omega arith) ∙ omega arith

  pub periodic : (f : Requirement) (n : ℕ) → Holds (endless t) f n ↔ Holds (endless t) f (position t n)
  periodic f n =
      let e : position t (position t n) ≡ position t n = stored (position t n) (position_below t w.inside n) in
      Iff.trans ((judged f).at n) (Iff.symm (rw e at ((judged f).at (position t n))))
