-- What it means that a run came to the end of a scan.
-- Assumes nothing.
use Prim.Native.Nat.{ℕ, zero, suc, ◌+◌, ◌<◌, ◌≤◌}
use native.Mathlib.Omega.{arith}
use native.Mathlib.Nat.{eq-or-lt_of_le}
use native.Mathlib.Numerals.{add-one}
use mathlib.Core.Path.{◌≡◌, refl}
use mathlib.Core.Logic.{◌⊎◌, inl, inr, ⊎_elim}
use mathlib.Core.Bool.{Bool, true, false}
use mathlib.Core.List.{List}
use lib.Dec.{ltb}
use borrow.Author.Tests.{ltb-true, ltb-false}
use Rattle.std.specs.Prelude.{Option, None, Some}
use Rattle.coding.specs.declared.Cause.{Cause}
use Rattle.coding.specs.declared.Cause.TheVariants.{LongRun}
use Rattle.run.specs.Running.{recorded_move, here, stopped_at, reached}
use Rattle.run.specs.declared.Machine.{Machine}
use Rattle.run.specs.declared.Reached.{Reached}
use Rattle.endless.specs.Recorded.{state_at, MovesOn}

-- From state n on the moves go on, and k scans are done first at state l.
pub record Arrived (T I : List ℕ) (k n l : ℕ) : Type 0 where
  pub from : n ≤ l
  pub on : MovesOn T I n l
  pub before : (j : ℕ) → n ≤ j → j < l → (state_at T I j).scan < k
  pub done : k ≤ (state_at T I l).scan

-- The same of an answer, with a bound on the state's number.
pub record Came (T I : List ℕ) (k n most : ℕ) (r : Reached) : Type 0 where
  pub machine : r.machine ≡ state_at T I r.number
  pub bound : r.number ≤ most
  pub arrived : Arrived T I k n r.number

pub never : {cause : Cause} → Some cause ≡ None → ⊥
never e = let z : ◌≡◌ {A = ℕ} 0 1 = cc in omega arith

pub on_or_stopped : (g : Option Cause) → (g ≡ None) ⊎ ((cause : Cause) × (g ≡ Some cause))
on_or_stopped None = inl refl
on_or_stopped (Some cause) = inr (cause, refl)

-- ---- the ways of the definition
module _ (T I : List ℕ) (k n : ℕ) (m : Machine) where
  pub is_here : (more : ℕ) → ltb m.scan k ≡ false → reached T I k more n m ≡ here n m
  unfolding reached
  is_here zero e = rw e
  is_here (suc more) e = rw e

  pub is_stopped : (more : ℕ) (cause : Cause) → ltb m.scan k ≡ true → (recorded_move T I m).stopped ≡ Some cause → reached T I k more n m ≡ stopped_at cause n m
  unfolding reached
  is_stopped zero cause e f = rw (e, f)
  is_stopped (suc more) cause e f = rw (e, f)

  pub no_room : ltb m.scan k ≡ true → (recorded_move T I m).stopped ≡ None → reached T I k 0 n m ≡ stopped_at LongRun n m
  unfolding reached
  no_room e f = rw (e, f)

  pub goes_on : (more : ℕ) → ltb m.scan k ≡ true → (recorded_move T I m).stopped ≡ None → reached T I k (suc more) n m ≡ reached T I k more (suc n) (recorded_move T I m).machine
  unfolding reached
  goes_on more e f = rw (e, f, add-one n)

module _ (T I : List ℕ) (k : ℕ) where
  came_here : (n most : ℕ) → n ≤ most → ltb (state_at T I n).scan k ≡ false → Came T I k n most (here n (state_at T I n))
  came_here n most h e = record {
    machine = refl;
    bound = h;
    arrived = record { from = omega arith; on = λ j a b. absurd (omega arith); before = λ j a b. absurd (omega arith); done = ltb-false (state_at T I n).scan k e };
  }

  one_more : (n most : ℕ) (r : Reached) → (state_at T I n).scan < k → (recorded_move T I (state_at T I n)).stopped ≡ None → Came T I k (suc n) most r → Came T I k n most r
  one_more n most r h e c = record {
    machine = c.machine;
    bound = c.bound;
    arrived = record {
      from = omega (arith, c.arrived.from);
      on = λ j a b. ⊎_elim (λ (q : n ≡ j). rw (← q) e) (λ (l : n < j). c.arrived.on j l b) (eq-or-lt_of_le a);
      before = λ j a b. ⊎_elim (λ (q : n ≡ j). rw (← q) h) (λ (l : n < j). c.arrived.before j l b) (eq-or-lt_of_le a);
      done = c.arrived.done;
    };
  }

  further : (n more : ℕ) → (reached T I k (suc more) n (state_at T I n)).stopped ≡ None → ltb (state_at T I n).scan k ≡ true →
      (recorded_move T I (state_at T I n)).stopped ≡ None →
      ((reached T I k more (suc n) (state_at T I (suc n))).stopped ≡ None → Came T I k (suc n) (suc n + more) (reached T I k more (suc n) (state_at T I (suc n)))) →
      Came T I k n (n + suc more) (reached T I k (suc more) n (state_at T I n))
  unfolding state_at
  further n more g e f next =
      let same = goes_on T I k n (state_at T I n) more e f in
      let most : suc n + more ≡ n + suc more = omega arith in
      rw (same, ← most) (one_more n (suc n + more) _ (ltb-true (state_at T I n).scan k e) f (next (rw same at g)))

  pub came : (more n : ℕ) → (reached T I k more n (state_at T I n)).stopped ≡ None → Came T I k n (n + more) (reached T I k more n (state_at T I n))
  came zero n g = go (ltb (state_at T I n).scan k) refl
    where
      go : (b : Bool) → ltb (state_at T I n).scan k ≡ b → Came T I k n (n + 0) (reached T I k 0 n (state_at T I n))
      go false e = rw (is_here T I k n (state_at T I n) 0 e) (came_here n (n + 0) (omega arith) e)
      go true e =
          ⊎_elim (λ f. absurd (never (rw (no_room T I k n (state_at T I n) e f) at g))) (λ (cause, f). absurd (never (rw (is_stopped T I k n (state_at T I n) 0 cause e f) at g)))
          (on_or_stopped (recorded_move T I (state_at T I n)).stopped)
  came (suc more) n g = go (ltb (state_at T I n).scan k) refl (came more (suc n))
    where
      go : (b : Bool) → ltb (state_at T I n).scan k ≡ b →
          ((reached T I k more (suc n) (state_at T I (suc n))).stopped ≡ None → Came T I k (suc n) (suc n + more) (reached T I k more (suc n) (state_at T I (suc n)))) →
          Came T I k n (n + suc more) (reached T I k (suc more) n (state_at T I n))
      go false e next = rw (is_here T I k n (state_at T I n) (suc more) e) (came_here n (n + suc more) (omega arith) e)
      go true e next =
          ⊎_elim (λ f. further n more g e f next) (λ (cause, f). absurd (never (rw (is_stopped T I k n (state_at T I n) (suc more) cause e f) at g)))
          (on_or_stopped (recorded_move T I (state_at T I n)).stopped)
