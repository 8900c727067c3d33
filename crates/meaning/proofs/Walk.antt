-- The two backward walks find the endless meaning of plain `until` at every stored position. Assumes nothing.
use Prim.Native.Nat.{ℕ, suc, zero, ◌≤◌, ◌<◌, ◌+◌, ◌-◌}
use native.Mathlib.Omega.{arith}
use native.Mathlib.Nat.{eq-or-lt_of_le}
use mathlib.Core.Logic.{◌↔◌, ◌⊎◌, inl, inr, ⊎_elim}
use mathlib.Core.Path.{◌≡◌, refl, subst}
use mathlib.Core.Bool.{Bool, true, false, ◌&&◌, ◌||◌, So, false≢true}
use borrow.Author.Tests.{lt-ltb, le-ltb}
use Rattle.requirement.specs.declared.Family.TheVariants.{Plain}
use Rattle.meaning.specs.Meaning.{UntilOf}
use Rattle.meaning.specs.Trace.{Trace, position, endless}
use Rattle.meaning.specs.Rows.{walk, until_row}

-- A row shows a fact of the moments: at each moment it is the row's bit at the moment's position.
pub record Shows (t : Trace) (b : ℕ → Bool) (P : ℕ → Type 0) : Type 0 where
  pub at : (n : ℕ) → P n ↔ So (b (position t n))

pub or_left : {a : Bool} (b : Bool) → So a → So (a || b)
or_left b h = rw h

pub or_right : (a : Bool) {b : Bool} → So b → So (a || b)
or_right true h = refl
or_right false h = h

or_cases : (a b : Bool) → So (a || b) → So a ⊎ So b
or_cases true b h = inl refl
or_cases false b h = inr h

pub and_both : (a b : Bool) → So (a && b) → So a × So b
and_both true b h = (refl, h)
and_both false b h = absurd (let z : ◌≡◌ {A = ℕ} 0 1 = cc in omega arith)

pub and_pair : {a b : Bool} → So a → So b → So (a && b)
and_pair h k = rw (h, k)

module _ (t : Trace) (inside : t.loop < t.len) where
  pub step_inside : (n : ℕ) → suc (position t n) < t.len → position t (suc n) ≡ suc (position t n)
  unfolding position
  step_inside n h = rw (lt-ltb (suc (position t n)) t.len h)

  pub step_join : (n : ℕ) → suc (position t n) ≡ t.len → position t (suc n) ≡ t.loop
  unfolding position
  step_join n h = rw (le-ltb (suc (position t n)) t.len (omega arith))

  pub start : position t 0 ≡ 0
  unfolding position
  start = refl

  pub position_below : (n : ℕ) → position t n < t.len
  position_below zero = rw start (omega arith)
  position_below (suc n) =
      ⊎_elim (λ e. rw (step_join n e) inside) (λ l. rw (step_inside n l) l) (eq-or-lt_of_le (position_below n))

  module _ {f g : ℕ → Bool} {P Q : ℕ → Type 0} (hf : Shows t f P) (hg : Shows t g Q) where
    abbrev U : ℕ → Type 0
    U n = UntilOf (endless t) Plain P Q n

    here : (n : ℕ) → Q n → U n
    unfolding UntilOf
    here n q = (n, omega arith, q, λ j a b. absurd (omega arith))

    later : (n : ℕ) → P n → U (suc n) → U n
    unfolding UntilOf
    later n p (m, a, q, w) = (m, omega arith, q, λ j b c. ⊎_elim (λ (e : n ≡ j). subst P e p) (λ l. w j l c) (eq-or-lt_of_le b))

    -- What a walk from moment n to the join finds is so, if what it starts with is so wherever the run is at the join.
    sound : (k n : ℕ) (v : Bool) → position t n + suc k ≡ t.len → ((m : ℕ) → position t m ≡ t.loop → So v → U m)
        → So (walk f g v (suc k) (position t n)) → U n
    unfolding walk
    sound zero n v e back h =
        ⊎_elim (λ x. here n ((hg.at n).1 x))
        (λ x. let (y, z) = and_both _ _ x in later n ((hf.at n).1 y) (back (suc n) (step_join n (omega arith)) z))
        (or_cases _ _ h)
    sound (suc k) n v e back h =
        let s : position t (suc n) ≡ suc (position t n) = step_inside n (omega arith) in
        ⊎_elim (λ x. here n ((hg.at n).1 x))
        (λ x. let (y, z) = and_both _ _ x in later n ((hf.at n).1 y) (sound k (suc n) v (omega arith) back (rw s z)))
        (or_cases _ _ h)

    -- Q at d steps from n, and P before.
    abbrev In : ℕ → ℕ → Type 0
    In zero n = Q n
    In (suc d) n = P n × In d (suc n)

    in_steps : (d n m : ℕ) → n + d ≡ m → Q m → ((j : ℕ) → n ≤ j → j < m → P j) → In d n
    in_steps zero n m e q w = subst Q (omega arith) q
    in_steps (suc d) n m e q w = (w n (omega arith) (omega arith), in_steps d (suc n) m (omega arith) q (λ j a b. w j (omega arith) b))

    -- A walk from moment n finds it, or the run comes to the join with fewer steps to go.
    complete : (k d n : ℕ) (v : Bool) → position t n + suc k ≡ t.len → In d n
        → So (walk f g v (suc k) (position t n))
        ⊎ ((c m : ℕ) × (c < d) × (position t m ≡ t.loop) × In c m × (So v → So (walk f g v (suc k) (position t n))))
    unfolding walk
    complete k zero n v e q = inl (or_left _ ((hg.at n).0 q))
    complete zero (suc d) n v e (p, q) =
        inr (d, suc n, omega arith, step_join n (omega arith), q, λ z. or_right (g (position t n)) (and_pair ((hf.at n).0 p) z))
    complete (suc k) (suc d) n v e (p, q) =
        let s : position t (suc n) ≡ suc (position t n) = step_inside n (omega arith) in
        ⊎_elim (λ x. inl (or_right (g (position t n)) (and_pair ((hf.at n).0 p) (rw s at x))))
        (λ (c, m, l, j, i, y). inr (c, m, omega arith, j, i, λ z. or_right (g (position t n)) (and_pair ((hf.at n).0 p) (rw s at (y z)))))
        (complete k d (suc n) v (omega arith) q)

    module _ (k : ℕ) (e : t.loop + suc k ≡ t.len) where
      abbrev first : Bool
      first = walk f g false (suc k) t.loop

      -- The first walk finds at the join what holds there, however often the run has to go round.
      first_complete : (b d m : ℕ) → d < b → position t m ≡ t.loop → In d m → So first
      first_complete zero d m h j i = absurd (omega arith)
      first_complete (suc b) d m h j i =
          ⊎_elim (λ x. rw j at x) (λ (c, l, h', j', i', y). first_complete b c l (omega arith) j' i')
          (complete k d m false (omega arith) i)

      first_sound : (m : ℕ) → position t m ≡ t.loop → So first → U m
      first_sound m j x = sound k m false (omega arith) (λ l i z. absurd (false≢true z)) (rw j x)

      second : (n l : ℕ) → position t n + suc l ≡ t.len → U n ↔ So (walk f g first (suc l) (position t n))
      unfolding UntilOf
      second n l h = (
        λ (m, a, q, w).
            ⊎_elim (λ x. x) (λ (c, o, b, j, i, y). y (first_complete (suc c) c o (omega arith) j i))
            (complete l (m - n) n first h (in_steps (m - n) n m (omega arith) q w)),
        sound l n first h first_sound,
      )

    until_at : (n : ℕ) → U n ↔ So (until_row t f g (position t n))
    until_at n =
        let h : position t n < t.len = position_below n in
        let a : suc (t.len - t.loop - 1) ≡ t.len - t.loop = omega arith in
        let b : suc (t.len - position t n - 1) ≡ t.len - position t n = omega arith in
        rw (← a, ← b) (second (t.len - t.loop - 1) (omega arith) n (t.len - position t n - 1) (omega arith))

    pub until_shows : Shows t (until_row t f g) (UntilOf (endless t) Plain P Q)
    until_shows = record { at = until_at }
