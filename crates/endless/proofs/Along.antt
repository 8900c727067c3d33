-- The states of a run that closed, one after another.
-- Assumes nothing.
use Prim.Native.Nat.{ℕ, zero, suc, ◌+◌, ◌<◌, ◌≤◌}
use native.Mathlib.Omega.{arith}
use native.Mathlib.Nat.{eq-or-lt_of_le}
use native.Mathlib.Decide.{dec_lt}
use mathlib.Core.Path.{◌≡◌, refl}
use mathlib.Core.Logic.{◌⊎◌, ⊎_elim}
use mathlib.Core.Bool.{true}
use mathlib.Core.List.{List}
use Rattle.std.specs.Prelude.{None}
use Rattle.requirement.specs.declared.Phase.TheVariants.{Output}
use Rattle.meaning.specs.Trace.{Follows}
use Rattle.lookups.specs.Places.{scans_of, return_of}
use Rattle.controller.specs.State.{start as start_of}
use Rattle.run.specs.Running.{recorded_move}
use Rattle.endless.specs.Recorded.{state_at}
use Rattle.endless.proofs.States.{Arrived}
use Rattle.endless.proofs.Phases.{Fits, Goes, goes}
use Rattle.endless.proofs.Ended.{Ended}

module _ {T I : List ℕ} {n start : ℕ} (h : Ended T I n start) where
  pub moves_on : (j : ℕ) → j < n → (recorded_move T I (state_at T I j)).stopped ≡ None
  moves_on j l = go (dec_lt j start)
    where
      go : Dec (j < start) → (recorded_move T I (state_at T I j)).stopped ≡ None
      go (yes k) = h.back.on j (omega arith) k
      go (no k) = h.last.on j (omega arith) l

  pub scan_below : (j : ℕ) → j < n → (state_at T I j).scan < scans_of I
  scan_below j l = go (dec_lt j start)
    where
      go : Dec (j < start) → (state_at T I j).scan < scans_of I
      go (yes k) = omega (arith, h.back.before j (omega arith) k, h.returns)
      go (no k) = h.last.before j (omega arith) l

  first_fits : Fits (state_at T I 0)
  unfolding state_at start_of
  first_fits = record { fit = (refl, refl) }

  next_goes : (j : ℕ) → j < n → Fits (state_at T I j) → Goes (state_at T I j) (recorded_move T I (state_at T I j))
  next_goes j l f = goes T I (state_at T I j).scan (state_at T I j) h.processes f (moves_on j l)

  next_fits : (j : ℕ) → Goes (state_at T I j) (recorded_move T I (state_at T I j)) → Fits (state_at T I (suc j))
  unfolding state_at
  next_fits j g = g.fits

  pub fits_at : (j : ℕ) → j ≤ n → Fits (state_at T I j)
  fits_at zero l = first_fits
  fits_at (suc j) l = next_fits j (next_goes j l (fits_at j (omega arith)))

  goes_at : (j : ℕ) → j < n → Goes (state_at T I j) (recorded_move T I (state_at T I j))
  goes_at j l = next_goes j l (fits_at j (omega arith))

  pub follows_at : (j : ℕ) → j < n → Follows (state_at T I j).phase (state_at T I (suc j)).phase ≡ true
  unfolding state_at
  follows_at j l = (goes_at j l).follows

  scans_at : (j : ℕ) → j < n → ((state_at T I (suc j)).scan ≡ (state_at T I j).scan) ⊎ (((state_at T I (suc j)).scan ≡ (state_at T I j).scan + 1) × ((state_at T I (suc j)).phase ≡ Output))
  unfolding state_at
  scans_at j l = (goes_at j l).scans

  -- ---- the states that end scans b and q
  ends_later : (k a j : ℕ) → a ≤ j → j < n → Arrived T I k a (suc j) → ((state_at T I (suc j)).phase ≡ Output) × ((state_at T I (suc j)).scan ≡ k)
  ends_later k a j b l r =
      let before : (state_at T I j).scan < k = r.before j b (omega arith) in
      let done : k ≤ (state_at T I (suc j)).scan = r.done in
      ⊎_elim (λ e. absurd (omega arith)) (λ (e, o). (o, omega arith)) (scans_at j l)

  ends_first : (k : ℕ) → k ≤ (state_at T I 0).scan → ((state_at T I 0).phase ≡ Output) × ((state_at T I 0).scan ≡ k)
  unfolding state_at
  ends_first k d = (refl, omega arith)

  ends_back : (l : ℕ) → l ≤ n → Arrived T I (return_of I) 0 l → ((state_at T I l).phase ≡ Output) × ((state_at T I l).scan ≡ return_of I)
  ends_back zero b r = ends_first (return_of I) r.done
  ends_back (suc j) b r = ends_later (return_of I) 0 j (omega arith) b r

  pub start_ends : ((state_at T I start).phase ≡ Output) × ((state_at T I start).scan ≡ return_of I)
  start_ends = ends_back start h.last.from h.back

  pub start_below : start < n
  start_below =
      ⊎_elim (λ (e : start ≡ n). absurd (omega (arith, rw (← e) at h.last.done, start_ends.1, h.returns))) (λ l. l) (eq-or-lt_of_le h.last.from)

  ends_last : (l : ℕ) → l ≡ n → start < l → Arrived T I (scans_of I) start l → ((state_at T I l).phase ≡ Output) × ((state_at T I l).scan ≡ scans_of I)
  ends_last zero e b r = absurd (omega arith)
  ends_last (suc j) e b r = ends_later (scans_of I) start j (omega arith) (omega arith) r

  pub last_ends : ((state_at T I n).phase ≡ Output) × ((state_at T I n).scan ≡ scans_of I)
  last_ends = ends_last n refl start_below h.last
