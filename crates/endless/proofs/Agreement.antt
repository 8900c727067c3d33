-- State m of the endless run is the recorded run's state at the position of moment m, but for the scans done, which differ by whole laps.
-- Assumes nothing.
use Prim.Native.Nat.{ℕ, zero, suc, ◌+◌, ◌<◌}
use native.Mathlib.Omega.{arith}
use native.Mathlib.Nat.{eq-or-lt_of_le}
use mathlib.Core.Path.{◌≡◌, refl, sym, ◌∙◌}
use mathlib.Core.Logic.{◌⊎◌, inl, inr, ⊎_elim}
use mathlib.Core.List.{List}
use Rattle.std.specs.Prelude.{None}
use Rattle.requirement.specs.declared.Phase.TheVariants.{Output}
use Rattle.meaning.specs.Trace.{position}
use Rattle.meaning.proofs.Walk.{step_inside, step_join, position_below, start as first-position}
use Rattle.lookups.specs.Places.{scans_of, return_of}
use Rattle.run.specs.Moves.{move_of}
use Rattle.run.specs.Running.{recorded_move}
use Rattle.run.specs.declared.Machine.{Machine}
use Rattle.run.specs.declared.Moved.{Moved}
use Rattle.endless.specs.Recorded.{state_at}
use Rattle.endless.specs.Unrolled.{recorded_scan, endless_state}
use Rattle.endless.proofs.Moves.{with_scan, by_move}
use Rattle.endless.proofs.Ended.{Ended}
use Rattle.endless.proofs.Phases.{Fits}
use Rattle.endless.proofs.Along.{moves_on, scan_below, fits_at, start_ends, start_below, last_ends}
use Rattle.endless.proofs.Stored.{positions_is}
use Rattle.endless.proofs.Formed.{lasso_of, lasso_inside}
use Rattle.endless.proofs.Laps.{recorded, recorded_next, recorded_join}

-- ---- two machines that differ in the scans done only, moved with the same inputs
record Alike (k s : ℕ) (x y : Moved) : Type 0 where
  stopped : y.stopped ≡ x.stopped
  same : y.machine ≡ with_scan x.machine y.machine.scan
  scans : ((x.machine.scan ≡ k) × (y.machine.scan ≡ s)) ⊎ ((x.machine.scan ≡ k + 1) × (y.machine.scan ≡ s + 1))

alike : (T I : List ℕ) (d : ℕ) (m : Machine) (s : ℕ) → Alike m.scan s (move_of T I d m) (move_of T I d (with_scan m s))
alike T I d m s =
    by_move (Alike m.scan s) T I d m s
    (λ h c k. record { stopped = refl; same = refl; scans = inl (refl, refl) })
    (λ h c k. record { stopped = refl; same = refl; scans = inr (refl, refl) })
    (λ h c k. record { stopped = refl; same = refl; scans = inl (refl, refl) })
    (λ h c k. record { stopped = refl; same = refl; scans = inl (refl, refl) })
    (λ cause. record { stopped = refl; same = refl; scans = inl (refl, refl) })

-- At an Output no action is used, so two such machines with equal states are equal but for the scans.
output_used : (m : Machine) → Fits m → m.phase ≡ Output → m.used ≡ 0
output_used m f e = (rw e at f.fit).1

outputs_same : (m m' : Machine) (s : ℕ) → Fits m → Fits m' → m.phase ≡ Output → m'.phase ≡ Output → m.state ≡ m'.state → with_scan m s ≡ with_scan m' s
outputs_same m m' s f f' o o' e =
    let phase : m.phase ≡ m'.phase = o ∙ sym o' in
    let used : m.used ≡ m'.used = output_used m f o ∙ sym (output_used m' f' o') in
    λ i. record { phase = phase i; state = e i; used = used i; scan = s }

-- ---- a machine of the endless run at position p
pub record Agrees (T I : List ℕ) (p : ℕ) (e : Machine) : Type 0 where
  pub same : e ≡ with_scan (state_at T I p) e.scan
  pub scan : recorded_scan (scans_of I) (return_of I) e.scan ≡ (state_at T I p).scan

-- Its move, with the inputs that are recorded for it.
abbrev pub endless_move : List ℕ → List ℕ → Machine → Moved
endless_move T I m = move_of T I (recorded_scan (scans_of I) (return_of I) m.scan) m

moved_as : (T I : List ℕ) (m : Machine) (d s : ℕ) (x : Machine) → d ≡ m.scan → x ≡ with_scan m s → Alike m.scan s (recorded_move T I m) (move_of T I d x)
moved_as T I m d s x e f = rw (e, f) (alike T I m.scan m s)

moved : {T I : List ℕ} {p : ℕ} {e : Machine} → Agrees T I p e → Alike (state_at T I p).scan e.scan (recorded_move T I (state_at T I p)) (endless_move T I e)
moved {T} {I} {p} {e} a = moved_as T I (state_at T I p) _ e.scan e a.scan a.same

-- The same with the recorded run's next state by its number.
next_moved : {T I : List ℕ} {p : ℕ} {e : Machine} → Agrees T I p e →
    ((endless_move T I e).machine ≡ with_scan (state_at T I (suc p)) (endless_move T I e).machine.scan)
    × ((((state_at T I (suc p)).scan ≡ (state_at T I p).scan) × ((endless_move T I e).machine.scan ≡ e.scan))
    ⊎ (((state_at T I (suc p)).scan ≡ (state_at T I p).scan + 1) × ((endless_move T I e).machine.scan ≡ e.scan + 1)))
unfolding state_at
next_moved a = ((moved a).same, (moved a).scans)

module _ {T I : List ℕ} {n start : ℕ} (h : Ended T I n start) where
  abbrev q : ℕ
  q = scans_of I

  abbrev b : ℕ
  b = return_of I

  pub agreeing_goes_on : {p : ℕ} {e : Machine} → p < n → Agrees T I p e → (endless_move T I e).stopped ≡ None
  agreeing_goes_on {p} l a = (moved a).stopped ∙ moves_on h p l

  agree_first : Agrees T I 0 (endless_state T I 0)
  unfolding state_at endless_state
  agree_first = let r = h.returns in record { same = refl; scan = recorded q b r 0 (omega arith) }

  agree_inside : (p : ℕ) (e : Machine) → suc p < n → Agrees T I p e → Agrees T I (suc p) (endless_move T I e).machine
  agree_inside p e l a =
      let (same, scans) = next_moved a in
      let below = scan_below h (suc p) l in
      record {
        same = same;
        scan = ⊎_elim (λ (f, g). rw (f, g) a.scan) (λ (f, g). rw (f, g) (recorded_next q b h.returns e.scan (state_at T I p).scan a.scan (omega arith))) scans;
      }

  agree_join : (p : ℕ) (e : Machine) → suc p ≡ n → Agrees T I p e → Agrees T I start (endless_move T I e).machine
  agree_join p e l a =
      let (same, scans) = next_moved a in
      let below = scan_below h p (omega arith) in
      let end : (state_at T I (suc p)).scan ≡ q = rw l (last_ends h).1 in
      record {
        same = same ∙ rw l
            (outputs_same (state_at T I n) (state_at T I start) _ (fits_at h n (omega arith)) (fits_at h start (omega (arith, start_below h))) (last_ends h).0 (start_ends h).0 h.same);
        scan = ⊎_elim (λ (f, g). absurd (omega arith))
            (λ (f, g). rw (g, (start_ends h).1) (recorded_join q b h.returns e.scan (state_at T I p).scan a.scan (omega arith))) scans;
      }

  endless_next : (m : ℕ) → endless_state T I (suc m) ≡ (endless_move T I (endless_state T I m)).machine
  unfolding endless_state
  endless_next m = refl

  pub position_inside : (m : ℕ) → position (lasso_of h) m < n
  position_inside m = omega (arith, positions_is T I n, position_below (lasso_of h) (lasso_inside h) m)

  agree_next : (m : ℕ) → Agrees T I (position (lasso_of h) m) (endless_state T I m) → Agrees T I (position (lasso_of h) (suc m)) (endless_move T I (endless_state T I m)).machine
  agree_next m a =
      let len = positions_is T I n in
      ⊎_elim
      (λ (e : suc (position (lasso_of h) m) ≡ n). rw (step_join (lasso_of h) (lasso_inside h) m (omega arith)) (agree_join _ _ e a))
      (λ (l : suc (position (lasso_of h) m) < n). rw (step_inside (lasso_of h) (lasso_inside h) m (omega arith)) (agree_inside _ _ l a))
      (eq-or-lt_of_le (position_inside m))

  pub agrees : (m : ℕ) → Agrees T I (position (lasso_of h) m) (endless_state T I m)
  agrees zero = rw (first-position (lasso_of h) (lasso_inside h)) agree_first
  agrees (suc m) = rw (endless_next m) (agree_next m (agrees m))
