-- How a run ends is told by its states: stopped at the first that stops it, else by the states after scans q and b.
-- Assumes nothing.
use Prim.Native.Nat.{ℕ, zero, suc, ◌+◌, ◌-◌, ◌<◌, ◌≤◌}
use native.Mathlib.Omega.{arith}
use native.Mathlib.Nat.{eq-or-lt_of_le}
use native.Mathlib.Decide.{dec_lt}
use mathlib.Core.Path.{◌≡◌, refl}
use mathlib.Core.Logic.{◌↔◌, inl, inr, ⊎_elim}
use mathlib.Core.Bool.{Bool, true, false}
use mathlib.Core.List.{List}
use lib.Dec.{ltb}
use borrow.Author.Tests.{ltb-true}
use Rattle.run.specs.declared.Stop.TheVariants.{Halted, Refused}
use Rattle.std.specs.Prelude.{Option, None, Some, Ok, Err}
use Rattle.coding.specs.declared.Cause.{Cause}
use Rattle.coding.specs.declared.Cause.TheVariants.{LongRun, NotClosed}
use Rattle.ranges.specs.Values.{pick}
use Rattle.lookups.specs.Places.{scans_of, return_of}
use Rattle.controller.specs.Same.{same_state}
use Rattle.controller.proofs.Equal.{same_is_equal, equal_is_same}
use Rattle.run.specs.Limits.{last_state}
use Rattle.run.specs.Running.{recorded_move, stopped_at, reached, to_return, to_end, halted, closing, ran_of, Ran, closes_at}
use Rattle.run.specs.declared.Reached.{Reached}
use Rattle.endless.specs.Recorded.{state_at, MovesOn}
use Rattle.endless.proofs.States.{Arrived, Came, is_here, is_stopped, no_room, goes_on, on_or_stopped}
use Rattle.endless.proofs.Ended.{came_back, came_end}
use Rattle.invariants.specs.Refusals.{Forbids, Stops, action, long_run, Arises, AfterScan, StoppedBy, DiffersBy}
use Rattle.invariants.specs.Refusals.{ClosesBy, Ends}
use Rattle.invariants.proofs.Going.{says, forbidden_stops, one_cause, scan_most, scans_rise}

-- ---- what is known where a run was stopped on its way to k scans, from state n on
record StoppedAt (T I : List ℕ) (k n : ℕ) (cause : Cause) (r : Reached) : Type 0 where
  machine : r.machine ≡ state_at T I r.number
  last : r.number ≤ last_state
  on : MovesOn T I n r.number
  stops : Stops T I r.number cause
  early : (state_at T I r.number).scan < k

abbrev Told : List ℕ → List ℕ → ℕ → ℕ → Reached → Option Cause → Type 0
Told T I k n r None = Unit {0}
Told T I k n r (Some cause) = StoppedAt T I k n cause r

told_stopped : (T I : List ℕ) (k n : ℕ) (r : Reached) (g : Option Cause) (cause : Cause) → Told T I k n r g →
    g ≡ Some cause → StoppedAt T I k n cause r
told_stopped T I k n r g cause t e = rw e at t

module _ (T I : List ℕ) (k : ℕ) where
  stopped_here : (n : ℕ) (cause : Cause) → n ≤ last_state → (state_at T I n).scan < k → Stops T I n cause →
      StoppedAt T I k n cause (stopped_at cause n (state_at T I n))
  stopped_here n cause l e s =
      record { machine = refl; last = l; on = λ j a b. absurd (omega arith); stops = s; early = e }

  one_sooner : (n : ℕ) (r : Reached) (g : Option Cause) → (recorded_move T I (state_at T I n)).stopped ≡ None →
      Told T I k (suc n) r g → Told T I k n r g
  one_sooner n r None e h = tt
  one_sooner n r (Some cause) e h = record {
    machine = h.machine;
    last = h.last;
    on = λ j a b. ⊎_elim (λ (q : n ≡ j). rw (← q) e) (λ (l : n < j). h.on j l b) (eq-or-lt_of_le a);
    stops = h.stops;
    early = h.early;
  }

  -- What is against a move, and that nothing is.
  against : (n : ℕ) (cause : Cause) → (recorded_move T I (state_at T I n)).stopped ≡ Some cause →
      Forbids T (state_at T I n) cause
  against n cause e = rw e at (says T (state_at T I n) I (state_at T I n).scan)

  nothing_against : (n : ℕ) → (recorded_move T I (state_at T I n)).stopped ≡ None → (cause : Cause) →
      ¬ Forbids T (state_at T I n) cause
  nothing_against n e cause f = forbidden_stops T (state_at T I n) I (state_at T I n).scan f e

  abbrev From : ℕ → ℕ → Reached
  From more n = reached T I k more n (state_at T I n)

  further : (more n : ℕ) → ltb (state_at T I n).scan k ≡ true → (recorded_move T I (state_at T I n)).stopped ≡ None →
      Told T I k (suc n) (From more (suc n)) (From more (suc n)).stopped →
      Told T I k n (From (suc more) n) (From (suc more) n).stopped
  unfolding state_at
  further more n e f next =
      rw (goes_on T I k n (state_at T I n) more e f) (one_sooner n (From more (suc n)) (From more (suc n)).stopped f next)

  told : (more n : ℕ) → n + more ≡ last_state → Told T I k n (From more n) (From more n).stopped
  told zero n full = go (ltb (state_at T I n).scan k) refl
    where
      go : (b : Bool) → ltb (state_at T I n).scan k ≡ b → Told T I k n (From 0 n) (From 0 n).stopped
      go false e = rw (is_here T I k n (state_at T I n) 0 e) tt
      go true e =
          let early = ltb-true (state_at T I n).scan k e in
          ⊎_elim
          (λ f. rw (no_room T I k n (state_at T I n) e f) (stopped_here n LongRun (omega arith) early (long_run (omega arith) (nothing_against n f))))
          (λ (cause, f). rw (is_stopped T I k n (state_at T I n) 0 cause e f) (stopped_here n cause (omega arith) early (action (against n cause f))))
          (on_or_stopped (recorded_move T I (state_at T I n)).stopped)
  told (suc more) n full = go (ltb (state_at T I n).scan k) refl (told more (suc n) (omega arith))
    where
      go : (b : Bool) → ltb (state_at T I n).scan k ≡ b →
          Told T I k (suc n) (From more (suc n)) (From more (suc n)).stopped →
          Told T I k n (From (suc more) n) (From (suc more) n).stopped
      go false e next = rw (is_here T I k n (state_at T I n) (suc more) e) tt
      go true e next =
          let early = ltb-true (state_at T I n).scan k e in
          ⊎_elim
          (λ f. further more n e f next)
          (λ (cause, f). rw (is_stopped T I k n (state_at T I n) (suc more) cause e f) (stopped_here n cause (omega arith) early (action (against n cause f))))
          (on_or_stopped (recorded_move T I (state_at T I n)).stopped)

-- ---- the run
module _ (T I : List ℕ) where
  -- Where the moves go on, up to a number that a state may have, nothing stops the run.
  arises : (l : ℕ) → l ≤ last_state → MovesOn T I 0 l → Arises T I l
  arises l most on j b cause (action f) = nothing_against T I 0 j (on j (omega arith) b) cause f
  arises l most on j b _ (long_run e n) = omega arith

  moves_joined : (n l : ℕ) → MovesOn T I 0 n → MovesOn T I n l → MovesOn T I 0 l
  moves_joined n l on on' j a b = go (dec_lt j n)
    where
      go : Dec (j < n) → (recorded_move T I (state_at T I j)).stopped ≡ None
      go (yes h) = on j a h
      go (no h) = on' j (omega arith) b

  exactly : (k l : ℕ) → Arrived T I k 0 l → (state_at T I l).scan ≡ k
  unfolding state_at
  exactly k zero r = let d = r.done in omega arith
  exactly k (suc j) r = let d = r.done in omega (arith, scan_most T I j, r.before j (omega arith) (omega arith))

  after_scan : (k l : ℕ) → l ≤ last_state → Arrived T I k 0 l → AfterScan T I k l
  after_scan k l most r =
      record { arises = arises l most r.on; sooner = λ j b. r.before j (omega arith) b; done = exactly k l r }

  -- A run to fewer scans, and from there on to more.
  from_start : (b q n l : ℕ) → b ≤ q → Arrived T I b 0 n → Arrived T I q n l → Arrived T I q 0 l
  from_start b q n l h r s = record {
    from = omega arith;
    on = moves_joined n l r.on s.on;
    before = λ j a c. go j c (dec_lt j n);
    done = s.done;
  }
    where
      go : (j : ℕ) → j < l → Dec (j < n) → (state_at T I j).scan < q
      go j c (yes k) = omega (arith, r.before j (omega arith) k)
      go j c (no k) = s.before j (omega arith) c

  by_stop : (cause : Cause) (r : Reached) (k n : ℕ) → k ≤ scans_of I → MovesOn T I 0 n → StoppedAt T I k n cause r →
      Ends T I (halted cause r.machine)
  by_stop cause r k n h on s =
      let early = s.early in
      rw s.machine
      (inl
      (record {
        number = r.number;
        arises = arises r.number s.last (moves_joined n r.number on s.on);
        stops = s.stops;
        early = omega arith;
        scan_is = refl;
        process_is = refl;
      }))

  by_closing : (back last : Reached) → back.machine ≡ state_at T I back.number →
      last.machine ≡ state_at T I last.number →
      AfterScan T I (return_of I) back.number → AfterScan T I (scans_of I) last.number →
      Ends T I (closing (scans_of I) back last)
  unfolding closing
  by_closing back last e f b l = go (same_state last.machine.state back.machine.state) refl
    where
      go : (x : Bool) → same_state last.machine.state back.machine.state ≡ x →
          Ends T I (pick x (closes_at last.number back.number) (Err (Halted NotClosed (scans_of I) 0)))
      go true g =
          record { after_b = b; after_q = l; same = rw (e, f) at (same_is_equal last.machine.state back.machine.state g) }
      go false g = inr
          (record {
            back = back.number;
            last = last.number;
            after_b = b;
            after_q = l;
            differ = λ h. not_same (equal_is_same last.machine.state back.machine.state (rw (e, f) h)) g;
            cause_is = refl;
            scan_is = refl;
            process_is = refl;
          })
        where
          not_same : {x : Bool} → x ≡ true → x ≡ false → ⊥
          not_same p r = let z : ◌≡◌ {A = ℕ} 0 1 = cc in omega arith

  -- ---- the ways of the definition
  back_stopped : (cause : Cause) → (to_return T I).stopped ≡ Some cause →
      ran_of T I ≡ halted cause (to_return T I).machine
  unfolding ran_of
  back_stopped cause g = rw (g, ran_of) refl

  last_stopped : (cause : Cause) → (to_return T I).stopped ≡ None → (to_end T I).stopped ≡ Some cause →
      ran_of T I ≡ halted cause (to_end T I).machine
  unfolding ran_of
  last_stopped cause g h = rw (g, h, ran_of) refl

  both_on : (r : Ran) → closing (scans_of I) (to_return T I) (to_end T I) ≡ r → (to_return T I).stopped ≡ None →
      (to_end T I).stopped ≡ None → ran_of T I ≡ r
  unfolding ran_of
  both_on r e g h = rw (g, h, ran_of) e

  onward_told : (r : Reached) (k : ℕ) → r.machine ≡ state_at T I r.number → r.number ≤ last_state →
      let x = reached T I k (last_state - r.number) r.number r.machine in
      Told T I k r.number x x.stopped
  onward_told r k e h = rw e (told T I k (last_state - r.number) r.number (omega arith))

  back_told : Told T I (return_of I) 0 (to_return T I) (to_return T I).stopped
  unfolding to_return state_at
  back_told = told T I (return_of I) (last_state - 0) 0 (omega arith)

  end_told : Came T I (return_of I) 0 last_state (to_return T I) →
      Told T I (scans_of I) (to_return T I).number (to_end T I) (to_end T I).stopped
  unfolding to_end
  end_told c = onward_told (to_return T I) (scans_of I) c.machine c.bound

  module _ (below : return_of I < scans_of I) where
    by_end : (to_return T I).stopped ≡ None → Came T I (return_of I) 0 last_state (to_return T I) → Ends T I (ran_of T I)
    by_end g c =
        ⊎_elim
        (λ h.
        let d = came_end T I c h in
        rw (both_on _ refl g h)
        (by_closing (to_return T I) (to_end T I) c.machine d.machine (after_scan (return_of I) _ c.bound c.arrived)
        (after_scan (scans_of I) _ d.bound (from_start (return_of I) (scans_of I) _ _ (omega arith) c.arrived d.arrived))))
        (λ (cause, h).
        let s = told_stopped T I _ _ _ _ cause (end_told c) h in
        rw (last_stopped cause g h) (by_stop cause (to_end T I) (scans_of I) (to_return T I).number (omega arith) c.arrived.on s))
        (on_or_stopped (to_end T I).stopped)

    ends : Ends T I (ran_of T I)
    ends =
        ⊎_elim
        (λ g. by_end g (came_back T I g))
        (λ (cause, g).
        let s = told_stopped T I _ _ _ _ cause back_told g in
        rw (back_stopped cause g) (by_stop cause (to_return T I) (return_of I) 0 (omega arith) (λ j a b. absurd (omega arith)) s))
        (on_or_stopped (to_return T I).stopped)

  -- ---- a run ends in one way only
  same_cause : {j : ℕ} {c d : Cause} → Stops T I j c → Stops T I j d → c ≡ d
  same_cause (action f) (action g) = one_cause T _ f g
  same_cause (action {cause} f) (long_run e n) = absurd (n cause f)
  same_cause (long_run e n) (action {cause} f) = absurd (n cause f)
  same_cause (long_run e n) (long_run _ _) = refl

  -- Of two states that arise, of which the first stops the run, the second is no later.
  no_later : {i j : ℕ} {c : Cause} → Stops T I i c → Arises T I j → j ≤ i
  no_later {i} {j} {c} s a = go (dec_lt i j)
    where
      go : Dec (i < j) → j ≤ i
      go (yes h) = absurd (a i h c s)
      go (no h) = omega arith

  same_stop : {i j : ℕ} {c d : Cause} → Arises T I i → Stops T I i c → Arises T I j → Stops T I j d → i ≡ j
  same_stop {i} {j} a s b r =
      let x = no_later s b in
      let y = no_later r a in
      omega arith

  same_after : {k l n : ℕ} → AfterScan T I k l → AfterScan T I k n → l ≡ n
  same_after {k} {l} {n} a b = go (dec_lt l n) (dec_lt n l)
    where
      go : Dec (l < n) → Dec (n < l) → l ≡ n
      go (yes h) y = absurd (omega (arith, b.sooner l h, a.done))
      go (no h) (yes i) = absurd (omega (arith, a.sooner n i, b.done))
      go (no h) (no i) = omega arith

  -- Where scan q is done, no state before stops the run.
  not_both : {q j l : ℕ} {c : Cause} → Stops T I j c → (state_at T I j).scan < q → AfterScan T I q l → ⊥
  not_both {q} {j} {l} s early a = omega (arith, scans_rise T I l j (no_later s a.arises), a.done)

  one_stop : {c d : Cause} {m n p q : ℕ} → StoppedBy T I c m p → StoppedBy T I d n q → ◌≡◌ {A = Ran} (Err (Halted c m p)) (Err (Halted d n q))
  one_stop {d = d} x y =
      let e = same_stop x.arises x.stops y.arises y.stops in
      let f = same_cause {d = d} x.stops (rw e y.stops) in
      rw (x.scan_is, x.process_is, y.scan_is, y.process_is, e, f) refl

  one_difference : {c d : Cause} {m n p q : ℕ} → DiffersBy T I c m p → DiffersBy T I d n q → ◌≡◌ {A = Ran} (Err (Halted c m p)) (Err (Halted d n q))
  one_difference x y =
      rw (x.cause_is, x.scan_is, x.process_is, y.cause_is, y.scan_is, y.process_is) refl

  -- The states after scans q and b are equal or not.
  not_either : {c : Cause} {m p n start : ℕ} → DiffersBy T I c m p → ClosesBy T I n start → ⊥
  not_either x y = x.differ (rw (same_after x.after_b y.after_b, same_after x.after_q y.after_q) y.same)

  if_stopped : {c : Cause} {m p : ℕ} → StoppedBy T I c m p → (s : Ran) → Ends T I s → Err (Halted c m p) ≡ s
  if_stopped x (Err (Halted d n q)) (inl y) = one_stop x y
  if_stopped x (Err (Halted d n q)) (inr y) = absurd (not_both x.stops x.early y.after_q)
  if_stopped x (Ok closed) y = absurd (not_both x.stops x.early y.after_q)
  if_stopped x (Err (Refused why)) y = absurd y

  if_different : {c : Cause} {m p : ℕ} → DiffersBy T I c m p → (s : Ran) → Ends T I s → Err (Halted c m p) ≡ s
  if_different x (Err (Halted d n q)) (inl y) = absurd (not_both y.stops y.early x.after_q)
  if_different x (Err (Halted d n q)) (inr y) = one_difference x y
  if_different x (Ok closed) y = absurd (not_either x y)
  if_different x (Err (Refused why)) y = absurd y

  if_closed : {n start : ℕ} → ClosesBy T I n start → (s : Ran) → Ends T I s → closes_at n start ≡ s
  if_closed x (Err (Halted c m p)) (inl y) = absurd (not_both y.stops y.early x.after_q)
  if_closed x (Err (Halted c m p)) (inr y) = absurd (not_either y x)
  if_closed x (Ok closed) y = rw (same_after x.after_b y.after_b, same_after x.after_q y.after_q) refl
  if_closed x (Err (Refused why)) y = absurd y

  one_end : (r s : Ran) → Ends T I r → Ends T I s → r ≡ s
  one_end (Err (Halted c m p)) s (inl x) y = if_stopped x s y
  one_end (Err (Halted c m p)) s (inr x) y = if_different x s y
  one_end (Ok closed) s x y = if_closed x s y
  one_end (Err (Refused why)) s x y = absurd x

-- A run answers what its states say, and nothing else. Of inputs whose return scan is below their scans, as accepted
-- ones have it.
pub ran_exactly : (T I : List ℕ) → return_of I < scans_of I → (r : Ran) → (ran_of T I ≡ r) ↔ Ends T I r
ran_exactly T I below r = (λ e. rw e at (ends T I below), λ h. one_end T I (ran_of T I) r (ends T I below) h)
