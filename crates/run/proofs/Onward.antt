-- Going on from a state until so many scans are done: the answer, and the trace that is written on the way.
-- Assumes nothing.
use Prim.Native.Nat.{ℕ, zero, suc, ◌+◌, ◌-◌, ◌*◌, ◌≤◌, ◌<◌}
use mathlib.Core.Path.{◌≡◌, refl, sym, ap, ◌∙◌}
use mathlib.Core.Bool.{Bool, true, false}
use mathlib.Core.List.{List, [], ◌∷◌, ◌++◌, append_assoc}
use native.Mathlib.Omega.{arith}
use lib.ListN.{length, length-append}
use lib.Dec.{ltb}
use borrow.Author.Tests.{ltb-true}
use Rattle.std.specs.Prelude.{Option, None, Some}
use Rattle.coding.specs.Room.{over}
use Rattle.coding.specs.declared.Cause.{Cause}
use Rattle.coding.specs.declared.Cause.TheVariants.{LongRun}
use Rattle.coding.proofs.Bytes.{over_append, over_length, over_nil}
use Rattle.ranges.specs.Values.{pick}
use Rattle.lasso.specs.Bytes.{phase_number}
use Rattle.controller.specs.State.{states_of}
use Rattle.scan.specs.Position.{atom_bytes, state_bytes}
use Rattle.scan.proofs.Position.{bytes_length}
use Rattle.run.specs.Limits.{last_state}
use Rattle.run.specs.Running.{recorded_move, here, stopped_at, reached}
use Rattle.run.specs.Trace.{path}
use Rattle.run.specs.declared.Machine.{Machine}
use Rattle.run.specs.declared.Moved.{Moved}
use Rattle.run.specs.declared.Reached.{Reached}

-- What a turn comes to: `on` where the run goes on.
abbrev chosen : Bool → Option Cause → Reached → ℕ → Machine → Reached
chosen t g on n m = pick t (elim g [ None ↦ on | Some cause ↦ stopped_at cause n m ]) (here n m)

module _ (P : Reached → Type 0) (n : ℕ) (m : Machine) (on : Reached) where
  in_all : (t : Bool) (g : Option Cause) → (t ≡ true → P on) → ((cause : Cause) → t ≡ true → P (stopped_at cause n m)) → P (here n m) → P (chosen t g on n m)
  in_all true None h s e = h refl
  in_all true (Some cause) h s e = s cause refl
  in_all false g h s e = e

module _ (T I : List ℕ) (k : ℕ) where
  -- ---- every turn
  module _ (n : ℕ) (m : Machine) where
    pub turn_done : (more : ℕ) → ltb m.scan k ≡ false → reached T I k more n m ≡ here n m
    unfolding reached
    turn_done zero e = rw e
    turn_done (suc more) e = rw e

    pub turn_stops : (more : ℕ) (cause : Cause) → ltb m.scan k ≡ true → (recorded_move T I m).stopped ≡ Some cause → reached T I k more n m ≡ stopped_at cause n m
    unfolding reached
    turn_stops zero cause e g = rw (e, g)
    turn_stops (suc more) cause e g = rw (e, g)

    pub turn_spent : ltb m.scan k ≡ true → (recorded_move T I m).stopped ≡ None → reached T I k 0 n m ≡ stopped_at LongRun n m
    unfolding reached
    turn_spent e g = rw (e, g)

    pub turn_on : (more : ℕ) → ltb m.scan k ≡ true → (recorded_move T I m).stopped ≡ None →
        reached T I k (suc more) n m ≡ reached T I k more (n + 1) (recorded_move T I m).machine
    unfolding reached
    turn_on more e g = rw (reached, e, g)

  -- ---- the number and the machine of the answer
  pub number_up : (more n : ℕ) (m : Machine) → (n ≤ (reached T I k more n m).number) × ((reached T I k more n m).number ≤ n + more)
  unfolding reached
  number_up zero n m =
      in_all (λ r. (n ≤ r.number) × (r.number ≤ n + 0)) n m (stopped_at LongRun n m) (ltb m.scan k) (recorded_move T I m).stopped
      (λ e. (omega arith, omega arith)) (λ cause e. (omega arith, omega arith)) (omega arith, omega arith)
  number_up (suc more) n m =
      let h = number_up more (n + 1) (recorded_move T I m).machine in
      in_all (λ r. (n ≤ r.number) × (r.number ≤ n + suc more)) n m (reached T I k more (n + 1) (recorded_move T I m).machine) (ltb m.scan k) (recorded_move T I m).stopped
      (λ e. (omega (arith, h.0), omega (arith, h.1))) (λ cause e. (omega arith, omega arith)) (omega arith, omega arith)

  -- a run that is stopped was still to go on
  abbrev pub Below : Option Cause → Machine → Type 0
  Below None m = Unit {0}
  Below (Some cause) m = m.scan < k

  pub below : (more n : ℕ) (m : Machine) → Below (reached T I k more n m).stopped (reached T I k more n m).machine
  unfolding reached
  below zero n m =
      in_all (λ r. Below r.stopped r.machine) n m (stopped_at LongRun n m) (ltb m.scan k) (recorded_move T I m).stopped
      (λ e. ltb-true _ _ e) (λ cause e. ltb-true _ _ e) tt
  below (suc more) n m =
      in_all (λ r. Below r.stopped r.machine) n m (reached T I k more (n + 1) (recorded_move T I m).machine) (ltb m.scan k) (recorded_move T I m).stopped
      (λ e. below more (n + 1) (recorded_move T I m).machine) (λ cause e. ltb-true _ _ e) tt

-- ---- the bytes of a path
module _ (T I : List ℕ) where
  pub path_length : (n : ℕ) (m : Machine) → length (path T I n m) ≡ n * 5
  unfolding path
  path_length zero m = refl
  path_length (suc n) m =
      rw length-append (omega (arith, bytes_length T m.phase m.state, path_length n (recorded_move T I m).machine))

  path_none : (n : ℕ) (m : Machine) → path T I (n - n) m ≡ []
  unfolding path
  path_none n m = let e : n - n ≡ 0 = omega arith in rw e

  path_more : (to n : ℕ) (m : Machine) → n + 1 ≤ to → path T I (to - n) m ≡ state_bytes T m.phase m.state ++ path T I (to - (n + 1)) (recorded_move T I m).machine
  unfolding path
  path_more to n m h = let e : to - n ≡ suc (to - (n + 1)) = omega arith in rw (e, path)

  -- a state's bytes in front of those of its followers
  write_on : (to n : ℕ) (m : Machine) (e f : List ℕ) → n + 1 ≤ to → f ≡ over e (n * 5) (state_bytes T m.phase m.state) →
      over f ((n + 1) * 5) (path T I (to - (n + 1)) (recorded_move T I m).machine) ≡ over e (n * 5) (path T I (to - n) m)
  write_on to n m e f h written =
      let z : (n + 1) * 5 ≡ n * 5 + length (state_bytes T m.phase m.state) = omega (arith, bytes_length T m.phase m.state) in
      rw (z, written, path_more to n m h)
      (over_append e (n * 5) (state_bytes T m.phase m.state) (path T I (to - (n + 1)) (recorded_move T I m).machine))

  -- to a state that was reached, and on from there
  abbrev Joined : ℕ → ℕ → Machine → Reached → Type 0
  Joined to n m r = r.number ≤ to → path T I (to - n) m ≡ path T I (r.number - n) m ++ path T I (to - r.number) r.machine

  module _ (k to : ℕ) where
    joined_here : (n : ℕ) (m : Machine) → path T I (to - n) m ≡ path T I (n - n) m ++ path T I (to - n) m
    joined_here n m = rw (path_none n m)

    joined_on : (n : ℕ) (m : Machine) (r : Reached) → n + 1 ≤ r.number → Joined to (n + 1) (recorded_move T I m).machine r → Joined to n m r
    joined_on n m r up ih h =
        let far : n + 1 ≤ to = omega arith in
        rw (path_more to n m far, path_more r.number n m up, ih h, append_assoc)

    pub path_join : (more n : ℕ) (m : Machine) → Joined to n m (reached T I k more n m)
    unfolding reached
    path_join zero n m =
        in_all (Joined to n m) n m (stopped_at LongRun n m) (ltb m.scan k) (recorded_move T I m).stopped
        (λ e h. joined_here n m) (λ cause e h. joined_here n m) (λ h. joined_here n m)
    path_join (suc more) n m =
        in_all (Joined to n m) n m (reached T I k more (n + 1) (recorded_move T I m).machine) (ltb m.scan k) (recorded_move T I m).stopped
        (λ e. joined_on n m (reached T I k more (n + 1) (recorded_move T I m).machine) (number_up T I k more (n + 1) (recorded_move T I m).machine).0 (path_join more (n + 1) (recorded_move T I m).machine))
        (λ cause e h. joined_here n m) (λ h. joined_here n m)

-- The atoms of the state that is left are known, so its bytes are put.
abbrev pub Known : List ℕ → Machine → List ℕ → Type 0
Known T m atoms = atoms ≡ atom_bytes T m.state.variables (states_of m.state.processes)

pub state_put : (T : List ℕ) (m : Machine) (atoms e f : List ℕ) (at : ℕ) → Known T m atoms → f ≡ over e at (phase_number m.phase ∷ atoms) →
    f ≡ over e at (state_bytes T m.phase m.state)
unfolding state_bytes
state_put T m atoms e f at known written = rw known at written

-- ---- the loop
-- The whole answer from state `from` on, and what it promises.
abbrev wholly : List ℕ → List ℕ → ℕ → ℕ → Machine → Reached
wholly T I k n m = reached T I k (last_state - n) n m

abbrev pub Came : List ℕ → List ℕ → ℕ → ℕ → Machine → List ℕ → Reached → List ℕ → Type 0
Came T I k from machine d r e = (r ≡ reached T I k (last_state - from) from machine) × (r.number ≤ last_state) × (e ≡ over d (from * 5) (path T I (r.number - from) machine))

-- At state n, with the buffer e: what is left gives the answer, and the bytes that are left give the buffer.
pub record Left (T I : List ℕ) (k from : ℕ) (machine : Machine) (d : List ℕ) (n : ℕ) (m : Machine) (e : List ℕ) : Type 0 where
  pub same : wholly T I k n m ≡ wholly T I k from machine
  pub low : from ≤ n
  pub high : n ≤ last_state
  pub size : length e ≡ length d
  pub bytes : over e (n * 5) (path T I ((wholly T I k n m).number - n) m) ≡ over d (from * 5) (path T I ((wholly T I k n m).number - from) machine)

module _ (T I : List ℕ) (k from : ℕ) (machine : Machine) (d : List ℕ) where
  module _ (n : ℕ) (m : Machine) (e : List ℕ) (l : Left T I k from machine d n m e) where
    -- where the answer is at this state
    ended : (r : Reached) → r.number ≡ n → wholly T I k n m ≡ r → Came T I k from machine d r e
    ended r z h =
        let g = rw (h, z, path_none T I n m, over_nil) at l.bytes in
        (sym h ∙ l.same, rw z l.high, rw z g)

    pub finish : ltb m.scan k ≡ false → Came T I k from machine d (here n m) e
    finish h = ended (here n m) refl (turn_done T I k n m (last_state - n) h)

    module _ (h : ltb m.scan k ≡ true) (x : Moved) (made : x ≡ recorded_move T I m) where
      pub stopped : (cause : Cause) → x.stopped ≡ Some cause → Came T I k from machine d (stopped_at cause n m) e
      stopped cause g = ended (stopped_at cause n m) refl (turn_stops T I k n m (last_state - n) cause h (rw made at g))

      module _ (on : x.stopped ≡ None) where
        pub spent : last_state ≤ n → Came T I k from machine d (stopped_at LongRun n m) e
        spent far =
            let high = l.high in
            let z : last_state - n ≡ 0 = omega arith in
            ended (stopped_at LongRun n m) refl (rw z (turn_spent T I k n m h (rw made at on)))

        pub goes_on : n < last_state → (f : List ℕ) → f ≡ over e (n * 5) (state_bytes T m.phase m.state) →
            Left T I k from machine d (n + 1) x.machine f
        goes_on near f written =
            let z : last_state - n ≡ suc (last_state - (n + 1)) = omega arith in
            let step : wholly T I k n m ≡ wholly T I k (n + 1) x.machine = rw (z, made) (turn_on T I k n m (last_state - (n + 1)) h (rw made at on)) in
            let up : n + 1 ≤ (wholly T I k (n + 1) x.machine).number = (number_up T I k (last_state - (n + 1)) (n + 1) x.machine).0 in
            let rest = write_on T I (wholly T I k (n + 1) x.machine).number n m e f up written in
            record {
              same = sym step ∙ l.same;
              low = let low = l.low in omega arith;
              high = omega arith;
              size = rw (written, over_length e (n * 5) (state_bytes T m.phase m.state)) l.size;
              bytes = rw (← ap (λ (y : Moved). y.machine) made) at rest ∙ rw step at l.bytes;
            }
