-- What the state after a move is: its phase, counter, actions used and scans done.
-- Assumes nothing.
use Prim.Native.Nat.{ℕ, suc, ◌+◌, ◌<◌}
use native.Mathlib.Omega.{arith}
use mathlib.Core.Path.{◌≡◌, refl, ◌∙◌}
use mathlib.Core.Logic.{◌⊎◌, inl, inr}
use mathlib.Core.Bool.{Bool, true, false}
use mathlib.Core.List.{List}
use lib.Dec.{eqb}
use borrow.Author.Tests.{lt-ltb}
use Rattle.std.specs.Prelude.{None}
use Rattle.coding.specs.declared.Cause.{Cause}
use Rattle.ranges.specs.Values.{pick}
use Rattle.requirement.specs.declared.Phase.{Phase}
use Rattle.requirement.specs.declared.Phase.TheVariants.{Input, Exe, Output}
use Rattle.lookups.specs.Places.{processes_of}
use Rattle.controller.specs.State.{up, body_end, record_at}
use Rattle.controller.specs.Rules.{counter_after, act_of}
use Rattle.controller.specs.declared.Acted.{Acted}
use Rattle.controller.specs.declared.Action.{Action}
use Rattle.controller.specs.declared.Action.TheVariants.{Skip, End}
use Rattle.controller.specs.declared.Controller.{Controller}
use Rattle.controller.specs.declared.Outcome.{Outcome}
use Rattle.controller.specs.declared.Outcome.TheVariants.{Stays, Passes}
use Rattle.scan.specs.Scanning.{read_of, write_of}
use Rattle.run.specs.Limits.{longest_turn}
use Rattle.run.specs.Moves.{step_of, active, move_of}
use Rattle.run.specs.declared.Machine.{Machine}
use Rattle.endless.proofs.States.{never}
use Rattle.invariants.specs.Runs.{RunOf, move_at}
use Rattle.invariants.specs.Refusals.{Acts, Forbids, long_turn, no_rule}
use Rattle.invariants.specs.Turns.{turn_at}
use Rattle.invariants.proofs.MoveKinds.{step_in, by_kind}

pub exe_or_output : {p : Phase} → p ≡ Exe → p ≡ Output → ⊥
exe_or_output e f = let z : ◌≡◌ {A = ℕ} 0 1 = cc in omega arith

pub input_or_output : {p : Phase} → p ≡ Input → p ≡ Output → ⊥
input_or_output e f = let z : ◌≡◌ {A = ℕ} 0 1 = cc in omega arith

-- ---- the counter after an action
record Counts (n : ℕ) (a : Acted) : Type 0 where
  counter : a.state.counter ≡ counter_after a.outcome n

act_counts : (i : ℕ) (a : Action) (k : ℕ) (c : Controller) → Counts c.counter (act_of i a k c)
unfolding act_of
act_counts i a k c = record { counter = refl }

chosen : {n : ℕ} (b : Bool) {x y : Acted} → Counts n x → Counts n y → Counts n (pick b x y)
chosen true p q = p
chosen false p q = q

step_counts : (T : List ℕ) (i : ℕ) (c : Controller) → Counts c.counter (step_of T i c)
unfolding step_of
step_counts T i c =
    let p = record_at c.processes i in
    chosen (active p.state) (chosen (eqb p.action body_end) (act_counts i End 0 c) (act_counts i _ _ c)) (act_counts i Skip 0 c)

counter_is : (a : Acted) (n : ℕ) (o : Outcome) → Counts n a → a.outcome ≡ o → a.state.counter ≡ counter_after o n
counter_is a n o h e = rw e at h.counter

up_one : (n : ℕ) → n < 65535 → up n ≡ n + 1
unfolding up
up_one n h = rw (lt-ltb n 65535 h) refl

-- ---- a machine and the next
pub record Stayed (T : List ℕ) (m l : Machine) : Type 0 where
  pub within : m.used < longest_turn
  pub outcome : (step_in T m).outcome ≡ Stays
  pub counter : l.state.counter ≡ m.state.counter
  pub used : l.used ≡ m.used + 1
  pub phase : l.phase ≡ Exe

pub record Passed (T : List ℕ) (m l : Machine) : Type 0 where
  pub within : m.used < longest_turn
  pub outcome : (step_in T m).outcome ≡ Passes
  pub counter : l.state.counter ≡ m.state.counter + 1
  pub used : l.used ≡ 0
  pub phase : l.phase ≡ Exe

pub record WasRead (l : Machine) : Type 0 where
  pub counter : l.state.counter ≡ 1
  pub used : l.used ≡ 0
  pub phase : l.phase ≡ Input

pub record WasWritten (m l : Machine) : Type 0 where
  pub counter : l.state.counter ≡ 0
  pub phase : l.phase ≡ Output
  pub scan : l.scan ≡ m.scan + 1

acting : {T : List ℕ} {m : Machine} {cause : Cause} → Forbids T m cause → Acts T m
acting (long_turn a _) = a
acting (no_rule a _ _) = a

module _ (T I : List ℕ) (d : ℕ) (m : Machine) where
  acted : processes_of T < 65535 → Acts T m → (move_of T I d m).stopped ≡ None →
      Stayed T m (move_of T I d m).machine ⊎ Passed T m (move_of T I d m).machine
  acted few a =
      let counts = step_counts T m.state.counter m.state in
      by_kind (λ x. x.stopped ≡ None → Stayed T m x.machine ⊎ Passed T m x.machine) T I d m
      (λ e. absurd (omega arith))
      (λ e f. absurd (omega arith))
      (λ b l e g. inl
      (record {
        within = l;
        outcome = e;
        counter = counter_is (step_in T m) m.state.counter Stays counts e;
        used = refl;
        phase = refl;
      }))
      (λ b l e g. inr
      (record {
        within = l;
        outcome = e;
        counter =
            counter_is (step_in T m) m.state.counter Passes counts e ∙ up_one m.state.counter (omega arith);
        used = refl;
        phase = refl;
      }))
      (λ cause f g. absurd (never g))

  was_read : m.state.counter ≡ 0 → WasRead (move_of T I d m).machine
  unfolding read_of
  was_read z =
      by_kind (λ x. WasRead x.machine) T I d m
      (λ e. record { counter = refl; used = refl; phase = refl })
      (λ e f. absurd (omega arith))
      (λ a l e. absurd (omega arith))
      (λ a l e. absurd (omega arith))
      (λ cause f. let a = acting f in absurd (omega arith))

  was_written : processes_of T < m.state.counter → WasWritten m (move_of T I d m).machine
  unfolding write_of
  was_written z =
      by_kind (λ x. WasWritten m x.machine) T I d m
      (λ e. absurd (omega arith))
      (λ e f. record { counter = refl; phase = refl; scan = refl })
      (λ a l e. absurd (omega arith))
      (λ a l e. absurd (omega arith))
      (λ cause f. let a = acting f in absurd (omega arith))

  -- Scans are done by writes alone.
  same_scan : ¬ ((move_of T I d m).machine.phase ≡ Output) → (move_of T I d m).machine.scan ≡ m.scan
  same_scan =
      by_kind (λ x. ¬ (x.machine.phase ≡ Output) → x.machine.scan ≡ m.scan) T I d m
      (λ e n. refl) (λ e f n. absurd (n refl)) (λ a l e n. refl) (λ a l e n. refl) (λ cause f n. refl)

  output_scan : (move_of T I d m).stopped ≡ None → (move_of T I d m).machine.phase ≡ Output →
      (move_of T I d m).machine.scan ≡ m.scan + 1
  output_scan =
      by_kind (λ x. x.stopped ≡ None → x.machine.phase ≡ Output → x.machine.scan ≡ m.scan + 1) T I d m
      (λ e g o. absurd (input_or_output refl o))
      (λ e f g o. refl)
      (λ a l e g o. absurd (exe_or_output refl o))
      (λ a l e g o. absurd (exe_or_output refl o))
      (λ cause f g o. absurd (never g))

-- ---- the same of the states of a run
module _ {T I : List ℕ} {taking : ℕ → ℕ} {state : ℕ → Machine} (r : RunOf T I taking state) (k : ℕ) where
  pub acted_at : processes_of T < 65535 → Acts T (state k) → (move_at T I taking state k).stopped ≡ None →
      Stayed T (state k) (state (suc k)) ⊎ Passed T (state k) (state (suc k))
  acted_at few a g = rw (r.next k) (acted T I (taking (state k).scan) (state k) few a g)

  pub read_at : turn_at state k ≡ 0 → WasRead (state (suc k))
  read_at e = rw (r.next k) (was_read T I (taking (state k).scan) (state k) e)

  pub written_at : processes_of T < turn_at state k → WasWritten (state k) (state (suc k))
  written_at h = rw (r.next k) (was_written T I (taking (state k).scan) (state k) h)

  pub same_scan_at : ¬ ((state (suc k)).phase ≡ Output) → (state (suc k)).scan ≡ (state k).scan
  same_scan_at n = rw (r.next k) (same_scan T I (taking (state k).scan) (state k) (rw (r.next k) at n))

  pub output_scan_at : (move_at T I taking state k).stopped ≡ None → (state (suc k)).phase ≡ Output →
      (state (suc k)).scan ≡ (state k).scan + 1
  output_scan_at g o = rw (r.next k) (output_scan T I (taking (state k).scan) (state k) g (rw (r.next k) at o))
