-- What stops a move, and how many scans are done after it.
-- Assumes nothing.
use Prim.Native.Nat.{ℕ, zero, suc, ◌+◌, ◌-◌, ◌<◌, ◌≤◌}
use native.Mathlib.Omega.{arith}
use mathlib.Core.Path.{◌≡◌, refl}
use mathlib.Core.List.{List}
use Rattle.std.specs.Prelude.{Option, None, Some}
use Rattle.coding.specs.declared.Cause.{Cause}
use Rattle.requirement.specs.declared.Phase.{Phase}
use Rattle.controller.specs.declared.Controller.{Controller}
use Rattle.controller.specs.declared.Outcome.{Outcome}
use Rattle.controller.specs.declared.Outcome.TheVariants.{Stays, Passes}
use Rattle.run.specs.Limits.{longest_turn}
use Rattle.run.specs.Moves.{to, unruled, move_of}
use Rattle.run.specs.declared.Machine.{Machine}
use Rattle.run.specs.declared.Moved.{Moved}
use Rattle.endless.specs.Recorded.{state_at}
use Rattle.endless.proofs.States.{never}
use Rattle.invariants.specs.Refusals.{Acts, Forbids, long_turn, no_rule}
use Rattle.invariants.proofs.MoveKinds.{step_in, by_kind}

module _ (T : List ℕ) (m : Machine) where
  -- What a look at the next move says.
  abbrev pub Says : Option Cause → Type 0
  Says None = (cause : Cause) → ¬ Forbids T m cause
  Says (Some cause) = Forbids T m cause

  no_action_lem : ¬ Acts T m → Says None
  no_action_lem n cause (long_turn a _) = n a
  no_action_lem n cause (no_rule a _ _) = n a

  -- An action within the turn's 64 that has a rule.
  has_rule : m.used < longest_turn → (o : Outcome) → (step_in T m).outcome ≡ o → unruled o ≡ None → Says None
  has_rule l o f e cause (long_turn _ k) = omega arith
  has_rule l o f e cause (no_rule _ _ k) = never (rw (← f, k) at e)

  -- A read and a write go on; an action as long as nothing is against it.
  pub says : (I : List ℕ) (d : ℕ) → Says (move_of T I d m).stopped
  says I d =
      by_kind (λ x. Says x.stopped) T I d m
      (λ e. no_action_lem (λ a. omega arith))
      (λ e f. no_action_lem (λ a. omega arith))
      (λ a l e. has_rule l Stays e refl)
      (λ a l e. has_rule l Passes e refl)
      (λ cause f. f)

  -- What is against a move stops it, and is one thing.
  pub forbidden_stops : (I : List ℕ) (d : ℕ) {cause : Cause} → Forbids T m cause → ¬ ((move_of T I d m).stopped ≡ None)
  forbidden_stops I d {cause} f e = (rw e at (says I d)) cause f

  pub one_cause : {c d : Cause} → Forbids T m c → Forbids T m d → c ≡ d
  one_cause (long_turn _ _) (long_turn _ _) = refl
  one_cause (long_turn _ k) (no_rule _ l _) = absurd (omega arith)
  one_cause (no_rule _ l _) (long_turn _ k) = absurd (omega arith)
  one_cause (no_rule _ _ _) (no_rule _ _ _) = refl

-- ---- the scans done
record Grows (s : ℕ) (x : Moved) : Type 0 where
  least : s ≤ x.machine.scan
  most : x.machine.scan ≤ s + 1

grows : (T I : List ℕ) (d : ℕ) (m : Machine) → Grows m.scan (move_of T I d m)
grows T I d m =
    by_kind (λ x. Grows m.scan x) T I d m (λ e. same) (λ e f. record { least = omega arith; most = omega arith }) (λ a l e. same) (λ a l e. same)
    (λ cause f. record { least = omega arith; most = omega arith })
  where
    same : {p : Phase} {c : Controller} {u : ℕ} →
        Grows m.scan (to (record { phase = p; state = c; used = u; scan = m.scan }))
    same = record { least = omega arith; most = omega arith }

module _ (T I : List ℕ) where
  pub scan_least : (j : ℕ) → (state_at T I j).scan ≤ (state_at T I (suc j)).scan
  unfolding state_at
  scan_least j = (grows T I (state_at T I j).scan (state_at T I j)).least

  pub scan_most : (j : ℕ) → (state_at T I (suc j)).scan ≤ (state_at T I j).scan + 1
  unfolding state_at
  scan_most j = (grows T I (state_at T I j).scan (state_at T I j)).most

  pub scans_grow : (i k : ℕ) → (state_at T I i).scan ≤ (state_at T I (k + i)).scan
  scans_grow i zero = let e : 0 + i ≡ i = omega arith in rw e (omega arith)
  scans_grow i (suc k) =
      let e : suc k + i ≡ suc (k + i) = omega arith in rw e (omega (arith, scans_grow i k, scan_least (k + i)))

  -- The later the state, the more scans are done.
  pub scans_rise : (i j : ℕ) → i ≤ j → (state_at T I i).scan ≤ (state_at T I j).scan
  scans_rise i j h = let e : (j - i) + i ≡ j = omega arith in rw e at (scans_grow i (j - i))
