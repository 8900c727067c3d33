-- The kinds of a move: a read, a write, an action that keeps the turn or passes it on, and a move that is stopped, each
-- with what is known there.
-- Assumes nothing.
use Prim.Native.Nat.{ℕ, ◌<◌}
use native.Mathlib.Omega.{arith}
use mathlib.Core.Path.{◌≡◌, refl}
use mathlib.Core.Bool.{Bool, true, false}
use mathlib.Core.List.{List}
use lib.Dec.{eqb, ltb}
use borrow.Author.Tests.{eqb-true, eqb-false, ltb-true, ltb-false}
use Rattle.std.specs.Prelude.{None, Some}
use Rattle.coding.specs.declared.Cause.{Cause}
use Rattle.coding.specs.declared.Cause.TheVariants.{NoRule as NoRuleFound, LongTurn}
use Rattle.ranges.specs.Values.{pick}
use Rattle.lookups.specs.Places.{processes_of}
use Rattle.controller.specs.declared.Acted.{Acted}
use Rattle.controller.specs.declared.Outcome.{Outcome}
use Rattle.controller.specs.declared.Outcome.TheVariants.{Stays, Passes, NoRule}
use Rattle.scan.specs.Scanning.{read_of, write_of}
use Rattle.run.specs.Limits.{longest_turn}
use Rattle.run.specs.Moves.{to, stops, step_of, too_long, unruled, before, unless, after_action, action_move, after_read}
use Rattle.run.specs.Moves.{after_write, move_of}
use Rattle.run.specs.declared.Machine.{Machine}
use Rattle.run.specs.declared.Moved.{Moved}
use Rattle.endless.proofs.Moves.{after_stay, after_pass}
use Rattle.invariants.specs.Refusals.{Acts, Forbids, long_turn, no_rule}

-- What the process whose turn it is does.
abbrev pub step_in : List ℕ → Machine → Acted
step_in T m = step_of T m.state.counter m.state

-- Whatever is so of each kind of move is so of the move.
module _ (P : Moved → Type 0) (T I : List ℕ) (d : ℕ) (m : Machine)
    (read : m.state.counter ≡ 0 → P (to (after_read m (read_of T I d m.state))))
    (write : 0 < m.state.counter → processes_of T < m.state.counter → P (to (after_write m (write_of T m.state))))
    (stay : Acts T m → m.used < longest_turn → (step_in T m).outcome ≡ Stays → P (to (after_stay m (step_in T m).state)))
    (pass : Acts T m → m.used < longest_turn → (step_in T m).outcome ≡ Passes → P (to (after_pass m (step_in T m).state)))
    (stop : (cause : Cause) → Forbids T m cause → P (stops cause m)) where
  by_rule : Acts T m → m.used < longest_turn → (o : Outcome) → (step_in T m).outcome ≡ o →
      P (unless (unruled o) m (after_action m o (step_in T m).state))
  by_rule a l Stays e = stay a l e
  by_rule a l Passes e = pass a l e
  by_rule a l NoRule e = stop NoRuleFound (no_rule a l e)

  by_action : Acts T m → P (action_move T m)
  unfolding action_move too_long
  by_action a = go (ltb m.used longest_turn) refl
    where
      go : (b : Bool) → ltb m.used longest_turn ≡ b →
          P (unless (before (pick b None (Some LongTurn)) (unruled (step_in T m).outcome)) m (after_action m (step_in T m).outcome (step_in T m).state))
      go true e = by_rule a (ltb-true m.used longest_turn e) (step_in T m).outcome refl
      go false e = stop LongTurn (long_turn a (ltb-false m.used longest_turn e))

  pub by_kind : P (move_of T I d m)
  unfolding move_of
  by_kind = go (eqb m.state.counter 0) (ltb (processes_of T) m.state.counter) refl refl
    where
      go : (x y : Bool) → eqb m.state.counter 0 ≡ x → ltb (processes_of T) m.state.counter ≡ y →
          P (move_of T I d m)
      go true y e f = rw e (read (eqb-true m.state.counter 0 e))
      go false true e f =
          let n : ¬ (m.state.counter ≡ 0) = eqb-false m.state.counter 0 e in
          rw (e, f) (write (omega arith) (ltb-true (processes_of T) m.state.counter f))
      go false false e f =
          let n : ¬ (m.state.counter ≡ 0) = eqb-false m.state.counter 0 e in
          let k = ltb-false (processes_of T) m.state.counter f in
          rw (e, f) (by_action (omega arith))
