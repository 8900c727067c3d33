-- One move, by cases: what the code finds out on its way is what the definitions ask.
-- Assumes nothing.
use Prim.Native.Nat.{ℕ, ◌<◌}
use mathlib.Core.Path.{◌≡◌, refl}
use mathlib.Core.Bool.{Bool, true, false}
use mathlib.Core.List.{List}
use lib.Dec.{ltb}
use borrow.Author.Tests.{eq-eqb, ne_eqb, ltb-true}
use Rattle.std.specs.Prelude.{Option, None, Some}
use Rattle.std.specs.Option.{option_or}
use Rattle.coding.specs.declared.Cause.{Cause}
use Rattle.coding.specs.declared.Cause.TheVariants.{LongTurn}
use Rattle.ranges.specs.Values.{pick}
use Rattle.lookups.specs.Places.{state_place, action_from, action_of as row_of}
use Rattle.lookups.specs.declared.ActionRow.{ActionRow}
use Rattle.controller.specs.State.{record_at}
use Rattle.controller.specs.Rules.{act_of}
use Rattle.controller.specs.Actions.{action_of}
use Rattle.controller.specs.declared.Process.{Process}
use Rattle.controller.specs.declared.Controller.{Controller}
use Rattle.controller.specs.declared.Action.{Action}
use Rattle.controller.specs.declared.Action.TheVariants.{Skip, End}
use Rattle.controller.specs.declared.Acted.{Acted}
use Rattle.scan.specs.Guards.{next_of}
use Rattle.run.specs.Limits.{longest_turn}
use Rattle.run.specs.Moves.{to, stops, active, step_of, after_action, too_long, unruled, before, action_move}
use Rattle.run.specs.declared.Machine.{Machine}

-- ---- the action of process i, whose record is p
module _ (T : List ℕ) (i : ℕ) (c : Controller) (p : Process) (a : Bool) (own : p ≡ record_at c.processes i) (told : a ≡ active p.state) where
  pub skips : a ≡ false → step_of T i c ≡ act_of i Skip 0 c
  unfolding step_of
  skips e = rw (← own, ← told, e) refl

  pub ends : a ≡ true → p.action ≡ 0 → step_of T i c ≡ act_of i End 0 c
  unfolding step_of
  ends e h = rw (← own, ← told, e, eq-eqb _ _ h) refl

  pub acts : a ≡ true → (p.action ≡ 0 → ⊥) → (state : ℕ) → state ≡ state_place T i p.state → (r : ActionRow) → r ≡ action_from T state p.action →
      (next : ℕ) → next ≡ next_of T c r → (action : Action) → action ≡ action_of r.op r.x r.y → step_of T i c ≡ act_of i action next c
  unfolding step_of row_of
  acts e h state at r row next goes action does = rw (← own, ← told, e, ne_eqb _ _ h, ← at, ← row, ← goes, ← does) refl

-- ---- whether the run goes on
-- The first of two looks that stops the run, as the library's word for it.
or_before : (first later : Option Cause) → option_or first later ≡ before first later
or_before (Some cause) later = refl
or_before None later = refl

-- A look that the run passes finds the turn short.
abbrev Passed : ℕ → Option Cause → Type 0
Passed used None = used < longest_turn
Passed used (Some cause) = Unit {0}

pub passed : (used : ℕ) (later : Option Cause) → Passed used (before (too_long used) later)
unfolding too_long
passed used later = go (ltb used longest_turn) refl later
  where
    go : (b : Bool) → ltb used longest_turn ≡ b → (g : Option Cause) → Passed used (before (pick b None (Some LongTurn)) g)
    go true e None = ltb-true _ _ e
    go true e (Some cause) = tt
    go false e g = tt

pub short : (used : ℕ) (long missing g : Option Cause) → long ≡ too_long used → g ≡ option_or long missing → g ≡ None → used < longest_turn
short used long missing g l first e = rw (← l, ← or_before long missing, ← first, e) at (passed used missing)

module _ (T : List ℕ) (m : Machine) (a : Acted) (own : a ≡ step_of T m.state.counter m.state) (long missing g : Option Cause)
    (l : long ≡ too_long m.used) (u : missing ≡ unruled a.outcome) (first : g ≡ option_or long missing) where
  pub stopped_by : (cause : Cause) → g ≡ Some cause → action_move T m ≡ stops cause m
  unfolding action_move
  stopped_by cause e = rw (← own, ← l, ← u, ← or_before long missing, ← first, e) refl

  pub moved_by : g ≡ None → action_move T m ≡ to (after_action m a.outcome a.state)
  unfolding action_move
  moved_by e = rw (← own, ← l, ← u, ← or_before long missing, ← first, e) refl
