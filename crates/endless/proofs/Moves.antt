-- What a move can be, and that the scans done matter to it only by the inputs that they choose.
-- Assumes nothing.
use Prim.Native.Nat.{ℕ, ◌+◌, ◌<◌}
use native.Mathlib.Omega.{arith}
use mathlib.Core.Path.{◌≡◌, refl}
use mathlib.Core.Bool.{Bool, true, false}
use mathlib.Core.List.{List}
use lib.Dec.{eqb, ltb}
use borrow.Author.Tests.{eqb-true, eqb-false, ltb-true}
use Rattle.std.specs.Prelude.{Option, None, Some}
use Rattle.coding.specs.declared.Cause.{Cause}
use Rattle.coding.specs.declared.Cause.TheVariants.{NoRule as NoRuleFound}
use Rattle.ranges.specs.Values.{pick}
use Rattle.requirement.specs.declared.Phase.TheVariants.{Exe}
use Rattle.lookups.specs.Places.{processes_of}
use Rattle.controller.specs.State.{up, body_end, record_at}
use Rattle.controller.specs.Rules.{counter_after, act_of}
use Rattle.controller.specs.declared.Controller.{Controller}
use Rattle.controller.specs.declared.Action.{Action}
use Rattle.controller.specs.declared.Action.TheVariants.{Skip, End}
use Rattle.controller.specs.declared.Acted.{Acted}
use Rattle.controller.specs.declared.Outcome.{Outcome}
use Rattle.controller.specs.declared.Outcome.TheVariants.{Stays, Passes, NoRule}
use Rattle.scan.specs.Scanning.{read_of, write_of}
use Rattle.run.specs.Moves.{to, stops, step_of, active, after_action, too_long, unruled, before, unless, action_move, after_read, after_write, move_of}
use Rattle.run.specs.declared.Machine.{Machine}
use Rattle.run.specs.declared.Moved.{Moved}

-- ---- an action never brings the counter back to 0
up_some : (n : ℕ) → 0 < n → 0 < up n
unfolding up
up_some n h = go (ltb n 65535)
  where
    go : (b : Bool) → 0 < pick b (n + 1) n
    go true = omega arith
    go false = h

counter_some : (o : Outcome) (n : ℕ) → 0 < n → 0 < counter_after o n
counter_some Stays n h = h
counter_some Passes n h = up_some n h
counter_some NoRule n h = h

record Counting (a : Acted) : Type 0 where
  counter : 0 < a.state.counter

act_some : (i : ℕ) (a : Action) (k : ℕ) (c : Controller) → 0 < c.counter → Counting (act_of i a k c)
unfolding act_of
act_some i a k c h = record { counter = counter_some (act_of i a k c).outcome c.counter h }

chosen : (b : Bool) {x y : Acted} → Counting x → Counting y → Counting (pick b x y)
chosen true p q = p
chosen false p q = q

step_some : (T : List ℕ) (i : ℕ) (c : Controller) → 0 < c.counter → Counting (step_of T i c)
unfolding step_of
step_some T i c h =
    let p = record_at c.processes i in
    chosen (active p.state) (chosen (eqb p.action body_end) (act_some i End 0 c h) (act_some i _ _ c h)) (act_some i Skip 0 c h)

-- A read sets the counter to 1, and a write to 0.
read_counter : (T I : List ℕ) (d : ℕ) (c : Controller) → (read_of T I d c).counter ≡ 1
unfolding read_of
read_counter T I d c = refl

write_counter : (T : List ℕ) (c : Controller) → (write_of T c).counter ≡ 0
unfolding write_of
write_counter T c = refl

-- A machine with another number of scans done.
abbrev pub with_scan : Machine → ℕ → Machine
with_scan m s = record { phase = m.phase; state = m.state; used = m.used; scan = s }

-- After an action, the turn kept or passed on.
abbrev pub after_stay : Machine → Controller → Machine
after_stay m c = record { phase = Exe; state = c; used = m.used + 1; scan = m.scan }

abbrev pub after_pass : Machine → Controller → Machine
after_pass m c = record { phase = Exe; state = c; used = 0; scan = m.scan }

-- Whatever is so of each kind of move is so of the move; of two machines at once that differ in the scans done only.
module _ (P : Moved → Moved → Type 0) (T I : List ℕ) (d : ℕ) (m : Machine) (s : ℕ)
    (read : m.state.counter ≡ 0 → (c : Controller) → c.counter ≡ 1 → P (to (after_read m c)) (to (after_read (with_scan m s) c)))
    (write : processes_of T < m.state.counter → (c : Controller) → c.counter ≡ 0 → P (to (after_write m c)) (to (after_write (with_scan m s) c)))
    (stay : 0 < m.state.counter → (c : Controller) → 0 < c.counter → P (to (after_stay m c)) (to (after_stay (with_scan m s) c)))
    (pass : 0 < m.state.counter → (c : Controller) → 0 < c.counter → P (to (after_pass m c)) (to (after_pass (with_scan m s) c)))
    (stop : (cause : Cause) → P (stops cause m) (stops cause (with_scan m s))) where
  by_looks : 0 < m.state.counter → (long : Option Cause) (o : Outcome) (c : Controller) → 0 < c.counter →
      P (unless (before long (unruled o)) m (after_action m o c)) (unless (before long (unruled o)) (with_scan m s) (after_action (with_scan m s) o c))
  by_looks h (Some cause) o c k = stop cause
  by_looks h None Stays c k = stay h c k
  by_looks h None Passes c k = pass h c k
  by_looks h None NoRule c k = stop NoRuleFound

  by_action : 0 < m.state.counter → P (action_move T m) (action_move T (with_scan m s))
  unfolding action_move
  by_action h =
      let a = step_of T m.state.counter m.state in
      by_looks h (too_long m.used) a.outcome a.state (step_some T m.state.counter m.state h).counter

  pub by_move : P (move_of T I d m) (move_of T I d (with_scan m s))
  unfolding move_of
  by_move = go (eqb m.state.counter 0) refl (ltb (processes_of T) m.state.counter) refl
    where
      go : (a : Bool) → eqb m.state.counter 0 ≡ a → (b : Bool) → ltb (processes_of T) m.state.counter ≡ b →
          P (pick a (to (after_read m (read_of T I d m.state))) (pick b (to (after_write m (write_of T m.state))) (action_move T m)))
          (pick a (to (after_read (with_scan m s) (read_of T I d m.state))) (pick b (to (after_write (with_scan m s) (write_of T m.state))) (action_move T (with_scan m s))))
      go true e b f = read (eqb-true m.state.counter 0 e) (read_of T I d m.state) (read_counter T I d m.state)
      go false e true f = write (ltb-true (processes_of T) m.state.counter f) (write_of T m.state) (write_counter T m.state)
      go false e false f = by_action (omega (arith, eqb-false m.state.counter 0 e))
