-- What an allowed table says of its rows and tests, place by place.
-- Assumes nothing.
use Prim.Native.Nat.{ℕ, zero, suc, ◌+◌, ◌-◌, ◌≤◌, ◌<◌}
use mathlib.Core.Path.{◌≡◌, refl}
use mathlib.Core.List.{List, [], ◌∷◌}
use native.Mathlib.Omega.{arith}
use lib.ListN.{length, get_or}
use Rattle.lookups.specs.Places.{no_action}
use Rattle.lookups.specs.Structure.{Table}
use Rattle.lookups.specs.declared.TestRow.{TestRow}
use Rattle.lookups.specs.declared.ActionRow.{ActionRow}
use Rattle.structure.specs.Allowed.{OneOf, Each, IsInternal, Spot, Guarded, Unguarded, TestAllowed, ActionAllowed}
use Rattle.structure.specs.Allowed.{StateAllowed, ProcessAllowed, Allowed}
use Rattle.structure.specs.Allowed.{TestAllowed.equals, TestAllowed.exceeds, TestAllowed.in_state}
use Rattle.structure.specs.Allowed.{ActionAllowed.constant, ActionAllowed.copy, ActionAllowed.add, ActionAllowed.tout}
use Rattle.structure.specs.Allowed.{ActionAllowed.reset}
use Rattle.structure.specs.Allowed.{ActionAllowed.start_other, ActionAllowed.stop_other, ActionAllowed.start}
use Rattle.structure.specs.Allowed.{ActionAllowed.set, ActionAllowed.next, ActionAllowed.stop, ActionAllowed.err}
use Rattle.controller.specs.Actions.{action_of}
use Rattle.controller.specs.declared.Action.{Action}
use Rattle.controller.specs.declared.Action.TheVariants.{Skip, End, Updates, Tout, Reset, StartP, StopP, Start, Set}
use Rattle.controller.specs.declared.Action.TheVariants.{Next, Stop, Err}
use Rattle.invariants.specs.TableRows.{states_for, actions_for, row_for, test_for, There}
use Rattle.invariants.specs.Due.{coded_by}

each_at : {A : Type 0} (P : ℕ → A → Type 0) (n : ℕ) (l : List A) (k : ℕ) (d : A) → Each P n l → k < length l →
    P (n + k) (get_or l k d)
unfolding Each
each_at P n [] k d h b = absurd (omega arith)
each_at P n (x ∷ l) zero d h b = let e : n ≡ n + 0 = omega arith in rw (← e) h.0
each_at P n (x ∷ l) (suc k) d h b =
    let e : n + suc k ≡ suc n + k = omega arith in rw e (each_at P (suc n) l k d h.1 (omega arith))

-- Counted from 1.
each_from_one : {A : Type 0} (P : ℕ → A → Type 0) (l : List A) (k : ℕ) (d : A) → Each P 1 l → OneOf k (length l) →
    P k (get_or l (k - 1) d)
each_from_one P l k d h b = let e : 1 + (k - 1) ≡ k = omega arith in rw e at (each_at P 1 l (k - 1) d h (omega arith))

-- What an action asks of the table, in state s of process p.
abbrev pub Fine : Table → ℕ → ℕ → Action → Type 0
Fine t p s Skip = Unit {0}
Fine t p s End = Unit {0}
Fine t p s (Updates x u) = IsInternal t x
Fine t p s (Tout bound) = Unit {0}
Fine t p s Reset = Unit {0}
Fine t p s (StartP x) = OneOf x (length t.processes)
Fine t p s (StopP x) = OneOf x (length t.processes)
Fine t p s Start = Unit {0}
Fine t p s (Set j) = OneOf j (length (states_for t p))
Fine t p s Next = s < length (states_for t p)
Fine t p s Stop = Unit {0}
Fine t p s Err = Unit {0}

pub record Sound (t : Table) : Type 0 where
  pub bodies : (p s : ℕ) → OneOf p (length t.processes) → OneOf s (length (states_for t p)) →
      1 ≤ length (actions_for t p s)
  pub states : (p : ℕ) → OneOf p (length t.processes) → OneOf (length (states_for t p)) 8
  pub guard : (p s a : ℕ) → There t p s a → (row_for t p s a).guard ≤ length t.tests
  pub taken : (p s a : ℕ) → There t p s a → (row_for t p s a).next_if ≤ length (actions_for t p s)
  pub other : (p s a : ℕ) → There t p s a → (row_for t p s a).next_else ≤ length (actions_for t p s)
  pub fine : (p s a : ℕ) → There t p s a → Fine t p s (coded_by (row_for t p s a))
  pub tests : (k : ℕ) → k < length t.tests → (test_for t k).kind ≡ 2 → OneOf (test_for t k).a (length t.processes)

module _ (t : Table) (p n s m : ℕ) where
  abbrev spot : Spot
  spot = record { process = p; states = n; state = s; actions = m }

  -- The parts of an allowed row.
  pub record RowSound (r : ActionRow) : Type 0 where
    pub guard : r.guard ≤ length t.tests
    pub taken : r.next_if ≤ m
    pub other : r.next_else ≤ m
    pub fine : n ≡ length (states_for t p) → Fine t p s (coded_by r)

  guarded : {r : ActionRow} → Guarded t spot r → (n ≡ length (states_for t p) → Fine t p s (coded_by r)) → RowSound r
  guarded g f = record { guard = g.guard; taken = g.taken; other = g.other; fine = f }

  unguarded : {r : ActionRow} → Unguarded r → (n ≡ length (states_for t p) → Fine t p s (coded_by r)) → RowSound r
  unguarded g f =
      record { guard = omega (arith, g.guard); taken = omega (arith, g.taken); other = omega (arith, g.other); fine = f }

  row_sound : (r : ActionRow) → ActionAllowed t spot r → RowSound r
  unfolding action_of
  row_sound r (constant e i g) = guarded g (λ z. rw e i)
  row_sound r (copy e i j g) = guarded g (λ z. rw e i)
  row_sound r (add e i g) = guarded g (λ z. rw e i)
  row_sound r (tout e i j g) = guarded g (λ z. rw e tt)
  row_sound r (reset e i j g) = unguarded g (λ z. rw e tt)
  row_sound r (start_other e i j y g) = guarded g (λ z. rw e i)
  row_sound r (stop_other e i j y g) = guarded g (λ z. rw e i)
  row_sound r (start e i j g) = unguarded g (λ z. rw e tt)
  row_sound r (set e i j g) = unguarded g (λ z. rw (e, ← z) i)
  row_sound r (next e i j y g) = unguarded g (λ z. rw (e, ← z) i)
  row_sound r (stop e i j g) = unguarded g (λ z. rw e tt)
  row_sound r (err e i j g) = unguarded g (λ z. rw e tt)

test_sound : (t : Table) (r : TestRow) → TestAllowed t r → r.kind ≡ 2 → OneOf r.a (length t.processes)
test_sound t r (equals e i) k = absurd (omega arith)
test_sound t r (exceeds e i) k = absurd (omega arith)
test_sound t r (in_state e i j) k = i

module _ (most : ℕ) (t : Table) (h : Allowed most t) where
  pub process_allowed : (p : ℕ) → OneOf p (length t.processes) → ProcessAllowed t p (states_for t p)
  process_allowed p b = each_from_one (λ q l. ProcessAllowed t q l) t.processes p [] h.processes b

  state_allowed : (p s : ℕ) → OneOf p (length t.processes) → OneOf s (length (states_for t p)) →
      StateAllowed t p (length (states_for t p)) s (actions_for t p s)
  state_allowed p s b d =
      each_from_one (λ q l. StateAllowed t p (length (states_for t p)) q l) (states_for t p) s [] (process_allowed p b).1 d

  row_at : (p s a : ℕ) → There t p s a →
      RowSound t p (length (states_for t p)) s (length (actions_for t p s)) (row_for t p s a)
  row_at p s a w =
      row_sound t p (length (states_for t p)) s (length (actions_for t p s)) (row_for t p s a)
      (each_from_one (λ q r. ActionAllowed t (record { process = p; states = length (states_for t p); state = s; actions = length (actions_for t p s) }) r)
      (actions_for t p s) a no_action (state_allowed p s w.process w.state).1 w.action)

  pub sound : Sound t
  sound = record {
    bodies = λ p s b d. (state_allowed p s b d).0.0;
    states = λ p b. (process_allowed p b).0;
    guard = λ p s a w. (row_at p s a w).guard;
    taken = λ p s a w. (row_at p s a w).taken;
    other = λ p s a w. (row_at p s a w).other;
    fine = λ p s a w. (row_at p s a w).fine refl;
    tests = λ k b e. test_sound t (test_for t k) (each_at (λ q r. TestAllowed t r) 0 t.tests k _ h.tests b) e;
  }
