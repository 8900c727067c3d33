-- What a process with an allowed record plans, told by the table; and that look-ups in the table's numbers plan the
-- same.
-- Assumes nothing.
use Prim.Native.Nat.{ℕ, ◌-◌, ◌≤◌}
use mathlib.Core.Path.{◌≡◌, refl, ◌∙◌}
use mathlib.Core.Bool.{Bool, true, false, false≢true}
use mathlib.Core.List.{List}
use native.Mathlib.Omega.{arith}
use lib.ListN.{length}
use lib.Dec.{eqb}
use borrow.Author.Tests.{eqb-true, eqb-false}
use Rattle.lookups.specs.Places.{test_of, action_of as row_of}
use Rattle.lookups.specs.Structure.{Table, numbers_of}
use Rattle.lookups.specs.declared.ActionRow.{ActionRow}
use Rattle.lookups.proofs.Structured.{joined}
use Rattle.structure.specs.Allowed.{OneOf}
use Rattle.controller.specs.State.{body_end, record_at}
use Rattle.controller.specs.Rules.{act_of}
use Rattle.controller.specs.declared.Process.{Process}
use Rattle.controller.specs.declared.Controller.{Controller}
use Rattle.controller.specs.declared.Action.TheVariants.{Skip, End}
use Rattle.run.specs.Moves.{active, step_of}
use Rattle.invariants.specs.TableRows.{states_for, actions_for, row_for, test_for, row_at, There}
use Rattle.invariants.specs.Allows.{RecordAllowed, StateAllowed, RecordAllowed.stopped as is_stopped}
use Rattle.invariants.specs.Allows.{RecordAllowed.failed, RecordAllowed.active as is_active}
use Rattle.invariants.specs.Due.{guard_by, next_by, coded_by, Due, skips, ends, acts}
use Rattle.invariants.proofs.Stepping.{Plan, in_table, plan_of, plan_by, step_by, step_in_numbers}
use Rattle.invariants.proofs.Sound.{Sound}

module _ (t : Table) (i : ℕ) (b : OneOf i (length t.processes)) (p : Process) where
  -- An active one is in a state of the table.
  pub in_state : RecordAllowed t i p → active p.state ≡ true →
      OneOf p.state (length (states_for t i)) × (p.action ≤ length (actions_for t i p.state))
  unfolding active
  in_state (is_stopped e) f = absurd (false≢true (rw e at f))
  in_state (failed e) f = absurd (false≢true (rw e at f))
  in_state (is_active d e) f = (d, e)

  -- If it is not at the end of its body, it is at an action of the table.
  pub at_action : RecordAllowed t i p → active p.state ≡ true → eqb p.action body_end ≡ false →
      There t i p.state p.action
  at_action h f g =
      let r = in_state h f in
      let n : ¬ (p.action ≡ 0) = eqb-false p.action body_end g in
      record { process = b; state = r.0; action = (omega arith, r.1) }

  pub data Case (next : ActionRow → ℕ) : Plan → Type 0 where
    skipping : active p.state ≡ false → Case next (record { action = Skip; next = 0 })
    ending : OneOf p.state (length (states_for t i)) → p.action ≡ body_end →
        Case next (record { action = End; next = 0 })
    acting : There t i p.state p.action →
        Case next (record { action = coded_by (row_at t i p); next = next (row_at t i p) })

  pub plan_case : (next : ActionRow → ℕ) → RecordAllowed t i p → Case next (plan_of (row_for t i) next p)
  unfolding plan_of
  plan_case next h = go (active p.state) (eqb p.action body_end) refl refl
    where
      go : (x y : Bool) → active p.state ≡ x → eqb p.action body_end ≡ y → Case next (plan_of (row_for t i) next p)
      go true true e f = rw (e, f) (ending (in_state h e).0 (eqb-true p.action body_end f))
      go true false e f = rw (e, f) (acting (at_action h e f))
      go false y e f = rw e (skipping e)

module _ (t : Table) (s : Sound t) where
  -- ---- the numbers of a table, looked up
  guard_found : (v f : List ℕ) (g : ℕ) → g ≤ length t.tests →
      guard_by (test_of (numbers_of t)) v f g ≡ guard_by (test_for t) v f g
  unfolding guard_by
  guard_found v f g fits = go (eqb g 0) refl
    where
      go : (b : Bool) → eqb g 0 ≡ b → guard_by (test_of (numbers_of t)) v f g ≡ guard_by (test_for t) v f g
      go true e = rw e refl
      go false e =
          let n : ¬ (g ≡ 0) = eqb-false g 0 e in
          rw ((joined t).test (g - 1) (omega arith)) refl

  next_found : (c : Controller) (r : ActionRow) → r.guard ≤ length t.tests →
      next_by (test_of (numbers_of t)) c r ≡ next_by (test_for t) c r
  unfolding next_by
  next_found c r fits = rw (guard_found c.variables _ r.guard fits) refl

  plan_found : (i : ℕ) (c : Controller) (p : Process) → OneOf i (length t.processes) → RecordAllowed t i p →
      plan_of (row_of (numbers_of t) i) (next_by (test_of (numbers_of t)) c) p ≡ plan_of (row_for t i) (next_by (test_for t) c) p
  unfolding plan_of
  plan_found i c p b k = go (active p.state) (eqb p.action body_end) refl refl
    where
      go : (x y : Bool) → active p.state ≡ x → eqb p.action body_end ≡ y →
          plan_of (row_of (numbers_of t) i) (next_by (test_of (numbers_of t)) c) p ≡ plan_of (row_for t i) (next_by (test_for t) c) p
      go true true e f = rw (e, f) refl
      go true false e f =
          let w = at_action t i b p k e f in
          let found = (joined t).action i p.state p.action w.process w.state w.action in
          rw (e, f, found, next_found c (row_at t i p) (s.guard i p.state p.action w)) refl
      go false y e f = rw e refl

  -- In a state that the table allows, the run's step by the numbers is the step by the table.
  pub step_found : (i : ℕ) (c : Controller) → OneOf i (length t.processes) → StateAllowed t c →
      step_of (numbers_of t) i c ≡ step_by (in_table t) i c
  unfolding step_by
  step_found i c b h =
      step_in_numbers (numbers_of t) i c ∙ rw (plan_found i c (record_at c.processes i) b (h.records i b)) refl

  due_planned : (i : ℕ) (c : Controller) (b : OneOf i (length t.processes)) (x : Plan) →
      Case t i b (record_at c.processes i) (next_by (test_for t) c) x → Due t i c (act_of i x.action x.next c)
  due_planned i c b _ (skipping e) = skips e
  due_planned i c b _ (ending d e) = ends d e
  due_planned i c b _ (acting w) = acts w (s.guard i _ _ w)

  -- So what a process does next is skip, the end, or an action of the table.
  pub step_due : (i : ℕ) (c : Controller) → OneOf i (length t.processes) → StateAllowed t c →
      Due t i c (step_of (numbers_of t) i c)
  unfolding step_by
  step_due i c b h =
      let plan = plan_case t i b (record_at c.processes i) (next_by (test_for t) c) (h.records i b) in
      rw (step_found i c b h) (due_planned i c b (plan_by (in_table t) i c) plan)
