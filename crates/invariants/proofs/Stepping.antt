-- A step by look-ups, whatever they look in: the action that is due, then its rule. The run's own step is the one by
-- look-ups in the table's numbers.
-- Assumes nothing.
use Prim.Native.Nat.{ℕ}
use mathlib.Core.Path.{◌≡◌, refl}
use mathlib.Core.Bool.{Bool, true, false}
use mathlib.Core.List.{List}
use lib.Dec.{eqb}
use Rattle.ranges.specs.Values.{pick}
use Rattle.lookups.specs.Places.{test_of, action_of as row_of}
use Rattle.lookups.specs.Structure.{Table}
use Rattle.lookups.specs.declared.TestRow.{TestRow}
use Rattle.lookups.specs.declared.ActionRow.{ActionRow}
use Rattle.controller.specs.State.{body_end, record_at}
use Rattle.controller.specs.Rules.{act_of}
use Rattle.controller.specs.declared.Process.{Process}
use Rattle.controller.specs.declared.Controller.{Controller}
use Rattle.controller.specs.declared.Acted.{Acted}
use Rattle.controller.specs.declared.Action.{Action}
use Rattle.controller.specs.declared.Action.TheVariants.{Skip, End}
use Rattle.scan.specs.Guards.{test_holds, guard_holds, next_of}
use Rattle.run.specs.Moves.{active, step_of}
use Rattle.invariants.specs.TableRows.{row_for, test_for}
use Rattle.invariants.specs.Due.{guard_by, next_by, coded_by}
use Rattle.invariants.proofs.Acting.{acted, act_is}

-- Action a of state s of process p, and test k.
pub record Look : Type 0 where
  pub row : ℕ → ℕ → ℕ → ActionRow
  pub test : ℕ → TestRow

-- Look-ups in numbers, and in a table.
abbrev pub in_numbers : List ℕ → Look
in_numbers T = record { row = row_of T; test = test_of T }

abbrev pub in_table : Table → Look
in_table t = record { row = row_for t; test = test_for t }

-- What a process does next.
pub record Plan : Type 0 where
  pub action : Action
  pub next : ℕ

-- Of an active process that is at the end of its body or at a row, or of one that is not active.
abbrev pub choose : Bool → Bool → ActionRow → ℕ → Plan
choose is_active at_end r next =
    pick is_active
    (pick at_end (record { action = End; next = 0 }) (record { action = coded_by r; next = next }))
    (record { action = Skip; next = 0 })

-- The plan of a process with this record, whose rows are these.
unfoldable pub plan_of : (ℕ → ℕ → ActionRow) → (ActionRow → ℕ) → Process → Plan
plan_of row next p =
    let r = row p.state p.action in
    choose (active p.state) (eqb p.action body_end) r (next r)

abbrev pub plan_by : Look → ℕ → Controller → Plan
plan_by L i c = plan_of (L.row i) (next_by L.test c) (record_at c.processes i)

unfoldable pub step_by : Look → ℕ → Controller → Acted
step_by L i c = act_of i (plan_by L i c).action (plan_by L i c).next c

pub step_is : (L : Look) (i : ℕ) (c : Controller) →
    step_by L i c ≡ acted i (plan_by L i c).action (plan_by L i c).next (record_at c.processes i) c
unfolding step_by
step_is L i c = act_is i (plan_by L i c).action (plan_by L i c).next c

-- A step of the run is a step by look-ups in the numbers.
pub step_in_numbers : (T : List ℕ) (i : ℕ) (c : Controller) → step_of T i c ≡ step_by (in_numbers T) i c
unfolding step_of step_by plan_of next_of next_by guard_holds guard_by test_holds
step_in_numbers T i c = go (active p.state) (eqb p.action body_end)
  where
    p : Process
    p = record_at c.processes i

    r : ActionRow
    r = row_of T i p.state p.action

    k : ℕ
    k = next_by (test_of T) c r

    go : (b d : Bool) →
        pick b (pick d (act_of i End 0 c) (act_of i (coded_by r) k c)) (act_of i Skip 0 c)
        ≡ act_of i (choose b d r k).action (choose b d r k).next c
    go true true = refl
    go true false = refl
    go false d = refl
