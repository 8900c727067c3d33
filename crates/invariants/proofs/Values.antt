-- What the read, the write and an action of the table make of the variables: the read gives the inputs what is
-- recorded, and nothing else touches them.
-- Assumes nothing.
use Prim.Native.Nat.{ℕ, zero, suc, ◌+◌, ◌<◌, ◌≤◌}
use native.Mathlib.Omega.{arith}
use native.Mathlib.Nat.{eq-or-lt_of_le}
use mathlib.Core.Path.{◌≡◌, refl, ◌∙◌}
use mathlib.Core.Logic.{⊎_elim}
use mathlib.Core.List.{List}
use lib.ListN.{length, set, length-set}
use lib.Seq.{get_or-set_same, get_or-set_other}
use Rattle.lookups.specs.Places.{inputs_of, internals_of, source_of, reading_of}
use Rattle.lookups.specs.Structure.{Table, numbers_of}
use Rattle.structure.specs.Allowed.{OneOf}
use Rattle.controller.specs.State.{none, value_at, record_at}
use Rattle.controller.specs.Rules.{new_value}
use Rattle.controller.specs.declared.Process.{Process}
use Rattle.controller.specs.declared.Controller.{Controller}
use Rattle.controller.specs.declared.Action.{Action}
use Rattle.controller.specs.declared.Action.TheVariants.{Skip, End, Updates, Tout, Reset, StartP, StopP, Start, Set}
use Rattle.controller.specs.declared.Action.TheVariants.{Next, Stop, Err}
use Rattle.scan.specs.Scanning.{taken, written}
use Rattle.run.specs.Moves.{step_of}
use Rattle.invariants.specs.TableRows.{test_for, row_at}
use Rattle.invariants.specs.Due.{next_by, coded_by}
use Rattle.invariants.specs.Allows.{StateAllowed}
use Rattle.invariants.proofs.Acting.{put_of, put}
use Rattle.invariants.proofs.Stepping.{Plan, in_table, plan_by, step_is}
use Rattle.invariants.proofs.Sound.{Fine, Sound}
use Rattle.invariants.proofs.Planning.{Case, skipping, ending, acting, plan_case, step_found}

-- The first n variables stay as they are, and there are as many as before.
pub record Untouched (n : ℕ) (v w : List ℕ) : Type 0 where
  pub size : length w ≡ length v
  pub same : (k : ℕ) → k < n → value_at w k ≡ value_at v k

pub unchanged : {n : ℕ} {v : List ℕ} → Untouched n v v
unchanged = record { size = refl; same = λ k b. refl }

and_then : {n : ℕ} {u v w : List ℕ} → Untouched n u v → Untouched n v w → Untouched n u w
and_then a b = record { size = b.size ∙ a.size; same = λ k h. b.same k h ∙ a.same k h }

stored_above : (n x d : ℕ) (v : List ℕ) → n ≤ x → Untouched n v (set v x d)
unfolding value_at
stored_above n x d v h =
    record { size = length-set v x d; same = λ k b. get_or-set_other v x k d none (λ e. omega arith) }

-- ---- the read
module _ (I : List ℕ) (inputs done : ℕ) where
  pub taken_size : (n k : ℕ) (v : List ℕ) → length (taken I inputs done n k v) ≡ length v
  unfolding taken
  taken_size zero k v = refl
  taken_size (suc n) k v =
      taken_size n (k + 1) (set v k (reading_of I inputs done k)) ∙ length-set v k (reading_of I inputs done k)

  taken_below : (n k x : ℕ) (v : List ℕ) → x < k → value_at (taken I inputs done n k v) x ≡ value_at v x
  unfolding taken
  taken_below zero k x v h = refl
  taken_below (suc n) k x v h =
      taken_below n (k + 1) x (set v k (reading_of I inputs done k)) (omega arith)
      ∙ (stored_above k k (reading_of I inputs done k) v (omega arith)).same x h

  stored_there : (k : ℕ) (v : List ℕ) → k < length v →
      value_at (set v k (reading_of I inputs done k)) k ≡ reading_of I inputs done k
  unfolding value_at
  stored_there k v h = get_or-set_same v k (reading_of I inputs done k) none h

  pub taken_there : (n k x : ℕ) (v : List ℕ) → k ≤ x → x < k + n → k + n ≤ length v →
      value_at (taken I inputs done n k v) x ≡ reading_of I inputs done x
  unfolding taken
  taken_there zero k x v a b room = absurd (omega arith)
  taken_there (suc n) k x v a b room =
      let w = set v k (reading_of I inputs done k) in
      ⊎_elim
      (λ (e : k ≡ x). rw (← e) (taken_below n (k + 1) k w (omega arith) ∙ stored_there k v (omega arith)))
      (λ (l : k < x). taken_there n (k + 1) x w (omega arith) (omega arith) (rw (length-set v k (reading_of I inputs done k)) (omega arith)))
      (eq-or-lt_of_le a)

-- ---- the write
pub written_kept : (T : List ℕ) (n k : ℕ) (v : List ℕ) → Untouched (inputs_of T) v (written T n k v)
unfolding written
written_kept T zero k v = unchanged
written_kept T (suc n) k v =
    let x = inputs_of T + internals_of T + k in
    and_then (stored_above (inputs_of T) x (value_at v (source_of T k)) v (omega arith)) (written_kept T n (k + 1) (set v x (value_at v (source_of T k))))

-- ---- an action of the table
module _ (t : Table) where
  put_kept : (p s : ℕ) (a : Action) (v : List ℕ) → Fine t p s a → Untouched t.inputs v (put (put_of a) v)
  unfolding put
  put_kept p s Skip v f = unchanged
  put_kept p s End v f = unchanged
  put_kept p s (Updates x u) v f = stored_above t.inputs x (new_value v x u) v f.0
  put_kept p s (Tout bound) v f = unchanged
  put_kept p s Reset v f = unchanged
  put_kept p s (StartP x) v f = unchanged
  put_kept p s (StopP x) v f = unchanged
  put_kept p s Start v f = unchanged
  put_kept p s (Set j) v f = unchanged
  put_kept p s Next v f = unchanged
  put_kept p s Stop v f = unchanged
  put_kept p s Err v f = unchanged

  module _ (s : Sound t) (i : ℕ) (b : OneOf i (length t.processes)) (c : Controller) where
    abbrev p : Process
    p = record_at c.processes i

    put_planned : (x : Plan) → Case t i b (record_at c.processes i) (next_by (test_for t) c) x →
        Untouched t.inputs c.variables (put (put_of x.action) c.variables)
    unfolding put
    put_planned _ (skipping e) = unchanged
    put_planned _ (ending d e) = unchanged
    put_planned _ (acting w) =
        put_kept i p.state (coded_by (row_at t i p)) c.variables (s.fine i p.state p.action w)

    -- "x is internal"
    pub step_inputs : StateAllowed t c →
        Untouched t.inputs c.variables (step_of (numbers_of t) i c).state.variables
    step_inputs h =
        rw (step_found t s i c b h, step_is (in_table t) i c)
        (put_planned (plan_by (in_table t) i c) (plan_case t i b (record_at c.processes i) (next_by (test_for t) c) (h.records i b)))
