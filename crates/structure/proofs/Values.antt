-- The machine's tests of a value, and what they say: of a range, a variable, an action with its six fields.
-- Assumes nothing.
use Prim.Native.Nat.{ℕ, suc, ◌+◌, ◌≤◌, ◌<◌}
use mathlib.Core.Path.{◌≡◌, refl}
use mathlib.Core.Bool.{Bool, true, false}
use mathlib.Core.List.{List, [], ◌∷◌}
use mathlib.Core.Logic.{⊎_elim}
use native.Mathlib.Nat.{eq-or-lt_of_le}
use native.Mathlib.Omega.{arith}
use lib.ListN.{length}
use lib.Dec.{ltb, leb, eqb}
use borrow.Author.Tests.{ltb-true, ltb-false, leb-true, eqb-true, eqb-false, lt-ltb, le-ltb, le-leb, eq-eqb, ne_eqb}
use Rattle.ranges.specs.Limits.{longest_bound}
use Rattle.ranges.specs.Values.{pick, within, is_internal, is_variable, op_ok, x_ok, y_ok, uses_nexts, guard_ok, uses_else, next_ok}
use Rattle.ranges.specs.Order.{with_processes}
use Rattle.ranges.specs.declared.Shape.{Shape}
use Rattle.ranges.specs.declared.Spot.{Spot}
use Rattle.lookups.specs.declared.ActionRow.{ActionRow}
use Rattle.lookups.specs.Structure.{Table}
use Rattle.structure.specs.Allowed.{OneOf, Each, IsVariable, IsInternal, Guarded, Unguarded, ActionAllowed}
use Rattle.structure.specs.Allowed.{constant, copy, add, tout, reset, start_other, stop_other, start, set, next, stop, err}
use Rattle.structure.specs.Allowed as allowed
use Rattle.structure.proofs.Parts.{spot_at, ActionPasses}
use Rattle.structure.proofs.Front.{tested_of}

-- Each of a list is as one should be if that follows from how it is.
pub each : {A : Type 0} {P Q : ℕ → A → Type 0} → ((n : ℕ) (x : A) → P n x → Q n x) → (n : ℕ) (l : List A) → Each P n l → Each Q n l
unfolding Each
each f n [] h = tt
each f n (x ∷ l) h = (f n x h.0, each f (suc n) l h.1)

-- ---- a range
both : (t u : Bool) → pick t false u ≡ true → (t ≡ false) × (u ≡ true)
both true u e = let z : ◌≡◌ {A = ℕ} 0 1 = cc in absurd (omega arith)
both false u e = (refl, e)

pub range : (lo v hi : ℕ) → within lo v hi ≡ true → (lo ≤ v) × (v ≤ hi)
unfolding within
range lo v hi e =
    let p = both (ltb v lo) (pick (ltb hi v) false true) e in
    let q = both (ltb hi v) true p.1 in
    (ltb-false v lo p.0, ltb-false hi v q.0)

pub in_range : (lo v hi : ℕ) → (lo ≤ v) × (v ≤ hi) → within lo v hi ≡ true
unfolding within
in_range lo v hi h = rw (le-ltb v lo h.0, le-ltb hi v h.1)

-- The shape that a table has once its counts are read.
abbrev pub shape_of : Table → Shape
shape_of t = with_processes (tested_of t) (length t.processes)

-- ---- variables
module _ (t : Table) (v : ℕ) where
  pub internal : is_internal (shape_of t) v ≡ true → IsInternal t v
  unfolding is_internal
  internal e =
      let p = both (ltb v t.inputs) (ltb v (t.inputs + t.internals)) e in
      (ltb-false v t.inputs p.0, ltb-true v (t.inputs + t.internals) p.1)

  pub is_internal_lem : IsInternal t v → is_internal (shape_of t) v ≡ true
  unfolding is_internal
  is_internal_lem h = rw (le-ltb v t.inputs h.0) (lt-ltb v (t.inputs + t.internals) h.1)

  pub variable : is_variable (shape_of t) v ≡ true → IsVariable t v
  unfolding is_variable
  variable e = ltb-true v _ e

  pub is_variable_lem : IsVariable t v → is_variable (shape_of t) v ≡ true
  unfolding is_variable
  is_variable_lem h = lt-ltb v _ h

-- ---- one number of a range is its first, or one of the others
pub peel : {hi : ℕ} (P : ℕ → Type 0) (lo : ℕ) → P lo → ((v : ℕ) → (suc lo ≤ v) × (v ≤ hi) → P v) → (v : ℕ) → (lo ≤ v) × (v ≤ hi) → P v
peel P lo p rest v h = ⊎_elim (λ (e : lo ≡ v). rw e at p) (λ (l : lo < v). rest v (l, h.1)) (eq-or-lt_of_le h.0)

pub none_left : {hi : ℕ} (P : ℕ → Type 0) (v : ℕ) → (suc hi ≤ v) × (v ≤ hi) → P v
none_left P v h = absurd (omega arith)

-- ---- an action
op_range : (spot : Spot) (v : ℕ) → op_ok spot v ≡ true → (1 ≤ v) × (v ≤ 12)
unfolding op_ok
op_range spot v e = go (eqb v 10) refl e
  where
    go : (b : Bool) → eqb v 10 ≡ b → pick b (ltb spot.state spot.states) (within 1 v 12) ≡ true → (1 ≤ v) × (v ≤ 12)
    go true h e = let z : v ≡ 10 = eqb-true v 10 h in omega arith
    go false h e = range 1 v 12 e

module _ (t : Table) (p n s k a : ℕ) (r : ActionRow) where
  abbrev place : Spot
  place = spot_at p n s k a

  abbrev said : allowed.Spot
  said = record { process = p; states = n; state = s; actions = k }

  -- what the machine asks of guard and nexts, and of all the fields, under an op
  abbrev Flow : ℕ → Type 0
  Flow v =
      (guard_ok (shape_of t) v r.guard ≡ true) × (next_ok place (uses_nexts v) r.next_if ≡ true)
      × (next_ok place (uses_else v r.guard) r.next_else ≡ true)

  abbrev Fields : ℕ → Type 0
  Fields v = (op_ok place v ≡ true) × (x_ok (shape_of t) place v r.x ≡ true) × (y_ok (shape_of t) v r.y ≡ true) × Flow v

  guarded : (v : ℕ) → uses_nexts v ≡ true → Flow v → Guarded t said r
  unfolding guard_ok next_ok uses_else
  guarded v u f =
      let g : leb r.guard (length t.tests) ≡ true = rw u at f.0 in
      let i : leb r.next_if k ≡ true = rw u at f.1 in
      go (eqb r.guard 0) refl (leb-true _ _ g) (leb-true _ _ i) (rw u at f.2)
    where
      go : (b : Bool) → eqb r.guard 0 ≡ b → r.guard ≤ length t.tests → r.next_if ≤ k →
          pick (pick b false true) (leb r.next_else k) (eqb r.next_else 0) ≡ true → Guarded t said r
      go true h g i o =
          let z : r.next_else ≡ 0 = eqb-true _ _ o in
          record { guard = g; taken = i; other = omega arith; always = λ e. z }
      go false h g i o = record { guard = g; taken = i; other = leb-true _ _ o; always = λ e. absurd (eqb-false _ _ h e) }

  is_guarded : (v : ℕ) → uses_nexts v ≡ true → Guarded t said r → Flow v
  unfolding guard_ok next_ok uses_else
  is_guarded v u g = rw u (le-leb _ _ g.guard, le-leb _ _ g.taken, go (eqb r.guard 0) refl)
    where
      go : (b : Bool) → eqb r.guard 0 ≡ b → pick (pick b false true) (leb r.next_else k) (eqb r.next_else 0) ≡ true
      go true h = eq-eqb _ _ (g.always (eqb-true _ _ h))
      go false h = le-leb _ _ g.other

  unguarded : (v : ℕ) → uses_nexts v ≡ false → Flow v → Unguarded r
  unfolding guard_ok next_ok uses_else
  unguarded v u f =
      let g : eqb r.guard 0 ≡ true = rw u at f.0 in
      let i : eqb r.next_if 0 ≡ true = rw u at f.1 in
      let o : eqb r.next_else 0 ≡ true = rw g at f.2 in
      record { guard = eqb-true _ _ g; taken = eqb-true _ _ i; other = eqb-true _ _ o }

  is_unguarded : (v : ℕ) → uses_nexts v ≡ false → Unguarded r → Flow v
  unfolding guard_ok next_ok uses_else
  is_unguarded v u g = rw (u, eq-eqb _ _ g.guard) (refl, eq-eqb _ _ g.taken, eq-eqb _ _ g.other)

  -- "x another process"
  another : pick (eqb r.x p) false (within 1 r.x (length t.processes)) ≡ true → OneOf r.x (length t.processes) × (¬ (r.x ≡ p))
  another e =
      let q = both (eqb r.x p) (within 1 r.x (length t.processes)) e in
      (range 1 r.x (length t.processes) q.1, eqb-false _ _ q.0)

  is_another : OneOf r.x (length t.processes) → (¬ (r.x ≡ p)) → pick (eqb r.x p) false (within 1 r.x (length t.processes)) ≡ true
  is_another h d = rw (ne_eqb r.x p d) (in_range 1 r.x (length t.processes) h)

  abbrev Says : ℕ → Type 0
  Says v = r.op ≡ v → Fields v → ActionAllowed t said r

  pub action_allowed : ActionPasses (shape_of t) place r → ActionAllowed t said r
  unfolding op_ok x_ok y_ok uses_nexts within
  action_allowed h =
      peel Says 1 (λ e o. constant e (internal t r.x o.1) (guarded 1 refl o.3))
      (peel Says 2 (λ e o. copy e (internal t r.x o.1) (variable t r.y o.2) (guarded 2 refl o.3))
      (peel Says 3 (λ e o. add e (internal t r.x o.1) (guarded 3 refl o.3))
      (peel Says 4 (λ e o. tout e (range 1 r.x longest_bound o.1) (eqb-true _ _ o.2) (guarded 4 refl o.3))
      (peel Says 5 (λ e o. reset e (eqb-true _ _ o.1) (eqb-true _ _ o.2) (unguarded 5 refl o.3))
      (peel Says 6 (λ e o. start_other e (another o.1).0 (another o.1).1 (eqb-true _ _ o.2) (guarded 6 refl o.3))
      (peel Says 7 (λ e o. stop_other e (another o.1).0 (another o.1).1 (eqb-true _ _ o.2) (guarded 7 refl o.3))
      (peel Says 8 (λ e o. start e (eqb-true _ _ o.1) (eqb-true _ _ o.2) (unguarded 8 refl o.3))
      (peel Says 9 (λ e o. set e (range 1 r.x n o.1) (eqb-true _ _ o.2) (unguarded 9 refl o.3))
      (peel Says 10 (λ e o. next e (ltb-true s n o.0) (eqb-true _ _ o.1) (eqb-true _ _ o.2) (unguarded 10 refl o.3))
      (peel Says 11 (λ e o. stop e (eqb-true _ _ o.1) (eqb-true _ _ o.2) (unguarded 11 refl o.3))
      (peel Says 12 (λ e o. err e (eqb-true _ _ o.1) (eqb-true _ _ o.2) (unguarded 12 refl o.3))
      (none_left Says))))))))))))
      r.op (op_range place r.op h.op) refl (h.op, h.x, h.y, (h.guard, h.taken, h.other))

  packed : (v : ℕ) → r.op ≡ v → Fields v → ActionPasses (shape_of t) place r
  packed v e f =
      let o : Fields r.op = rw e f in
      record { op = o.0; x = o.1; y = o.2; guard = o.3.0; taken = o.3.1; other = o.3.2 }

  pub action_passes : ActionAllowed t said r → ActionPasses (shape_of t) place r
  unfolding op_ok x_ok y_ok uses_nexts within
  action_passes (constant e x g) = packed 1 e (refl, is_internal_lem t r.x x, refl, is_guarded 1 refl g)
  action_passes (copy e x y g) = packed 2 e (refl, is_internal_lem t r.x x, is_variable_lem t r.y y, is_guarded 2 refl g)
  action_passes (add e x g) = packed 3 e (refl, is_internal_lem t r.x x, refl, is_guarded 3 refl g)
  action_passes (tout e x y g) = packed 4 e (refl, in_range 1 r.x longest_bound x, eq-eqb _ _ y, is_guarded 4 refl g)
  action_passes (reset e x y g) = packed 5 e (refl, eq-eqb _ _ x, eq-eqb _ _ y, is_unguarded 5 refl g)
  action_passes (start_other e x d y g) = packed 6 e (refl, is_another x d, eq-eqb _ _ y, is_guarded 6 refl g)
  action_passes (stop_other e x d y g) = packed 7 e (refl, is_another x d, eq-eqb _ _ y, is_guarded 7 refl g)
  action_passes (start e x y g) = packed 8 e (refl, eq-eqb _ _ x, eq-eqb _ _ y, is_unguarded 8 refl g)
  action_passes (set e x y g) = packed 9 e (refl, in_range 1 r.x n x, eq-eqb _ _ y, is_unguarded 9 refl g)
  action_passes (next e h x y g) = packed 10 e (lt-ltb s n h, eq-eqb _ _ x, eq-eqb _ _ y, is_unguarded 10 refl g)
  action_passes (stop e x y g) = packed 11 e (refl, eq-eqb _ _ x, eq-eqb _ _ y, is_unguarded 11 refl g)
  action_passes (err e x y g) = packed 12 e (refl, eq-eqb _ _ x, eq-eqb _ _ y, is_unguarded 12 refl g)
