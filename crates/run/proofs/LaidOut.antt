-- The tests of a table, laid out one after another: each says of what is seen what its atom says of the state.
-- Assumes nothing.
use Prim.Native.Nat.{ℕ, ◌+◌, ◌-◌, ◌≤◌, ◌<◌}
use native.Mathlib.Omega.{arith}
use mathlib.Core.Path.{◌≡◌, refl, sym, ap, ◌∙◌}
use mathlib.Core.Bool.{Bool, true, false}
use mathlib.Core.List.{List}
use lib.Dec.{ltb, eqb}
use lib.ListN.{get_or, get_or-eq_default}
use borrow.Author.Tests.{eqb-true, ltb-true, ltb-false, lt-ltb, le-ltb, ne_eqb}
use Rattle.ranges.specs.Values.{pick}
use Rattle.lookups.specs.declared.TestRow.{TestRow}
use Rattle.lookups.specs.Places.{tests_of, test_of}
use Rattle.controller.specs.State.{none, stop, value_at, state_at}
use Rattle.controller.specs.Tests.{compares, truth}
use Rattle.scan.specs.Guards.{test_holds, atom_of}
use Rattle.run.specs.Working.Atoms.{Sees, LaysOut, no_value, process_place, looks_at, equals, asked}
use Rattle.run.specs.declared.laid.Laid.{Laid}

-- By cases on a test.
either : {P : Type 0} (t : Bool) → (t ≡ true → P) → (t ≡ false → P) → P
either true so else_so = so refl
either false so else_so = else_so refl

-- ---- one test, of all that can be seen

module _ (v f s : List ℕ) (w : Sees v f s) where
  state_seen : (a : ℕ) → get_or s (process_place a) 0 ≡ state_at f a
  unfolding process_place state_at
  state_seen a =
      let size = w.processes in
      either (ltb 8 a)
      (λ e.
      let l = ltb-true 8 a e in
      rw e (w.stopped ∙ sym (get_or-eq_default f stop {n = a - 1} (omega (arith, size, l)))))
      (λ e.
      let l = ltb-false 8 a e in
      let same : a - 1 + 1 - 1 ≡ a - 1 = omega arith in
      let seen = w.state (a - 1) (omega (arith, l)) in
      rw e (seen ∙ ap (λ (i : ℕ). get_or f i stop) same))

  value_seen : (a : ℕ) → get_or s (pick (ltb a 32) a no_value) 0 ≡ value_at v a
  unfolding value_at
  value_seen a =
      let size = w.variables in
      either (ltb a 32)
      (λ e. rw e (w.value a (ltb-true a 32 e)))
      (λ e.
      let l = ltb-false a 32 e in
      rw e (w.unset ∙ sym (get_or-eq_default v none {n = a} (omega (arith, size, l)))))

-- A number of 16 bits is no unset variable's.
compares_equal : (b x : ℕ) → b < 65536 → compares true b x ≡ eqb x b
unfolding compares
compares_equal b x l =
    either (eqb x none)
    (λ e.
    let q = eqb-true x none e in
    rw (e, ne_eqb x b (λ z. omega (arith, q, l, z))) refl)
    (λ e. rw e refl)

laid_right : (t : TestRow) → t.b < 65536 → (v f s : List ℕ) → Sees v f s →
    compares (equals t) t.b (get_or s (looks_at t) 0) ≡ truth t.kind t.b (value_at v t.a) (state_at f t.a)
unfolding equals looks_at truth
laid_right t l v f s w =
    either (eqb t.kind 2)
    (λ e. rw (e, state_seen v f s w t.a) (compares_equal t.b (state_at f t.a) l))
    (λ e. rw (e, value_seen v f s w t.a) refl)

pub looks_inside : (t : TestRow) → looks_at t < 42
unfolding looks_at process_place
looks_inside t =
    either (eqb t.kind 2)
    (λ e.
    rw e (either (ltb 8 t.a)
    (λ g. rw g (omega arith))
    (λ g. let l = ltb-false 8 t.a g in rw g (omega (arith, l)))))
    (λ e.
    rw e (either (ltb t.a 32)
    (λ g. let l = ltb-true t.a 32 g in rw g (omega (arith, l)))
    (λ g. rw g (omega arith))))

-- ---- test k of a table, of which there are n

module _ (T : List ℕ) (k n : ℕ) (tests : n ≡ tests_of T) where
  pub test_laid : k < n → (t : TestRow) → t ≡ test_of T k → t.b < 65536 → (x : Laid) →
      x.place ≡ looks_at t → x.number ≡ t.b → x.equal ≡ equals t → LaysOut T k x
  unfolding atom_of test_holds asked
  test_laid l t is_t small x is_p is_n is_e v f s w =
      rw (is_p, is_n, is_e, ← tests, lt-ltb k n l, ← is_t) (laid_right t small v f s w)

  -- An atom without a test.
  pub missing_laid : n ≤ k → (x : Laid) → x.place ≡ no_value → LaysOut T k x
  unfolding atom_of asked compares
  missing_laid l x e v f s w = rw (e, ← tests, le-ltb k n l, w.unset) refl
