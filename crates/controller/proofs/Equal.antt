-- Two states are the same, in the sense of specs/Same.antt, just where they are equal as records, and just where the derived `==` says so.
-- Assumes nothing.
use Prim.Native.Nat.{ℕ}
use mathlib.Core.Path.{◌≡◌, refl, sym, ap, subst, ◌∙◌}
use mathlib.Core.Bool.{Bool, true, false, ◌&&◌}
use mathlib.Core.List.{List, [], ◌∷◌}
use lib.Dec.{eqb}
use lib.Pointwise.{pointwise}
use borrow.Author.Tests.{eqb-true, eq-eqb}
use Rattle.std.specs.Bool.{Decides}
use Rattle.std.proofs.lemmas.Bool.Decides.{Decides-eqb}
use Rattle.std.proofs.lemmas.Slice.Eq.{slice_eq-Decides}
use Rattle.controller.specs.contracts.ProcessPartialEq.TheImpl as process
use Rattle.controller.specs.contracts.ControllerPartialEq.TheImpl as controller
use Rattle.controller.specs.declared.Process.{Process}
use Rattle.controller.specs.declared.Controller.{Controller}
use Rattle.controller.specs.State.{states_of}
use Rattle.controller.specs.Same.{same_values, same_record, same_records, same_state}
use Rattle.controller.specs.Seen.{same_seen}

-- of two tests that are both passed
both : (a b : Bool) → (a && b) ≡ true → (a ≡ true) × (b ≡ true)
both true b e = (refl, e)
both false b e = absurd (let z : ◌≡◌ {A = Bool} false true = e in cc)

-- lists of values
pub eq_is_same_values : (v w : List ℕ) → pointwise eqb v w ≡ same_values v w
unfolding same_values
eq_is_same_values [] [] = refl
eq_is_same_values [] (y ∷ ys) = refl
eq_is_same_values (x ∷ xs) [] = refl
eq_is_same_values (x ∷ xs) (y ∷ ys) = ap (λ (b : Bool). eqb x y && b) (eq_is_same_values xs ys)

same_values_decide : (v w : List ℕ) → Decides (same_values v w) (v ≡ w)
same_values_decide v w = slice_eq-Decides Decides-eqb v w _ (sym (eq_is_same_values v w))

pub same_values_equal : (v w : List ℕ) → same_values v w ≡ true → v ≡ w
same_values_equal v w = (same_values_decide v w).0

-- a record, and lists of records
pub same_record_equal : (p q : Process) → same_record p q ≡ true → p ≡ q
unfolding same_record
same_record_equal p q e =
    let h = both (eqb p.state q.state) _ e in
    let k = both (eqb p.action q.action) _ h.1 in
    λ i. record {
      state = eqb-true p.state q.state h.0 i;
      action = eqb-true p.action q.action k.0 i;
      timer = eqb-true p.timer q.timer k.1 i;
    }

itself : (n : ℕ) → eqb n n ≡ true
itself n = eq-eqb n n refl

same_record_itself : (p q : Process) → p ≡ q → same_record p q ≡ true
unfolding same_record
same_record_itself p q e = rw (← e, itself p.state, itself p.action, itself p.timer) refl

eq_is_same_record : (p q : Process) → process.eq-value.it p q ≡ same_record p q
unfolding same_record
eq_is_same_record p q = refl

eq_is_same_records : (v w : List Process) → pointwise process.eq-value.it v w ≡ same_records v w
unfolding same_records
eq_is_same_records [] [] = refl
eq_is_same_records [] (q ∷ qs) = refl
eq_is_same_records (p ∷ ps) [] = refl
eq_is_same_records (p ∷ ps) (q ∷ qs) = rw (eq_is_same_record p q, eq_is_same_records ps qs) refl

same_records_decide : (v w : List Process) → Decides (same_records v w) (v ≡ w)
same_records_decide v w =
    slice_eq-Decides (λ p q. (λ e. same_record_equal p q (sym (eq_is_same_record p q) ∙ e), λ e. eq_is_same_record p q ∙ same_record_itself p q e))
    v w _ (sym (eq_is_same_records v w))

pub same_records_equal : (v w : List Process) → same_records v w ≡ true → v ≡ w
same_records_equal v w = (same_records_decide v w).0

-- the derived `==` of two states is `same_state`
pub eq_is_same_state : (c d : Controller) → controller.eq-value.it c d ≡ same_state c d
unfolding same_state
eq_is_same_state c d = rw (eq_is_same_values c.variables d.variables, eq_is_same_records c.processes d.processes) refl

-- whole states
pub same_is_equal : (c d : Controller) → same_state c d ≡ true → c ≡ d
unfolding same_state
same_is_equal c d e =
    let h = both (same_values c.variables d.variables) _ e in
    let k = both (same_records c.processes d.processes) _ h.1 in
    λ i. record {
      variables = same_values_equal c.variables d.variables h.0 i;
      processes = same_records_equal c.processes d.processes k.0 i;
      counter = eqb-true c.counter d.counter k.1 i;
    }

state_itself : (c : Controller) → same_state c c ≡ true
unfolding same_state
state_itself c = rw ((same_values_decide c.variables c.variables).1 refl, (same_records_decide c.processes c.processes).1 refl, itself c.counter) refl

pub equal_is_same : (c d : Controller) → c ≡ d → same_state c d ≡ true
equal_is_same c d e = subst (λ (x : Controller). same_state c x ≡ true) e (state_itself c)

-- what tests see of them
pub same_seen_equal : (c d : Controller) → same_seen c d ≡ true → (c.variables ≡ d.variables) × (states_of c.processes ≡ states_of d.processes)
unfolding same_seen
same_seen_equal c d e =
    let h = both (same_values c.variables d.variables) _ e in
    (same_values_equal c.variables d.variables h.0, same_values_equal (states_of c.processes) (states_of d.processes) h.1)
