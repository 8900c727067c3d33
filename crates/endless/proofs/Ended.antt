-- What is known of a run that closed.
-- Assumes nothing.
use Rattle.run.proofs.Alike.{same_positions, same_start}
use Prim.Native.Nat.{ℕ, ◌+◌, ◌-◌, ◌<◌, ◌≤◌}
use native.Mathlib.Omega.{arith}
use mathlib.Core.Path.{◌≡◌, refl}
use mathlib.Core.Logic.{⊎_elim}
use mathlib.Core.Bool.{Bool, true, false}
use mathlib.Core.List.{List}
use lib.ListN.{get_or}
use lib.Dec.{ltb}
use Rattle.run.specs.declared.Stop.TheVariants.{Halted}
use Rattle.coding.specs.Refusal.{Answer}
use Rattle.std.specs.Prelude.{None, Ok, Err}
use Rattle.coding.specs.Code.{code_at}
use Rattle.coding.specs.declared.Cause.{Cause}
use Rattle.ranges.specs.Limits.{most_processes}
use Rattle.lookups.specs.Places.{tests_of, processes_of, scans_of, return_of}
use Rattle.table.specs.Table.{table_grammar, inputs_grammar}
use Rattle.controller.specs.Same.{same_state}
use Rattle.run.specs.Limits.{last_state, trace_room}
use Rattle.run.specs.Running.{reached, to_return, to_end, closing, ran_of, closes_at, run_refused}
use Rattle.run.specs.Trace.{numbers_in, by_inputs, by_table, run_of}
use Rattle.run.specs.declared.Reached.{Reached}
use Rattle.controller.proofs.Equal.{same_is_equal}
use Rattle.endless.specs.Recorded.{state_at}
use Rattle.endless.proofs.Accepted.{some_process, few_tests, returns_below}
use Rattle.endless.proofs.States.{Arrived, Came, came, on_or_stopped}

-- There is a process and no test above the 32nd; the run came to the end of scan b and from there to that of scan q, within the limit, and the two states are equal.
pub record Ended (T I : List ℕ) (n start : ℕ) : Type 0 where
  pub processes : 1 ≤ processes_of T
  pub tests : tests_of T ≤ 32
  pub returns : return_of I < scans_of I
  pub back : Arrived T I (return_of I) 0 start
  pub last : Arrived T I (scans_of I) start n
  pub most : n ≤ 4096
  pub same : (state_at T I n).state ≡ (state_at T I start).state

not_halted : {cause : Cause} {s p n start : ℕ} → Err (Halted cause s p) ≡ closes_at n start → ⊥
not_halted e = let z : ◌≡◌ {A = ℕ} 0 1 = cc in omega arith

pub not_refused : {cause : Cause} {p n start : ℕ} → run_refused cause p ≡ closes_at n start → ⊥
not_refused e = let z : ◌≡◌ {A = ℕ} 0 1 = cc in omega arith

-- ---- the scans
module _ (T I : List ℕ) (n start : ℕ) (e : ran_of T I ≡ closes_at n start) where
  back_on : (to_return T I).stopped ≡ None
  unfolding ran_of
  back_on = ⊎_elim (λ g. g) (λ (cause, g). absurd (not_halted (rw (g, ran_of) at e))) (on_or_stopped (to_return T I).stopped)

  last_on : (to_end T I).stopped ≡ None
  unfolding ran_of
  last_on = ⊎_elim (λ g. g) (λ (cause, g). absurd (not_halted (rw (back_on, g, ran_of) at e))) (on_or_stopped (to_end T I).stopped)

  closes : closing (scans_of I) (to_return T I) (to_end T I) ≡ closes_at n start
  unfolding ran_of
  closes = rw (back_on, last_on, ran_of) at e

-- What the closing says of the two.
record Met (n start : ℕ) (back last : Reached) : Type 0 where
  same : last.machine.state ≡ back.machine.state
  n_is : last.number ≡ n
  start_is : back.number ≡ start

met : (q n start : ℕ) (back last : Reached) → closing q back last ≡ closes_at n start → Met n start back last
unfolding closing
met q n start back last e = go (same_state last.machine.state back.machine.state) refl
  where
    go : (b : Bool) → same_state last.machine.state back.machine.state ≡ b → Met n start back last
    go false f = absurd (not_halted (rw f at e))
    go true f =
        let g : closes_at last.number back.number ≡ closes_at n start = rw f at e in
        record { same = same_is_equal last.machine.state back.machine.state f; n_is = same_positions g; start_is = same_start g }

module _ (T I : List ℕ) where
  pub came_back : (to_return T I).stopped ≡ None → Came T I (return_of I) 0 last_state (to_return T I)
  unfolding to_return state_at
  came_back g = came T I (return_of I) (last_state - 0) 0 g

  came_last : (r : Reached) (k : ℕ) → r.machine ≡ state_at T I r.number → r.number ≤ last_state →
      (reached T I k (last_state - r.number) r.number r.machine).stopped ≡ None →
      Came T I k r.number last_state (reached T I k (last_state - r.number) r.number r.machine)
  came_last r k e h g =
      let most : r.number + (last_state - r.number) ≡ last_state = omega arith in
      rw e (rw most at (came T I k (last_state - r.number) r.number (rw e at g)))

  pub came_end : Came T I (return_of I) 0 last_state (to_return T I) → (to_end T I).stopped ≡ None → Came T I (scans_of I) (to_return T I).number last_state (to_end T I)
  unfolding to_end
  came_end c g = came_last (to_return T I) (scans_of I) c.machine c.bound g

  ended_with : (n start : ℕ) (back last : Reached) → 1 ≤ processes_of T → tests_of T ≤ 32 → return_of I < scans_of I →
      Came T I (return_of I) 0 last_state back → Came T I (scans_of I) back.number last_state last → Met n start back last → Ended T I n start
  ended_with n start back last p t r b l m = record {
    processes = p;
    tests = t;
    returns = r;
    back = rw m.start_is at b.arrived;
    last = rw (m.n_is, m.start_is) at l.arrived;
    most = rw m.n_is at l.bound;
    same = rw (l.machine, b.machine, m.n_is, m.start_is) at m.same;
  }

  ended_so : (n start : ℕ) → 1 ≤ processes_of T → tests_of T ≤ 32 → return_of I < scans_of I → ran_of T I ≡ closes_at n start → Ended T I n start
  ended_so n start p t r e =
      let c = came_back (back_on T I n start e) in
      ended_with n start (to_return T I) (to_end T I) p t r c (came_end c (last_on T I n start e)) (met (scans_of I) n start _ _ (closes T I n start e))

-- ---- the grammars
module _ (n start : ℕ) where
  by_inputs_lem : (T : List ℕ) (inputs : List ℕ) → 1 ≤ processes_of T → tests_of T ≤ 32 → (a : Answer) → inputs_grammar (get_or T 0 0) (code_at inputs 0) ≡ a →
      by_inputs T (numbers_in inputs) a ≡ closes_at n start → Ended T (numbers_in inputs) n start
  by_inputs_lem T inputs p t (Ok k) f e = ended_so T (numbers_in inputs) n start p t (returns_below (get_or T 0 0) k (code_at inputs 0) f) e
  by_inputs_lem T inputs p t (Err why) f e = absurd (not_refused e)

  by_table_lem : (table inputs : List ℕ) (a : Answer) → table_grammar most_processes (code_at table 0) ≡ a →
      by_table (numbers_in table) inputs a ≡ closes_at n start → Ended (numbers_in table) (numbers_in inputs) n start
  by_table_lem table inputs (Ok k) f e = by_inputs_lem (numbers_in table) inputs (some_process (code_at table 0) k f) (few_tests (code_at table 0) k f) _ refl e
  by_table_lem table inputs (Err why) f e = absurd (not_refused e)

pub ended : (room n start : ℕ) (table inputs : List ℕ) → run_of room table inputs ≡ closes_at n start → Ended (numbers_in table) (numbers_in inputs) n start
unfolding run_of
ended room n start table inputs e = go (ltb room trace_room) refl
  where
    go : (b : Bool) → ltb room trace_room ≡ b → Ended (numbers_in table) (numbers_in inputs) n start
    go true f = absurd (not_refused (rw f at e))
    go false f = by_table_lem n start table inputs _ refl (rw f at e)
