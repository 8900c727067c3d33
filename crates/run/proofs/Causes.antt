-- Why a run is refused: by 5 to 8 once it runs; before that by what the table and the inputs are refused by, if the
-- lent buffer is large enough.
-- Assumes nothing.
use Prim.Native.Nat.{ℕ, zero, suc, ◌+◌, ◌-◌, ◌≤◌}
use native.Mathlib.Omega.{arith}
use mathlib.Core.Bool.{Bool, true, false}
use mathlib.Core.List.{List}
use lib.Dec.{ltb, eqb}
use borrow.Author.Tests.{le-ltb}
use Rattle.run.specs.declared.Stop.TheVariants.{Halted, Refused}
use Rattle.std.specs.Prelude.{Option, None, Some, Ok, Err}
use Rattle.coding.specs.Code.{code_at}
use Rattle.coding.specs.Refusal.{number_of, Answer}
use Rattle.coding.specs.declared.Cause.{Cause}
use Rattle.coding.specs.declared.Cause.TheVariants.{LongRun}
use Rattle.ranges.specs.Limits.{most_processes}
use Rattle.ranges.specs.Values.{pick}
use Rattle.lookups.specs.Places.{inputs_of, processes_of, scans_of, return_of}
use Rattle.controller.specs.Same.{same_state}
use Rattle.controller.specs.declared.Outcome.{Outcome}
use Rattle.controller.specs.declared.Outcome.TheVariants.{Stays, Passes, NoRule}
use Rattle.table.specs.Table.{table_grammar, inputs_grammar}
use Rattle.table.proofs.Causes.{NotTable, NamedAnswer, table_named, inputs_named}
use Rattle.run.specs.Limits.{longest_turn, last_state, trace_room}
use Rattle.run.specs.Moves.{begun, step_of, too_long, unruled, before, unless, after_action, action_move, move_of}
use Rattle.run.specs.Running.{recorded_move, stopped_at, reached, to_return, to_end, halted, closing, ran_of, Ran}
use Rattle.run.specs.Trace.{numbers_in, by_inputs, by_table, run_of}
use Rattle.run.specs.declared.Machine.{Machine}
use Rattle.run.specs.declared.Moved.{Moved}
use Rattle.run.specs.declared.Reached.{Reached}

-- The numbers that a run is refused by once it runs.
pub data NotRun : ℕ → Type 0 where
  no_rule : NotRun 5
  long_turn : NotRun 6
  long_run : NotRun 7
  not_closed : NotRun 8

-- What is refused is refused by one of these numbers; a table or inputs that are not read, by one of theirs.
abbrev NamedStop : Option Cause → Type 0
NamedStop None = Unit {0}
NamedStop (Some cause) = NotRun (number_of cause)

abbrev pub NamedRan : Ran → Type 0
NamedRan (Ok closed) = Unit {0}
NamedRan (Err (Halted cause scan process)) = NotRun (number_of cause)
NamedRan (Err (Refused why)) = NotTable (number_of why.cause)

by_test : {A : Type 0} (P : A → Type 0) (t : Bool) (x y : A) → P x → P y → P (pick t x y)
by_test P true x y p q = p
by_test P false x y p q = q

-- ---- one move
named_long : (used : ℕ) → NamedStop (too_long used)
unfolding too_long
named_long used = by_test NamedStop (ltb used longest_turn) _ _ tt long_turn

named_unruled : (o : Outcome) → NamedStop (unruled o)
named_unruled Stays = tt
named_unruled Passes = tt
named_unruled NoRule = no_rule

named_before : (a b : Option Cause) → NamedStop a → NamedStop b → NamedStop (before a b)
named_before None b h k = k
named_before (Some cause) b h k = h

named_unless : (g : Option Cause) (m next : Machine) → NamedStop g → NamedStop (unless g m next).stopped
named_unless None m next h = tt
named_unless (Some cause) m next h = h

named_action : (T : List ℕ) (m : Machine) → NamedStop (action_move T m).stopped
unfolding action_move
named_action T m =
    let a = step_of T m.state.counter m.state in
    named_unless (before (too_long m.used) (unruled a.outcome)) m (after_action m a.outcome a.state)
    (named_before (too_long m.used) (unruled a.outcome) (named_long m.used) (named_unruled a.outcome))

named_move : (T I : List ℕ) (done : ℕ) (m : Machine) → NamedStop (move_of T I done m).stopped
unfolding move_of
named_move T I done m =
    by_test (λ (x : Moved). NamedStop x.stopped) (eqb m.state.counter 0) _ _ tt
    (by_test (λ (x : Moved). NamedStop x.stopped) (ltb (processes_of T) m.state.counter) _ _ tt (named_action T m))

-- ---- the scans
abbrev NamedReached : Reached → Type 0
NamedReached r = NamedStop r.stopped

abbrev on_going : Option Cause → Reached → ℕ → Machine → Reached
on_going g rest n m = elim g [ None ↦ rest | Some cause ↦ stopped_at cause n m ]

named_on : (g : Option Cause) (rest : Reached) (n : ℕ) (m : Machine) → NamedStop g → NamedReached rest →
    NamedReached (on_going g rest n m)
named_on None rest n m h k = k
named_on (Some cause) rest n m h k = h

named_reached : (T I : List ℕ) (k more n : ℕ) (m : Machine) → NamedReached (reached T I k more n m)
unfolding reached
named_reached T I k zero n m =
    by_test NamedReached (ltb m.scan k) _ _
    (named_on (recorded_move T I m).stopped (stopped_at LongRun n m) n m (named_move T I m.scan m) long_run) tt
named_reached T I k (suc more) n m =
    let x = recorded_move T I m in
    by_test NamedReached (ltb m.scan k) _ _
    (named_on x.stopped (reached T I k more (n + 1) x.machine) n m (named_move T I m.scan m)
    (named_reached T I k more (n + 1) x.machine)) tt

named_closing : (q : ℕ) (back last : Reached) → NamedRan (closing q back last)
unfolding closing
named_closing q back last = by_test NamedRan (same_state last.machine.state back.machine.state) _ _ tt not_closed

abbrev ending : Option Cause → Machine → Ran → Ran
ending g m rest = elim g [ Some cause ↦ halted cause m | None ↦ rest ]

named_ending : (g : Option Cause) (m : Machine) (rest : Ran) → NamedStop g → NamedRan rest → NamedRan (ending g m rest)
named_ending None m rest h k = k
named_ending (Some cause) m rest h k = h

module _ (T I : List ℕ) where
  named_return : NamedReached (to_return T I)
  unfolding to_return
  named_return = named_reached T I (return_of I) (last_state - 0) 0 (begun most_processes)

  named_end : NamedReached (to_end T I)
  unfolding to_end
  named_end =
      let back = to_return T I in
      named_reached T I (scans_of I) (last_state - back.number) back.number back.machine

  named_ran : NamedRan (ran_of T I)
  unfolding ran_of
  named_ran =
      let back = to_return T I in
      let last = to_end T I in
      named_ending back.stopped back.machine
      (ending last.stopped last.machine (closing (scans_of I) back last)) named_return
      (named_ending last.stopped last.machine (closing (scans_of I) back last) named_end
      (named_closing (scans_of I) back last))

-- ---- the whole run
by_inputs_lem : (T I : List ℕ) (a : Answer) → NamedAnswer a → NamedRan (by_inputs T I a)
by_inputs_lem T I (Ok n) h = named_ran T I
by_inputs_lem T I (Err why) h = h

by_table_lem : (T inputs : List ℕ) (a : Answer) → NamedAnswer a → NamedRan (by_table T inputs a)
by_table_lem T inputs (Ok n) h =
    by_inputs_lem T (numbers_in inputs) (inputs_grammar (inputs_of T) (code_at inputs 0)) (inputs_named (inputs_of T) inputs)
by_table_lem T inputs (Err why) h = h

-- Any bytes as table and inputs, where the lent buffer is not too short.
pub run_named : (room : ℕ) (table inputs : List ℕ) → trace_room ≤ room → NamedRan (run_of room table inputs)
unfolding run_of
run_named room table inputs enough =
    rw (le-ltb room trace_room enough)
    (by_table_lem (numbers_in table) inputs (table_grammar most_processes (code_at table 0)) (table_named most_processes table))

pub run_most : {n : ℕ} → NotRun n → (5 ≤ n) × (n ≤ 8)
run_most no_rule = (omega arith, omega arith)
run_most long_turn = (omega arith, omega arith)
run_most long_run = (omega arith, omega arith)
run_most not_closed = (omega arith, omega arith)
