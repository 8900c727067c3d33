-- Single steps as document 01 has them, most of them at a limit: the definitions, computed.
-- Assumes nothing.
use Prim.Native.Nat.{ℕ}
use mathlib.Core.Path.{◌≡◌, refl}
use mathlib.Core.List.{List, [], ◌∷◌, map}
use Rattle.ranges.specs.Values.{within, total_ok, is_internal, is_variable, test_a_ok, op_ok, x_ok, y_ok, uses_nexts, guard_ok, uses_else, next_ok}
use Rattle.ranges.specs.Order.{allowed, at_sources, after_source, at_tests, after_test, after_action, of_variables, with_tests, with_processes, step_of}
use Rattle.ranges.specs.declared.Shape.{Shape}
use Rattle.ranges.specs.declared.Spot.{Spot}
use Rattle.ranges.specs.declared.Want.{Want}
use Rattle.ranges.specs.declared.Want.TheVariants.{Inputs, Internals, Outputs, Source, Tests, Kind, TestA, TestB, Processes, States, Actions, Op, X, Y, Guard, NextIf, NextElse, Scans, Return, Reading}
use Rattle.ranges.specs.declared.Step.{Step}
use Rattle.ranges.specs.declared.Step.TheVariants.{More, Last, NotAllowed}

-- If a table may have so many processes, then where this is wanted, this number leads there.
pub data Example : Type 0 where
  leads : ℕ → Want → ℕ → Step → Example

abbrev pub found : Example → Step
found (leads most want v to) = step_of most want v

abbrev pub said : Example → Step
said (leads most want v to) = to

-- One input, one internal variable and one output; with two tests; with three processes. Of process 2, which has four states, an action of five.
abbrev pub counted : Shape
counted = of_variables 1 1 1

abbrev pub tested : Shape
tested = with_tests counted 2

abbrev pub whole : Shape
whole = with_processes tested 3

abbrev pub at : ℕ → ℕ → ℕ → Spot
at process state action = record { process = process; states = 4; state = state; actions = 5; action = action }

abbrev pub here : Spot
here = at 2 3 1

abbrev pub examples : List Example
examples =
    -- "total 0 to 32"
    leads 8 Inputs 32 (More (Internals 32))
    ∷ leads 8 Inputs 33 NotAllowed
    ∷ leads 8 (Internals 20) 12 (More (Outputs 20 12))
    ∷ leads 8 (Internals 20) 13 NotAllowed
    ∷ leads 8 (Outputs 20 12) 0 (More (Tests (of_variables 20 12 0)))
    ∷ leads 8 (Outputs 20 12) 1 NotAllowed
    ∷ leads 8 (Outputs 1 1) 1 (More (Source counted 1))
    -- "for each output its source, an internal variable"
    ∷ leads 8 (Source counted 2) 0 NotAllowed
    ∷ leads 8 (Source counted 2) 1 (More (Source counted 1))
    ∷ leads 8 (Source counted 2) 2 NotAllowed
    ∷ leads 8 (Source counted 1) 1 (More (Tests counted))
    -- "count of tests (0 to 32), each as kind, a, b"
    ∷ leads 8 (Tests counted) 0 (More (Processes counted))
    ∷ leads 8 (Tests counted) 32 (More (Kind (with_tests counted 32) 32))
    ∷ leads 8 (Tests counted) 33 NotAllowed
    ∷ leads 8 (Kind tested 2) 2 (More (TestA tested 2 2))
    ∷ leads 8 (Kind tested 2) 3 NotAllowed
    ∷ leads 8 (TestA tested 2 0) 2 (More (TestB tested 2 0 2))
    ∷ leads 8 (TestA tested 2 0) 3 NotAllowed
    ∷ leads 8 (TestA tested 2 1) 3 NotAllowed
    ∷ leads 8 (TestA tested 2 2) 9 (More (TestB tested 2 2 9))
    ∷ leads 8 (TestB tested 2 2 9) 65535 (More (Kind tested 1))
    ∷ leads 8 (TestB tested 1 2 9) 65535 (More (Processes tested))
    -- "processes (1 to 8)", or to 64
    ∷ leads 8 (Processes tested) 0 NotAllowed
    ∷ leads 8 (Processes tested) 8 (More (States (with_processes tested 8) 1))
    ∷ leads 8 (Processes tested) 9 NotAllowed
    ∷ leads 64 (Processes tested) 0 NotAllowed
    ∷ leads 64 (Processes tested) 64 (More (States (with_processes tested 64) 1))
    ∷ leads 64 (Processes tested) 65 NotAllowed
    -- "its active states (1 to 8)", "its actions (1 to 16)"
    ∷ leads 8 (States whole 2) 0 NotAllowed
    ∷ leads 8 (States whole 2) 8 (More (Actions whole 2 8 1))
    ∷ leads 8 (States whole 2) 9 NotAllowed
    ∷ leads 8 (Actions whole 2 4 3) 0 NotAllowed
    ∷ leads 8 (Actions whole 2 4 3) 5 (More (Op whole here))
    ∷ leads 8 (Actions whole 2 4 3) 16 (More (Op whole (record { process = 2; states = 4; state = 3; actions = 16; action = 1 })))
    ∷ leads 8 (Actions whole 2 4 3) 17 NotAllowed
    -- an op is 1 to 12, "10 next (not in the last state)"
    ∷ leads 8 (Op whole here) 0 NotAllowed
    ∷ leads 8 (Op whole here) 10 (More (X whole here 10))
    ∷ leads 8 (Op whole (at 2 4 1)) 10 NotAllowed
    ∷ leads 8 (Op whole here) 12 (More (X whole here 12))
    ∷ leads 8 (Op whole here) 13 NotAllowed
    -- x: an internal variable, a bound, another process, an active state, or 0
    ∷ leads 8 (X whole here 1) 0 NotAllowed
    ∷ leads 8 (X whole here 3) 1 (More (Y whole here 3))
    ∷ leads 8 (X whole here 3) 2 NotAllowed
    ∷ leads 8 (X whole here 4) 0 NotAllowed
    ∷ leads 8 (X whole here 4) 4095 (More (Y whole here 4))
    ∷ leads 8 (X whole here 4) 4096 NotAllowed
    ∷ leads 8 (X whole here 5) 1 NotAllowed
    ∷ leads 8 (X whole here 6) 0 NotAllowed
    ∷ leads 8 (X whole here 6) 2 NotAllowed
    ∷ leads 8 (X whole here 6) 3 (More (Y whole here 6))
    ∷ leads 8 (X whole here 7) 2 NotAllowed
    ∷ leads 8 (X whole here 7) 4 NotAllowed
    ∷ leads 8 (X whole here 9) 0 NotAllowed
    ∷ leads 8 (X whole here 9) 4 (More (Y whole here 9))
    ∷ leads 8 (X whole here 9) 5 NotAllowed
    ∷ leads 8 (X whole here 12) 0 (More (Y whole here 12))
    -- y: a number, a variable, or 0
    ∷ leads 8 (Y whole here 1) 65535 (More (Guard whole here 1))
    ∷ leads 8 (Y whole here 2) 2 (More (Guard whole here 2))
    ∷ leads 8 (Y whole here 2) 3 NotAllowed
    ∷ leads 8 (Y whole here 4) 1 NotAllowed
    -- "Ops 1 to 4, 6 and 7 use guard and nexts"
    ∷ leads 8 (Guard whole here 7) 2 (More (NextIf whole here 7 2))
    ∷ leads 8 (Guard whole here 7) 3 NotAllowed
    ∷ leads 8 (Guard whole here 5) 1 NotAllowed
    ∷ leads 8 (NextIf whole here 4 0) 5 (More (NextElse whole here 4 0))
    ∷ leads 8 (NextIf whole here 4 0) 6 NotAllowed
    ∷ leads 8 (NextIf whole here 8 0) 1 NotAllowed
    -- "under guard 0, next-else is 0"; then the next action, state or process, or nothing
    ∷ leads 8 (NextElse whole here 4 0) 1 NotAllowed
    ∷ leads 8 (NextElse whole here 4 1) 6 NotAllowed
    ∷ leads 8 (NextElse whole here 4 1) 5 (More (Op whole (at 2 3 2)))
    ∷ leads 8 (NextElse whole (at 2 3 5) 4 0) 0 (More (Actions whole 2 4 4))
    ∷ leads 8 (NextElse whole (at 2 4 5) 4 0) 0 (More (States whole 3))
    ∷ leads 8 (NextElse whole (at 3 4 5) 4 0) 0 Last
    -- "scans q (1 to 1,365), return scan b (below q), then one number per input variable per scan"
    ∷ leads 8 (Scans 2) 0 NotAllowed
    ∷ leads 8 (Scans 2) 1365 (More (Return 2 1365))
    ∷ leads 8 (Scans 2) 1366 NotAllowed
    ∷ leads 8 (Return 2 1365) 1364 (More (Reading 2730))
    ∷ leads 8 (Return 2 1365) 1365 NotAllowed
    ∷ leads 8 (Return 0 1365) 0 Last
    ∷ leads 8 (Reading 2) 65535 (More (Reading 1))
    ∷ leads 8 (Reading 1) 65535 Last
    ∷ []

pub shown : map found examples ≡ map said examples
unfolding within total_ok is_internal is_variable test_a_ok op_ok x_ok y_ok uses_nexts guard_ok uses_else next_ok allowed at_sources after_source at_tests after_test after_action
shown = refl
