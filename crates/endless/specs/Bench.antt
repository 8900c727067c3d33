-- Document 01, The bench case: "Table: 1 1 1 1 2 0 0 1 0 2 1 1 1 1 2 1 0 0 0 0 (20 bytes). Inputs: 3 1 0 1 0."
-- Assumes nothing: these are definitions.
use Rattle.std.specs.Prelude.{ℕ, List, [], ◌∷◌}

abbrev pub bench_table : List ℕ
bench_table = 1 ∷ 1 ∷ 1 ∷ 1 ∷ 2 ∷ 0 ∷ 0 ∷ 1 ∷ 0 ∷ 2 ∷ 1 ∷ 1 ∷ 1 ∷ 1 ∷ 2 ∷ 1 ∷ 0 ∷ 0 ∷ 0 ∷ 0 ∷ []

abbrev pub bench_inputs : List ℕ
bench_inputs = 3 ∷ 1 ∷ 0 ∷ 1 ∷ 0 ∷ []

-- The bench table's inputs for the second trace of the computed cases, whose loop holds one Input.
abbrev pub one_input_inputs : List ℕ
one_input_inputs = 2 ∷ 1 ∷ 1 ∷ 1 ∷ []

-- "Slips this must exclude: .. A timer started and raised in the same scan": a table whose one process waits with
-- bound 2 and then sets its variable, and six scans without inputs, after which it goes on as after scan 3.
abbrev pub timer_table : List ℕ
timer_table = 0 ∷ 1 ∷ 0 ∷ 1 ∷ 0 ∷ 0 ∷ 1 ∷ 1 ∷ 1 ∷ 2 ∷ 4 ∷ 2 ∷ 0 ∷ 0 ∷ 2 ∷ 0 ∷ 1 ∷ 0 ∷ 1 ∷ 0 ∷ 0 ∷ 0 ∷ []

abbrev pub timer_inputs : List ℕ
timer_inputs = 6 ∷ 3 ∷ []

-- In scan 1 the timer starts at 0 and the turn passes on; in scan 2 it stands at 1, below its bound, and the turn passes
-- on again; in scan 3 it stands at 2, its bound, and the body goes on: atom 0 from position 9 on. A timer that was raised
-- in the scan that started it would elapse one scan earlier, in scan 2, with atom 0 from position 6 on, and the state
-- after scan 6 would not be the one after scan 3. The bound is 2 and not 1 so that the slip also shows where a tout goes on
-- above its bound: with bound 1 such a checker would elapse in scan 2 either way.
abbrev pub timer_bytes : List ℕ
timer_bytes =
    2 ∷ 0 ∷ 0 ∷ 0 ∷ 0
    ∷ 0 ∷ 0 ∷ 0 ∷ 0 ∷ 0 ∷ 1 ∷ 0 ∷ 0 ∷ 0 ∷ 0 ∷ 2 ∷ 0 ∷ 0 ∷ 0 ∷ 0
    ∷ 0 ∷ 0 ∷ 0 ∷ 0 ∷ 0 ∷ 1 ∷ 0 ∷ 0 ∷ 0 ∷ 0 ∷ 2 ∷ 0 ∷ 0 ∷ 0 ∷ 0
    ∷ 0 ∷ 0 ∷ 0 ∷ 0 ∷ 0 ∷ 1 ∷ 0 ∷ 0 ∷ 0 ∷ 0 ∷ 1 ∷ 1 ∷ 0 ∷ 0 ∷ 0 ∷ 1 ∷ 1 ∷ 0 ∷ 0 ∷ 0 ∷ 2 ∷ 1 ∷ 0 ∷ 0 ∷ 0
    ∷ 0 ∷ 1 ∷ 0 ∷ 0 ∷ 0 ∷ 1 ∷ 1 ∷ 0 ∷ 0 ∷ 0 ∷ 2 ∷ 1 ∷ 0 ∷ 0 ∷ 0
    ∷ 0 ∷ 1 ∷ 0 ∷ 0 ∷ 0 ∷ 1 ∷ 1 ∷ 0 ∷ 0 ∷ 0 ∷ 2 ∷ 1 ∷ 0 ∷ 0 ∷ 0
    ∷ 0 ∷ 1 ∷ 0 ∷ 0 ∷ 0 ∷ 1 ∷ 1 ∷ 0 ∷ 0 ∷ 0 ∷ 1 ∷ 1 ∷ 0 ∷ 0 ∷ 0 ∷ 1 ∷ 1 ∷ 0 ∷ 0 ∷ 0 ∷ []
