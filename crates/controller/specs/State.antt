-- The state of a hyperprocess, s = (v, sp, pc). Paper 003, The set of states: "the state of variables", "the state of processes" with each process's functional state,
-- action counter and timer, and the "process counter". It is the struct's own record; its lists may have any length here.
-- Assumes nothing: these are definitions.
use Rattle.std.specs.Prelude.{ℕ, ◌+◌, ◌-◌, List, ◌∷◌, map, get_or, set, replicate, ltb, eqb}
use Rattle.ranges.specs.Limits.{most_variables}
use Rattle.ranges.specs.Values.{pick}
use Rattle.controller.specs.declared.Process.{Process}
use Rattle.controller.specs.declared.Controller.{Controller}

-- ⊥ of a variable and of a timer: above every number of the coding.
abbrev pub none : ℕ
none = 65536

-- The functional state stop, and ⊥ of an action counter.
abbrev pub stop : ℕ
stop = 0

abbrev pub body_end : ℕ
body_end = 0

-- One more. A number of the state has 16 bits and stays at the highest; a run's counters, states and timers are all far below it.
unfoldable pub up : ℕ → ℕ
up n = pick (ltb n 65535) (n + 1) n

-- A process that goes to action k of its state; one whose timer shows t; one that enters a state at an action, its timer cleared.
unfoldable pub goes : Process → ℕ → Process
goes p k = record { state = p.state; action = k; timer = p.timer }

unfoldable pub timed : Process → ℕ → Process
timed p t = record { state = p.state; action = p.action; timer = t }

unfoldable pub entering : ℕ → ℕ → Process
entering f a = record { state = f; action = a; timer = none }

-- A stopped process; also what is found where there is no process.
abbrev pub stopped : Process
stopped = entering stop body_end

-- The value of variable x, and of a list of records the record of process i: from 1; 0 is taken for 1; stopped past the last.
unfoldable pub value_at : List ℕ → ℕ → ℕ
value_at v x = get_or v x none

unfoldable pub record_at : List Process → ℕ → Process
record_at ps i = get_or ps (i - 1) stopped

unfoldable pub with_record : List Process → ℕ → Process → List Process
with_record ps i p = set ps (i - 1) p

-- The functional states of the processes in their order, and in such a list that of process i: what a test can see of processes.
unfoldable pub states_of : List Process → List ℕ
states_of ps = map (λ (p : Process). p.state) ps

unfoldable pub state_at : List ℕ → ℕ → ℕ
state_at states i = get_or states (i - 1) stop

-- "Start: process 1 in state 1 at action 1, others stopped, no timers, counter 0", "A variable starts unset." Of so many processes.
unfoldable pub start : ℕ → Controller
start n = record { variables = replicate most_variables none; processes = entering 1 1 ∷ replicate (n - 1) stopped; counter = 0 }

-- "running timers up by 1"
unfoldable pub raised : Process → Process
raised p = pick (eqb p.timer none) p (timed p (up p.timer))

unfoldable pub all_raised : List Process → List Process
all_raised ps = map raised ps
