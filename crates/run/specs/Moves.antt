-- One move of the run: a read, an action of the process whose turn it is, or a write. A machine is a state of the run: the controller's state, its phase, the actions
-- done so far in the turn and the scans done.
-- Assumes nothing: these are definitions.
use Rattle.std.specs.Prelude.{ℕ, ◌+◌, Bool, true, false, List, eqb, ltb, Option, None, Some}
use Rattle.coding.specs.declared.Cause.{Cause}
use Rattle.coding.specs.declared.Cause.TheVariants.{NoRule as NoRuleFound, LongTurn}
use Rattle.ranges.specs.Limits.{err_state}
use Rattle.ranges.specs.Values.{pick}
use Rattle.requirement.specs.declared.Phase.TheVariants.{Input, Exe, Output}
use Rattle.lookups.specs.Places.{processes_of, action_of as row_of}
use Rattle.controller.specs.State.{stop, body_end, record_at, start}
use Rattle.controller.specs.Rules.{act_of}
use Rattle.controller.specs.Actions.{action_of}
use Rattle.controller.specs.declared.Controller.{Controller}
use Rattle.controller.specs.declared.Outcome.{Outcome}
use Rattle.controller.specs.declared.Outcome.TheVariants.{Stays, Passes, NoRule}
use Rattle.controller.specs.declared.Acted.{Acted}
use Rattle.controller.specs.declared.Action.TheVariants.{Skip, End}
use Rattle.scan.specs.Guards.{next_of}
use Rattle.scan.specs.Scanning.{read_of, write_of}
use Rattle.run.specs.Limits.{longest_turn}
use Rattle.run.specs.declared.Machine.{Machine}
use Rattle.run.specs.declared.Moved.{Moved}

-- "Start: process 1 in state 1 at action 1, others stopped, no timers, counter 0." "The state before the first read .. is Output".
abbrev pub begun : ℕ → Machine
begun processes = record { phase = Output; state = start processes; used = 0; scan = 0 }

abbrev pub to : Machine → Moved
to m = record { stopped = None; machine = m }

abbrev pub stops : Cause → Machine → Moved
stops cause m = record { stopped = Some cause; machine = m }

-- Paper 003: "The stop and err are inactive states, and other states are active states."
unfoldable pub active : ℕ → Bool
active f = pick (eqb f stop) false (pick (eqb f err_state) false true)

-- The action of process i: skip in an inactive state, end at the end of the body, else the one at its place in the table.
unfoldable pub step_of : List ℕ → ℕ → Controller → Acted
step_of T i c =
    let p = record_at c.processes i in
    let r = row_of T i p.state p.action in
    pick (active p.state)
    (pick (eqb p.action body_end) (act_of i End 0 c) (act_of i (action_of r.op r.x r.y) (next_of T c r) c))
    (act_of i Skip 0 c)

-- "Each process passes its turn exactly once a scan": an action that keeps the turn counts one more, and one that passes it begins the next.
abbrev pub used_after : Outcome → ℕ → ℕ
used_after Stays used = used + 1
used_after Passes used = 0
used_after NoRule used = used

abbrev pub after_action : Machine → Outcome → Controller → Machine
after_action m outcome c = record { phase = Exe; state = c; used = used_after outcome m.used; scan = m.scan }

-- "after at most 64 actions, skip and end counted; a 65th is refusal 6"
unfoldable pub too_long : ℕ → Option Cause
too_long used = pick (ltb used longest_turn) None (Some LongTurn)

-- "no rule for the action"
abbrev pub unruled : Outcome → Option Cause
unruled Stays = None
unruled Passes = None
unruled NoRule = Some NoRuleFound

-- Of two looks the first that stops the run: "6, looked for before 5".
abbrev pub before : Option Cause → Option Cause → Option Cause
before (Some cause) later = Some cause
before None later = later

abbrev pub unless : Option Cause → Machine → Machine → Moved
unless (Some cause) m next = stops cause m
unless None m next = to next

unfoldable pub action_move : List ℕ → Machine → Moved
action_move T m =
    let a = step_of T m.state.counter m.state in
    unless (before (too_long m.used) (unruled a.outcome)) m (after_action m a.outcome a.state)

-- "just after a read is Input (0)"; "each just after a write, is Output (2)"; "all others are Exe (1)"
abbrev pub after_read : Machine → Controller → Machine
after_read m c = record { phase = Input; state = c; used = 0; scan = m.scan }

abbrev pub after_write : Machine → Controller → Machine
after_write m c = record { phase = Output; state = c; used = 0; scan = m.scan + 1 }

-- Counter 0: the read, of the inputs recorded where so many scans are done; "000's counter runs to n+1 and the write .. sets it to 0"; else the process that it counts.
unfoldable pub move_of : List ℕ → List ℕ → ℕ → Machine → Moved
move_of T I done m =
    pick (eqb m.state.counter 0) (to (after_read m (read_of T I done m.state)))
    (pick (ltb (processes_of T) m.state.counter) (to (after_write m (write_of T m.state))) (action_move T m))
