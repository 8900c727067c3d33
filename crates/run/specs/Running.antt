-- The run of a table over recorded inputs, and its closing. Document 01, Phases and the lasso, and Numbers of refusal 5 to 8.
-- Assumes nothing: these are definitions.
use Rattle.run.specs.declared.Stop.TheVariants.{Halted, Refused}
use Rattle.std.specs.Prelude.{ℕ, zero, suc, ◌+◌, ◌-◌, List, ltb, None, Some, Err, Result, Ok}
use Rattle.coding.specs.declared.Cause.{Cause}
use Rattle.coding.specs.declared.Cause.TheVariants.{CutShort, NotShortest, TooLarge, LeftOver, NotAllowed, NoSuchNode, PastLimit, NoRule, LongTurn, LongRun, NotClosed, BadTrace, ShortBuffer, NameAbsent}
use Rattle.ranges.specs.Limits.{most_processes}
use Rattle.ranges.specs.Values.{pick}
use Rattle.lookups.specs.Places.{scans_of, return_of}
use Rattle.controller.specs.Same.{same_state}
use Rattle.run.specs.Limits.{last_state}
use Rattle.run.specs.Moves.{begun, move_of}
use Rattle.run.specs.declared.Closed.{Closed}
use Rattle.run.specs.declared.Stop.{Stop}
use Rattle.run.specs.declared.Machine.{Machine}
use Rattle.run.specs.declared.Moved.{Moved}
use Rattle.run.specs.declared.Reached.{Reached}

-- The move of a machine: the inputs of the scan after those that are done.
abbrev pub recorded_move : List ℕ → List ℕ → Machine → Moved
recorded_move T I m = move_of T I m.scan m

-- Where a run has come: so many scans are done, at the state of this number; or what stopped it, at the last state that arose.
abbrev pub here : ℕ → Machine → Reached
here n m = record { stopped = None; number = n; machine = m }

abbrev pub stopped_at : Cause → ℕ → Machine → Reached
stopped_at cause n m = record { stopped = Some cause; number = n; machine = m }

-- The run from state n on until k scans are done, where so many states more may arise: "6, looked for before 5, and 5 before 7".
unfoldable pub reached : List ℕ → List ℕ → ℕ → ℕ → ℕ → Machine → Reached
reached T I k zero n m =
    let x = recorded_move T I m in
    pick (ltb m.scan k) (elim x.stopped [ None ↦ stopped_at LongRun n m | Some cause ↦ stopped_at cause n m ]) (here n m)
reached T I k (suc more) n m =
    let x = recorded_move T I m in
    let rest = reached T I k more (n + 1) x.machine in
    pick (ltb m.scan k) (elim x.stopped [ None ↦ rest | Some cause ↦ stopped_at cause n m ]) (here n m)

-- From a state that was reached, until k scans are done.
abbrev pub onward : List ℕ → List ℕ → ℕ → Reached → Reached
onward T I k r = reached T I k (last_state - r.number) r.number r.machine

-- The state that ended scan b ("b = 0: the start"), and from there the one that ends scan q.
unfoldable pub to_return : List ℕ → List ℕ → Reached
to_return T I = onward T I (return_of I) (here 0 (begun most_processes))

unfoldable pub to_end : List ℕ → List ℕ → Reached
to_end T I = onward T I (scans_of I) (to_return T I)

-- Whose turn it was, for the two refusals that are of an action; else 0. Document 01 asks for number and place alone, and `ran_told` tells these; the change request
-- C-12 asks for the process.
abbrev pub turn_of : Cause → Machine → ℕ
turn_of NoRule m = m.state.counter
turn_of LongTurn m = m.state.counter
turn_of LongRun m = 0
turn_of NotClosed m = 0
turn_of CutShort m = 0
turn_of NotShortest m = 0
turn_of TooLarge m = 0
turn_of LeftOver m = 0
turn_of NotAllowed m = 0
turn_of NoSuchNode m = 0
turn_of PastLimit m = 0
turn_of BadTrace m = 0
turn_of ShortBuffer m = 0
turn_of NameAbsent m = 0

-- What a run answers: a closed run, or what stopped it.
abbrev pub Ran : Type 0
Ran = Result Closed Stop

abbrev pub closes_at : ℕ → ℕ → Ran
closes_at positions start = Ok (record { positions = positions; start = start })

-- What was given is refused.
abbrev pub run_refused : Cause → ℕ → Ran
run_refused cause place = Err (Refused (record { cause = cause; place = place }))

-- The place of 5 to 7 is the "scan, from 1".
abbrev pub stop_of : Cause → Machine → Stop
stop_of cause m = Halted cause (m.scan + 1) (turn_of cause m)

abbrev pub halted : Cause → Machine → Ran
halted cause m = Err (stop_of cause m)

-- "The run closes if the whole state after scan q equals that after scan b .. The last state is then dropped and its predecessor is followed by the state that ended
-- scan b." So the positions are the states before the last, and the loop starts at the state that ended scan b. Else 8, at "scan q".
unfoldable pub closing : ℕ → Reached → Reached → Ran
closing q back last =
    pick (same_state last.machine.state back.machine.state) (closes_at last.number back.number) (Err (Halted NotClosed q 0))

-- The run of a table's numbers T over the numbers I of an inputs record.
unfoldable pub ran_of : List ℕ → List ℕ → Ran
ran_of T I =
    let back = to_return T I in
    let last = to_end T I in
    elim back.stopped [
      | Some cause ↦ halted cause back.machine
      | None ↦ elim last.stopped [ Some cause ↦ halted cause last.machine | None ↦ closing (scans_of I) back last ]
    ]
