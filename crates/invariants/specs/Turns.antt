-- The moves of one scan. Document 01, Actions: "Each process passes its turn exactly once a scan, ascending, after at
-- most 64 actions, skip and end counted"; paper 000's read leads from counter 0 to counter 1, and the write from n + 1
-- to 0. Moves are told by the numbers of the states from which they start; `state` tells the states of a run.
-- Assumes nothing: these are definitions. That every scan of a run is such a one is a theorem (proofs/Turned.antt, and
-- of accepted tables proofs/EachScan.antt).
use Rattle.std.specs.Prelude.{ℕ, suc, ◌+◌, ◌-◌, ◌<◌, ◌≤◌, ◌≡◌, List}
use Rattle.requirement.specs.declared.Phase.TheVariants.{Input, Exe, Output}
use Rattle.lookups.specs.Places.{processes_of}
use Rattle.controller.specs.declared.Outcome.{Outcome}
use Rattle.controller.specs.declared.Outcome.TheVariants.{Stays, Passes}
use Rattle.run.specs.Limits.{longest_turn}
use Rattle.run.specs.Moves.{step_of}
use Rattle.run.specs.declared.Machine.{Machine}
use Rattle.endless.specs.Recorded.{state_at}
use Rattle.invariants.specs.Refusals.{AfterScan}

-- Whose turn it is at state k, and what comes of its action: it keeps the turn or passes it on.
abbrev pub turn_at : (ℕ → Machine) → ℕ → ℕ
turn_at state k = (state k).state.counter

abbrev pub outcome_at : List ℕ → (ℕ → Machine) → ℕ → Outcome
outcome_at T state k = (step_of T (turn_at state k) (state k).state).outcome

-- The turn of process p: its actions are the moves from state `from` up to state `to`, which is the first after them.
-- There is one at least and there are at most 64; all keep the turn but the last, which passes it on. The machine
-- counts them from 0.
pub record Turn (T : List ℕ) (state : ℕ → Machine) (p from to : ℕ) : Type 0 where
  pub some : from < to
  pub few : to ≤ from + longest_turn
  pub whose : (k : ℕ) → from ≤ k → k < to → turn_at state k ≡ p
  pub keeps : (k : ℕ) → from ≤ k → k + 1 < to → outcome_at T state k ≡ Stays
  pub passes : (k : ℕ) → k + 1 ≡ to → outcome_at T state k ≡ Passes
  pub counted : (k : ℕ) → from ≤ k → k < to → (state k).used ≡ k - from

-- The turns from process p on, one of each process, ascending, one right after the other.
pub data Turns (T : List ℕ) (state : ℕ → Machine) : ℕ → ℕ → ℕ → Type 0 where
  none_left : {p at : ℕ} → p ≡ processes_of T + 1 → Turns T state p at at
  turn : {p from next to : ℕ} → p ≤ processes_of T → Turn T state p from next → Turns T state (p + 1) next to →
      Turns T state p from to

-- What a read does to phase and counter, and what a write does; that the move at such a counter is `read_of` or `write_of`
-- is what `move_of` says.
pub record Reads (state : ℕ → Machine) (k : ℕ) : Type 0 where
  pub phase : (state k).phase ≡ Output
  pub counter : turn_at state k ≡ 0
  pub phase_after : (state (suc k)).phase ≡ Input
  pub next_counter : turn_at state (suc k) ≡ 1

pub record Writes (T : List ℕ) (state : ℕ → Machine) (k : ℕ) : Type 0 where
  pub phase : (state k).phase ≡ Exe
  pub counter : turn_at state k ≡ processes_of T + 1
  pub phase_after : (state (suc k)).phase ≡ Output
  pub next_counter : turn_at state (suc k) ≡ 0
  pub one_more : (state (suc k)).scan ≡ (state k).scan + 1

-- State k lies in the scan that is read at state `read`: none after that, up to it, is just after a write.
abbrev pub WithinScan : (ℕ → Machine) → ℕ → ℕ → Type 0
WithinScan state read k = (j : ℕ) → read < j → j ≤ k → ¬ ((state j).phase ≡ Output)

-- A scan: the read, the turns of all processes, and the write.
pub record ScanOf (T : List ℕ) (state : ℕ → Machine) (read write : ℕ) : Type 0 where
  pub reads : Reads state read
  pub turns : Turns T state 1 (suc read) write
  pub writes : Writes T state write
  pub within : WithinScan state read write
  pub one_scan : (k : ℕ) → read ≤ k → k ≤ write → (state k).scan ≡ (state read).scan

-- Scan k + 1 of a recorded run: its read starts from the state after scan k, and the state after its write is the state
-- after scan k + 1.
pub record Scanned (T I : List ℕ) (k : ℕ) : Type 0 where
  pub read : ℕ
  pub write : ℕ
  pub begins : AfterScan T I k read
  pub scan : ScanOf T (state_at T I) read write
  pub ends : AfterScan T I (k + 1) (suc write)

-- Process p passes its turn at state k.
pub record PassesAt (T : List ℕ) (state : ℕ → Machine) (p k : ℕ) : Type 0 where
  pub whose : turn_at state k ≡ p
  pub passes : outcome_at T state k ≡ Passes

-- Among the moves from state `from` up to state `to` it does so exactly once.
pub record Once (T : List ℕ) (state : ℕ → Machine) (p from to : ℕ) : Type 0 where
  pub at : ℕ
  pub among : (from ≤ at) × (at < to)
  pub passes : PassesAt T state p at
  pub only : (k : ℕ) → from ≤ k → k < to → PassesAt T state p k → k ≡ at

-- What the machine counts at a state whose next move is an action: the actions of that process since its turn began,
-- which all kept the turn. The move before was the read, or the last action of the process before.
pub record DoneSoFar (T : List ℕ) (state : ℕ → Machine) (k : ℕ) : Type 0 where
  pub from : ℕ
  pub count : from + (state k).used ≡ k
  pub few : (state k).used ≤ longest_turn
  pub whose : (j : ℕ) → from ≤ j → j ≤ k → turn_at state j ≡ turn_at state k
  pub keeps : (j : ℕ) → from ≤ j → j < k → outcome_at T state j ≡ Stays
  pub before : ℕ
  pub begins : (suc before ≡ from) × (turn_at state before + 1 ≡ turn_at state k)
