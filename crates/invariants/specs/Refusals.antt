-- What ends a run, said of its states. Document 01, Numbers of refusal: "5 no rule for the action", "6 65th action", "7
-- a state numbered above 4,096 would arise (the start is 0)", each at its "scan, from 1", and "8 end state differs" at
-- "scan q"; Actions: "6, looked for before 5, and 5 before 7"; Phases and the lasso: "The run closes if the whole state
-- after scan q equals that after scan b (b = 0: the start)."
-- Assumes nothing: these are definitions. That a run answers just so is a theorem (proofs/Refused.antt).
use Rattle.run.specs.declared.Stop.TheVariants.{Halted, Refused}
use Rattle.std.specs.Prelude.{ℕ, ◌+◌, ◌<◌, ◌≤◌, ◌≡◌, ◌⊎◌, List, Ok, Err}
use Rattle.coding.specs.declared.Cause.{Cause}
use Rattle.coding.specs.declared.Cause.TheVariants.{NoRule as NoRuleFound, LongTurn, LongRun, NotClosed}
use Rattle.lookups.specs.Places.{processes_of, scans_of, return_of}
use Rattle.structure.specs.Allowed.{OneOf}
use Rattle.controller.specs.declared.Outcome.TheVariants.{NoRule}
use Rattle.run.specs.Limits.{longest_turn, last_state}
use Rattle.run.specs.Moves.{step_of}
use Rattle.run.specs.Running.{turn_of, Ran}
use Rattle.run.specs.declared.Machine.{Machine}
use Rattle.endless.specs.Recorded.{state_at}

-- The counter names a process, so that the next move is an action of it; any other move is a read or a write, which
-- always has a rule.
abbrev pub Acts : List ℕ → Machine → Type 0
Acts T m = OneOf m.state.counter (processes_of T)

-- What is against that action: the turn has had its 64, so that it would be a 65th; else there is no rule for it.
pub data Forbids (T : List ℕ) (m : Machine) : Cause → Type 0 where
  long_turn : Acts T m → longest_turn ≤ m.used → Forbids T m LongTurn
  no_rule : Acts T m → m.used < longest_turn → (step_of T m.state.counter m.state).outcome ≡ NoRule →
      Forbids T m NoRuleFound

-- What stops the run at state j: 6 or 5; else, where j is the last number that a state may have, 7.
pub data Stops (T I : List ℕ) (j : ℕ) : Cause → Type 0 where
  action : {cause : Cause} → Forbids T (state_at T I j) cause → Stops T I j cause
  long_run : j ≡ last_state → ((cause : Cause) → ¬ Forbids T (state_at T I j) cause) → Stops T I j LongRun

-- No state before state l stops the run: state l arises.
abbrev pub Arises : List ℕ → List ℕ → ℕ → Type 0
Arises T I l = (j : ℕ) → j < l → (cause : Cause) → ¬ Stops T I j cause

-- State l is the state after scan k, the first at which k scans are done; and it arises.
pub record AfterScan (T I : List ℕ) (k l : ℕ) : Type 0 where
  pub arises : Arises T I l
  pub sooner : (j : ℕ) → j < l → (state_at T I j).scan < k
  pub done : (state_at T I l).scan ≡ k

-- The run is stopped: by what the first state that stops it says, if scan q is not done there. The place is the scan
-- after those that are done, and the process is the one whose action it was, for 5 and 6, else 0.
pub record StoppedBy (T I : List ℕ) (cause : Cause) (scan process : ℕ) : Type 0 where
  pub number : ℕ
  pub arises : Arises T I number
  pub stops : Stops T I number cause
  pub early : (state_at T I number).scan < scans_of I
  pub scan_is : scan ≡ (state_at T I number).scan + 1
  pub process_is : process ≡ turn_of cause (state_at T I number)

-- "8 end state differs", at "scan q": the states after scans b and q arise, and are not the same.
pub record DiffersBy (T I : List ℕ) (cause : Cause) (scan process : ℕ) : Type 0 where
  pub back : ℕ
  pub last : ℕ
  pub after_b : AfterScan T I (return_of I) back
  pub after_q : AfterScan T I (scans_of I) last
  pub differ : ¬ ((state_at T I last).state ≡ (state_at T I back).state)
  pub cause_is : cause ≡ NotClosed
  pub scan_is : scan ≡ scans_of I
  pub process_is : process ≡ 0

-- "The last state is then dropped and its predecessor is followed by the state that ended scan b": the positions are
-- the states before the one after scan q, and the loop starts at the one after scan b.
pub record ClosesBy (T I : List ℕ) (n start : ℕ) : Type 0 where
  pub after_b : AfterScan T I (return_of I) start
  pub after_q : AfterScan T I (scans_of I) n
  pub same : (state_at T I n).state ≡ (state_at T I start).state

-- What each answer says of the run.
abbrev pub Ends : List ℕ → List ℕ → Ran → Type 0
Ends T I (Err (Halted cause scan process)) = StoppedBy T I cause scan process ⊎ DiffersBy T I cause scan process
Ends T I (Ok closed) = ClosesBy T I closed.positions closed.start
Ends T I (Err (Refused why)) = ⊥
