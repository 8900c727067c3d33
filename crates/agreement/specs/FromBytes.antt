-- What is right to answer when a table is run over recorded inputs and a requirement is judged on the trace that the
-- run left: by the rules of the actions and the meaning of the requirement alone.
-- Assumes nothing: these are definitions.
use Rattle.run.specs.Running.{closes_at}
use Rattle.std.specs.Prelude.{ℕ, ◌*◌, ◌≡◌, Bool, List, length, replicate, take}
use Rattle.coding.specs.Room.{over}
use Rattle.requirement.specs.Requirement.{Requirement}
use Rattle.judge.specs.Judging.{position_bytes, Judgement, holds_with}
use Rattle.run.specs.Trace.{left_in, numbers_in}
use Rattle.endless.specs.ByTheRules.{ByTheRules}

-- The trace as it is handed on: the first 5 bytes for each of n positions of the buffer that was lent to the run of
-- these table bytes over these inputs bytes.
abbrev pub handed_on : List ℕ → List ℕ → List ℕ → ℕ → ℕ → List ℕ
handed_on table inputs trace n start = take (n * 5) (left_in (closes_at n start) (numbers_in table) (numbers_in inputs) trace)

-- The answer is the verdict of requirement f at moment 0 of the run that the rules give for these bytes, and how many
-- findings it has among the n positions; the list holds them from its front on and is otherwise as it was; work is all
-- zero.
pub record RightlyJudged (table inputs : List ℕ) (f : Requirement) (n : ℕ) (work list work' list' : List ℕ) (answer : Judgement) : Type 0 where
  pub holds : Bool
  pub found : List ℕ
  pub right : ByTheRules (numbers_in table) (numbers_in inputs) f n holds found
  pub answered : answer ≡ holds_with holds (length found)
  pub listed : list' ≡ over list 0 (position_bytes found)
  pub cleared : work' ≡ replicate (length work) 0
