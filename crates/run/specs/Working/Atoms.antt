-- The tests of a table as the run lays them out, and what tests see: no part of a promise, only of what its own functions ask of one another.
-- Assumes nothing: these are definitions.
use Rattle.std.specs.Prelude.{ℕ, ◌+◌, ◌-◌, ◌<◌, ◌≡◌, Bool, true, false, List, length, get_or, ltb, eqb}
use Rattle.std.proofs.Common.{lit<}
use Rattle.ranges.specs.Values.{pick}
use Rattle.lookups.specs.declared.TestRow.{TestRow}
use Rattle.controller.specs.State.{none, stop, value_at, state_at}
use Rattle.controller.specs.Tests.{compares}
use Rattle.scan.specs.Guards.{atom_of}
use Rattle.run.specs.declared.laid.Laid.{Laid}

-- What tests see, as one list: 32 variables, the functional states of 8 processes, and behind them what is found where there is no such variable and no such process.
abbrev pub first_state : ℕ
first_state = 32

abbrev pub no_value : ℕ
no_value = 40

abbrev pub stop_place : ℕ
stop_place = 41

pub record Sees (v f s : List ℕ) : Type 0 where
  pub size : length s ≡ 42
  pub variables : length v ≡ 32
  pub processes : length f ≡ 8
  pub value : (x : ℕ) → x < 32 → get_or s x 0 ≡ value_at v x
  pub state : (i : ℕ) → i < 8 → get_or s (first_state + i) 0 ≡ state_at f (i + 1)
  pub unset : get_or s no_value 0 ≡ none
  pub stopped : get_or s stop_place 0 ≡ stop

-- The values put first.
pub record SeesValues (v s r : List ℕ) : Type 0 where
  pub size : length r ≡ length s
  pub value : (x : ℕ) → x < 32 → get_or r x 0 ≡ value_at v x

-- Where a test looks: process a is counted from 1, and 0 is taken for 1.
unfoldable pub process_place : ℕ → ℕ
process_place i = pick (ltb 8 i) stop_place (first_state + (i - 1))

unfoldable pub looks_at : TestRow → ℕ
looks_at t = pick (eqb t.kind 2) (process_place t.a) (pick (ltb t.a 32) t.a no_value)

-- Whether a test asks for an equal number: kinds 0 and 2.
unfoldable pub equals : TestRow → Bool
equals t = pick (eqb t.kind 2) true (eqb t.kind 0)

-- Whether a test that is laid out holds of what is seen.
unfoldable pub asked : Laid → List ℕ → Bool
asked t s = compares t.equal t.number (get_or s t.place 0)

-- What is laid out where there is no test.
abbrev pub missing : Laid
missing = record { place = no_value; number = 0; equal = false; in_sight = lit< tt }

-- Atom k by the tests laid out.
abbrev pub laid_atom : List Laid → List ℕ → ℕ → Bool
laid_atom laid s k = asked (get_or laid k missing) s

-- Test k of the table is laid out: of all that can be seen it holds just where its atom does.
abbrev pub LaysOut : List ℕ → ℕ → Laid → Type 0
LaysOut T k t = (v f s : List ℕ) → Sees v f s → asked t s ≡ atom_of T v f k

abbrev pub LaidOut : List ℕ → List Laid → Type 0
LaidOut T laid = (k : ℕ) → k < 32 → LaysOut T k (get_or laid k missing)
