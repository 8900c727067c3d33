-- The grammars of a table and of an inputs record. Document 01, Numbers of refusal: "Codes are read left to right and the first fault counts ..;
-- then left-over bytes; then kind 2's a (1 to the process count) and b, left to right."
-- Assumes nothing: these are definitions.
use Rattle.coding.specs.Refusal.{Answer, refused_at}
use Rattle.std.specs.Prelude.{ℕ, ◌+◌, Bool, true, List, get_or, set, replicate, ltb, leb, eqb, Ok, Err}
use Rattle.coding.specs.Code.{Code, item, end, broken}
use Rattle.coding.specs.declared.Cause.TheVariants.{CutShort, LeftOver, NotAllowed}
use Rattle.ranges.specs.Limits.{most_variables, err_state}
use Rattle.ranges.specs.Values.{pick, within}
use Rattle.ranges.specs.Order.{step_of}
use Rattle.ranges.specs.declared.Want.{Want}
use Rattle.ranges.specs.declared.Want.TheVariants.{Inputs, Internals, Outputs, Source, Tests, Kind, TestA, TestB, Processes, States, Actions, Op, X, Y, Guard, NextIf, NextElse, Scans, Return, Reading}
use Rattle.table.specs.declared.Role.{Role}
use Rattle.table.specs.declared.Role.TheVariants.{ProcessCount, StateCount, OfTestA, OfTestB, Other}
use Rattle.table.specs.declared.tests.Ruling.{Ruling}
use Rattle.table.specs.declared.tests.Ruling.TheVariants.{Fine, Wrong, Behind}
use Rattle.ranges.specs.declared.Step.TheVariants.{More, Last, NotAllowed as Bad}

-- Nothing may be left over.
abbrev pub ended : ℕ → Code → Answer
ended n (item p v c) = refused_at LeftOver p
ended n (end p) = Ok n
ended n (broken cause p) = refused_at LeftOver p

-- The same by places: so many bytes or numbers there are, and all before `next` are taken.
unfoldable pub ended_at : ℕ → ℕ → ℕ → Answer
ended_at n next size = pick (ltb next size) (refused_at LeftOver next) (Ok n)

-- The first fault from left to right, then what is left over, where `want` is wanted and n numbers are behind.
unfoldable pub check : ℕ → Want → ℕ → Code → Answer
check most want n (item p v c) =
    elim (step_of most want v) [ More next ↦ check most next (n + 1) c | Last ↦ ended (n + 1) c | Bad ↦ refused_at NotAllowed p ]
check most want n (end p) = refused_at CutShort p
check most want n (broken cause p) = refused_at cause p

-- What a number that is wanted is to the second look at the tests.
abbrev pub role_of : Want → Role
role_of (Processes sh) = ProcessCount
role_of (States sh p) = StateCount p
role_of (TestA sh left kind) = OfTestA kind
role_of (TestB sh left kind a) = OfTestB kind a
role_of Inputs = Other
role_of (Internals i) = Other
role_of (Outputs i m) = Other
role_of (Source sh left) = Other
role_of (Tests sh) = Other
role_of (Kind sh left) = Other
role_of (Actions sh p n s) = Other
role_of (Op sh spot) = Other
role_of (X sh spot op) = Other
role_of (Y sh spot op) = Other
role_of (Guard sh spot op) = Other
role_of (NextIf sh spot op guard) = Other
role_of (NextElse sh spot op guard) = Other
role_of (Scans inputs) = Other
role_of (Return inputs scans) = Other
role_of (Reading left) = Other

-- What kind 2's a and b are held against: at 0 how many processes there are, at p how many active states process p has.
abbrev pub noted : Role → ℕ → List ℕ → List ℕ
noted ProcessCount v counts = set counts 0 v
noted (StateCount p) v counts = set counts p v
noted (OfTestA kind) v counts = counts
noted (OfTestB kind a) v counts = counts
noted Other v counts = counts

unfoldable pub counts_from : ℕ → Want → List ℕ → Code → List ℕ
counts_from most want counts (item p v c) =
    elim (step_of most want v) [ More next ↦ counts_from most next (noted (role_of want) v counts) c | Last ↦ counts | Bad ↦ counts ]
counts_from most want counts (end p) = counts
counts_from most want counts (broken cause p) = counts

-- "2 process a (from 1) is in state b (0 stop, 1 upward active, 255 err)": b is 0, 255 or one of its active states.
unfoldable pub state_ok : ℕ → ℕ → Bool
state_ok states b = pick (eqb b err_state) true (leb b states)

abbrev pub fine_if : Bool → Ruling
fine_if ok = pick ok Fine Wrong

-- "then kind 2's a (1 to the process count) and b": the tests stand before the processes.
abbrev pub test_says : List ℕ → Role → ℕ → Ruling
test_says counts (OfTestA kind) v = pick (eqb kind 2) (fine_if (within 1 v (get_or counts 0 0))) Fine
test_says counts (OfTestB kind a) v = pick (eqb kind 2) (fine_if (state_ok (get_or counts a 0) v)) Fine
test_says counts ProcessCount v = Behind
test_says counts (StateCount p) v = Behind
test_says counts Other v = Fine

-- The second look, "left to right", where everything else is accepted.
unfoldable pub tests_from : ℕ → List ℕ → Want → Code → Answer → Answer
tests_from most counts want (item p v c) accepted =
    elim (test_says counts (role_of want) v) [
      | Fine ↦ elim (step_of most want v) [ More next ↦ tests_from most counts next c accepted | Last ↦ accepted | Bad ↦ accepted ]
      | Wrong ↦ refused_at NotAllowed p
      | Behind ↦ accepted
    ]
tests_from most counts want (end p) accepted = accepted
tests_from most counts want (broken cause p) accepted = accepted

-- Room for the counts of at most 64 processes.
abbrev pub no_counts : List ℕ
no_counts = replicate 65 0

-- The first number that a table wants.
abbrev pub table_start : Want
table_start = Inputs

abbrev pub tested : ℕ → Code → Answer → Answer
tested most c (Ok n) = tests_from most (counts_from most table_start no_counts c) table_start c (Ok n)
tested most c (Err why) = Err why

-- A table of at most `most` processes.
unfoldable pub table_grammar : ℕ → Code → Answer
table_grammar most c = tested most c (check most table_start 0 c)

-- "Inputs take the input count along; above 32 is refusal 2 at 0, first."
unfoldable pub inputs_grammar : ℕ → Code → Answer
inputs_grammar inputs c = pick (ltb most_variables inputs) (refused_at NotAllowed 0) (check 0 (Scans inputs) 0 c)
