-- Document 01, The bench case: "Marked for proof on this trace: M1 that finding ..", and slips that it must exclude.
-- Assumes nothing: these are definitions.
use Rattle.std.specs.Prelude.{ℕ, ◌≡◌, List, [], ◌∷◌}
use Rattle.requirement.specs.declared.Phase.TheVariants.{Input, Exe, Output}
use Rattle.requirement.specs.declared.End.TheVariants.{Reads, Writes}
use Rattle.requirement.specs.declared.Family.TheVariants.{Plain, Within, Each}
use Rattle.requirement.specs.declared.One.TheVariants.{Not, Next, Ever, Always}
use Rattle.requirement.specs.declared.Two.TheVariants.{And, Until}
use Rattle.requirement.specs.Requirement.{Requirement, atom, mark, one, two}
use Rattle.meaning.specs.Meaning.{Holds}
use Rattle.requirement.specs.Tags.{code_of}
use Rattle.coding.specs.Number.{bytes_of}
use Rattle.meaning.specs.Translation.{translate, implies, written}
use Rattle.meaning.specs.Trace.{Trace, endless}
use Rattle.meaning.specs.Findings.{Findings}
use Rattle.lasso.specs.Bytes.{trace_of}

-- The bench case's trace: "Twelve positions, loop start 4; Input at 1, 5, 9; Output at 0, 4, 8; atom 0 at 5 to 8, atom 1 at 8 to 11." Five bytes a position.
abbrev pub bench_bytes : List ℕ
bench_bytes =
    2 ∷ 0 ∷ 0 ∷ 0 ∷ 0 ∷ 0 ∷ 0 ∷ 0 ∷ 0 ∷ 0 ∷ 1 ∷ 0 ∷ 0 ∷ 0 ∷ 0 ∷ 1 ∷ 0 ∷ 0 ∷ 0 ∷ 0
    ∷ 2 ∷ 0 ∷ 0 ∷ 0 ∷ 0 ∷ 0 ∷ 1 ∷ 0 ∷ 0 ∷ 0 ∷ 1 ∷ 1 ∷ 0 ∷ 0 ∷ 0 ∷ 1 ∷ 1 ∷ 0 ∷ 0 ∷ 0
    ∷ 2 ∷ 3 ∷ 0 ∷ 0 ∷ 0 ∷ 0 ∷ 2 ∷ 0 ∷ 0 ∷ 0 ∷ 1 ∷ 2 ∷ 0 ∷ 0 ∷ 0 ∷ 1 ∷ 2 ∷ 0 ∷ 0 ∷ 0 ∷ []

abbrev pub bench : Trace
bench = trace_of bench_bytes 4

-- A second trace, of the same table with the inputs 2 1 1 1 (scan 2 reads what scan 1 read, and is repeated): eight
-- positions, loop start 4; Input at 1 and 5, so that the loop holds one Input; Output at 0 and 4; atom 0 from 1 on, atom 1
-- from 4 on.
abbrev pub one_input_bytes : List ℕ
one_input_bytes =
    2 ∷ 0 ∷ 0 ∷ 0 ∷ 0 ∷ 0 ∷ 1 ∷ 0 ∷ 0 ∷ 0 ∷ 1 ∷ 1 ∷ 0 ∷ 0 ∷ 0 ∷ 1 ∷ 1 ∷ 0 ∷ 0 ∷ 0
    ∷ 2 ∷ 3 ∷ 0 ∷ 0 ∷ 0 ∷ 0 ∷ 3 ∷ 0 ∷ 0 ∷ 0 ∷ 1 ∷ 3 ∷ 0 ∷ 0 ∷ 0 ∷ 1 ∷ 3 ∷ 0 ∷ 0 ∷ 0 ∷ []

abbrev pub one_input : Trace
one_input = trace_of one_input_bytes 4

-- A marked case, and what it says of a lasso.
pub data Case : Type 0 where
  holds : Requirement → ℕ → Case
  fails : Requirement → ℕ → Case
  finds : Requirement → List ℕ → Case
  gives : Requirement → List ℕ → Case
  bytes : ℕ → List ℕ → Case

abbrev pub StatedOn : Trace → Case → Type 0
StatedOn t (holds f n) = Holds (endless t) f n
StatedOn t (fails f n) = ¬ Holds (endless t) f n
StatedOn t (finds f l) = Findings t f l
StatedOn t (gives f l) = code_of (translate f) ≡ l
StatedOn t (bytes n l) = bytes_of n ≡ l

abbrev pub Stated : Case → Type 0
Stated c = StatedOn bench c

-- M1's requirement, not(a0 and not a1).
abbrev pub answered : Requirement
answered = implies written (atom 0) (atom 1)

abbrev pub marked : List Case
marked =
    -- "M1 that finding."
    finds answered (5 ∷ [])
    -- "M2 G^i not(a0 and not X^i a1) holds at 0."
    ∷ holds (one (Always (Each Reads)) (implies written (atom 0) (one (Next (Each Reads)) (atom 1)))) 0
    -- "M3 plain G of M1's requirement fails at 0; M4 its G^o holds."
    ∷ fails (one (Always Plain) answered) 0
    ∷ holds (one (Always (Each Writes)) answered) 0
    -- "M5 X^i a1 at 6 fails. M6 X^i a1 at 5 holds."
    ∷ fails (one (Next (Each Reads)) (atom 1)) 6
    ∷ holds (one (Next (Each Reads)) (atom 1)) 5
    -- "M7 G^e a0 at 5 fails; M8 at 6 holds. M9 G^e a0 at 8 holds, F^e a0 at 8 fails."
    ∷ fails (one (Always Within) (atom 0)) 5
    ∷ holds (one (Always Within) (atom 0)) 6
    ∷ holds (one (Always Within) (atom 0)) 8
    ∷ fails (one (Ever Within) (atom 0)) 8
    -- "M10 X^e a0 at 4 fails."
    ∷ fails (one (Next Within) (atom 0)) 4
    -- "M11 X^i a1 translates to 11 1 3 2 3 8 11 1 3 2 3 0 1. M12 300 is AC 02."
    ∷ gives (one (Next (Each Reads)) (atom 1)) (11 ∷ 1 ∷ 3 ∷ 2 ∷ 3 ∷ 8 ∷ 11 ∷ 1 ∷ 3 ∷ 2 ∷ 3 ∷ 0 ∷ 1 ∷ [])
    ∷ bytes 300 (0xAC ∷ 0x02 ∷ [])
    ∷ []

-- Each of a list.
abbrev pub All : (Case → Type 0) → List Case → Type 0
All P [] = Unit
All P (c ∷ cs) = P c × All P cs

-- Never true.
abbrev pub never : Requirement
never = two And (atom 0) (one Not (atom 0))

-- Three of the four of "Slips this must exclude", on the same trace; the fourth, "A timer started and raised in the same
-- scan", belongs to the run. Behind them the published forms that do not say what their operator means, each with the case
-- that tells the two apart: "The published G^e target, "not Exe", is wrong at Input; the published X^i form is wrong off
-- Input", and so are the published F^e at Input and the published X^o off Output.
abbrev pub slips : List Case
slips =
    -- "An until that is granted by going round the loop for ever."
    fails (two (Until Plain) (one Not never) never) 0
    -- "X^i from an Exe state taken as the nearest Input", which is the published form: that one would hold at 6 (M5 says
    -- that X^i does not).
    ∷ holds (one (Next Plain) (two (Until Plain) (one Not (mark Input)) (two And (mark Input) (atom 1)))) 6
    -- "Walking the loop once only, so that F misses what lies before the join."
    ∷ holds (one (Ever Plain) (two And (mark Input) (atom 0))) 9
    -- By the published target G^e would hold at 5 (M7 says that it does not).
    ∷ holds (two (Until Plain) (two And (atom 0) (mark Exe)) (one Not (mark Exe))) 5
    -- F^e a0 holds at the Input 5, for atom 0 holds at the Exe 6; the published form, Exe U (a0 and Exe), asks for Exe at 5
    -- already.
    ∷ holds (one (Ever Within) (atom 0)) 5
    ∷ fails (two (Until Plain) (mark Exe) (two And (atom 0) (mark Exe))) 5
    -- Off Output, at the Exe 6, the Outputs to come are 8 and then 4, a lap later: X^o is about 4, where atom 1 does not
    -- hold. The published form would take the nearest, 8. At the Output 4 they agree: 8 is the second.
    ∷ fails (one (Next (Each Writes)) (atom 1)) 6
    ∷ holds (one (Next Plain) (two (Until Plain) (one Not (mark Output)) (two And (mark Output) (atom 1)))) 6
    ∷ holds (one (Next (Each Writes)) (atom 1)) 4
    ∷ []

-- Cases of the second trace.
abbrev pub one_input_cases : List Case
one_input_cases =
    -- At the loop's one Input, 5, the second of the input sequence is 5 itself, a lap later: there is a second, and it is
    -- not the Input 1, at which atom 1 does not hold.
    holds (one (Next (Each Reads)) (atom 1)) 5
    ∷ fails (one (Next (Each Reads)) (one Not (atom 1))) 5
    -- From the Exe 6 both are that position, one lap and two laps later; from the Input 1 the second is 5.
    ∷ holds (one (Next (Each Reads)) (atom 1)) 6
    ∷ holds (one (Next (Each Reads)) (atom 1)) 1
    -- A finding before the loop: at the Input 1 atom 0 holds and atom 1 does not. The loop does not repeat it, and it
    -- counts all the same: "every input position of the lasso".
    ∷ finds answered (1 ∷ [])
    ∷ []
