-- Document 01, Numbers of refusal: the number of each cause, and what an answer says in the paper's numbers.
-- Assumes nothing: these are definitions.
use Rattle.std.specs.Prelude.{ℕ}
use Rattle.std.specs.Prelude.{Result, Ok, Err}
use Rattle.coding.specs.declared.Cause.{Cause}
use Rattle.coding.specs.declared.Cause.TheVariants.{CutShort, NotShortest, TooLarge, LeftOver, NotAllowed, NoSuchNode, PastLimit, NoRule, LongTurn, LongRun, NotClosed, BadTrace, ShortBuffer, NameAbsent}
use Rattle.coding.specs.declared.Refusal.{Refusal}
use Rattle.coding.specs.declared.Number.{Number}
use Rattle.coding.specs.declared.Told.{Told}

-- What reading a number finds: its value and the place after it, or why there is none and where.
abbrev pub NumberRead : Type 0
NumberRead = Result Number Refusal

abbrev pub value_then : ℕ → ℕ → NumberRead
value_then value next = Ok (record { value = value; next = next })

-- What a reader, a writer or a check of a whole code answers: how many numbers or bytes, or a refusal and its place.
abbrev pub Answer : Type 0
Answer = Result ℕ Refusal

-- "Refusals carry number and place": a cause at a place, in the stead of whatever else is answered.
abbrev pub refused_at : {A : Type 0} → Cause → ℕ → Result A Refusal
refused_at cause place = Err (record { cause = cause; place = place })

abbrev pub number_of : Cause → ℕ
-- "number cut short or missing, not shortest, over 65,535; text of a sheet cut short; bytes left over"
number_of CutShort = 1
number_of NotShortest = 1
number_of TooLarge = 1
number_of LeftOver = 1
-- "table, inputs or sheet: a value not allowed above"
number_of NotAllowed = 2
-- "requirement: tag unknown or not allowed, atom above 31"
number_of NoSuchNode = 3
-- "node or depth limit passed, at that node's tag"
number_of PastLimit = 4
-- "no rule for the action"
number_of NoRule = 5
-- "65th action"
number_of LongTurn = 6
-- "a state numbered above 4,096 would arise"
number_of LongRun = 7
-- "end state differs"
number_of NotClosed = 8
-- trace length, loop start, phases, no Output in the loop
number_of BadTrace = 9
-- "a lent buffer too short"
number_of ShortBuffer = 10
-- "name absent"
number_of NameAbsent = 11

-- An answer in the paper's numbers. "Refusals carry number and place, else nothing": number 0 stands for no refusal, and values follow it.
abbrev pub accepted : ℕ → ℕ → Told
accepted first second = record { refusal = 0; first = first; second = second }

abbrev pub refusal : Cause → ℕ → Told
refusal cause place = record { refusal = number_of cause; first = place; second = 0 }

abbrev pub number_told : NumberRead → Told
number_told (Ok num) = accepted num.value num.next
number_told (Err why) = refusal why.cause why.place

abbrev pub answer_told : Answer → Told
answer_told (Ok n) = accepted n 0
answer_told (Err why) = refusal why.cause why.place
