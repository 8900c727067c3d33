-- Judging. Document 01, Numbers of refusal: "Judging checks: requirement, trace, work buffer under depth times row bytes (positions over 8, rounded up), list buffer
-- under 2 bytes per Input position." "Judging ends with work all zero; the list holds 2-byte positions, low byte first, and its rest is unchanged".
-- Assumes nothing: these are definitions.
use Rattle.std.specs.Prelude.{ℕ, ◌*◌, ◌/◌, ◌%◌, ◌≡◌, ◌↔◌, Bool, true, List, [], ◌∷◌, length, replicate, ltb, Ok, Err, Result}
use Rattle.coding.specs.Number.{pick}
use Rattle.coding.specs.Code.{code_at}
use Rattle.coding.specs.Refusal.{accepted, refusal, Answer, refused_at}
use Rattle.coding.specs.Room.{over}
use Rattle.coding.specs.declared.Told.{Told}
use Rattle.coding.specs.declared.Cause.{Cause}
use Rattle.coding.specs.declared.Cause.TheVariants.{ShortBuffer}
use Rattle.coding.specs.declared.Refusal.{Refusal}
use Rattle.judge.specs.declared.Verdict.{Verdict}
use Rattle.requirement.specs.Requirement.{Requirement, depth_of}
use Rattle.requirement.specs.Reading.{Parsed, whole, unread, parsed}
use Rattle.requirement.specs.declared.Kind.{Kind}
use Rattle.meaning.specs.Meaning.{Holds}
use Rattle.meaning.specs.Trace.{Trace, endless}
use Rattle.meaning.specs.Findings.{Findings}
use Rattle.bits.specs.Bits.{digit}
use Rattle.bits.specs.Rows.{row_of}
use Rattle.lasso.specs.Bytes.{positions, inputs_in}
use Rattle.lasso.specs.Checking.{check_trace}

-- What the checks come to in the order of that sentence: a refusal, or the requirement that is to be judged.
pub data Checks : Type 0 where
  stop : Cause → ℕ → Checks
  go : Requirement → Checks

-- "work buffer under depth times row bytes"
abbrev pub work_asked : List ℕ → Requirement → ℕ
work_asked trace f = depth_of f * row_of (positions trace)

-- "list buffer under 2 bytes per Input position"
abbrev pub list_asked : List ℕ → ℕ
list_asked trace = 2 * inputs_in trace

abbrev pub by_room : List ℕ → ℕ → ℕ → Requirement → Checks
by_room trace work list f =
    pick (ltb work (work_asked trace f)) (stop ShortBuffer (work_asked trace f))
    (pick (ltb list (list_asked trace)) (stop ShortBuffer (list_asked trace)) (go f))

abbrev pub by_trace : Answer → Checks → Checks
by_trace (Ok n) rest = rest
by_trace (Err why) rest = stop why.cause why.place

abbrev pub by_requirement : List ℕ → ℕ → ℕ → ℕ → Parsed → Checks
by_requirement trace start work list (whole f) = by_trace (check_trace trace start) (by_room trace work list f)
by_requirement trace start work list (unread cause place) = stop cause place

-- The code s of the kind told, a trace and its loop start, and so many bytes of work and of list.
unfoldable pub checks_of : Kind → List ℕ → List ℕ → ℕ → ℕ → ℕ → Checks
checks_of kind s trace start work list = by_requirement trace start work list (parsed kind (code_at s 0))

-- "2-byte positions, low byte first"
unfoldable pub position_bytes : List ℕ → List ℕ
position_bytes [] = []
position_bytes (p ∷ ps) = p % 256 ∷ p / 256 ∷ position_bytes ps

-- What is promised of an accepted judging: by the meaning on the endless run, not by the way it is worked out.
pub record Accepted (t : Trace) (f : Requirement) (work list work' list' : List ℕ) (holds : Bool) (count : ℕ) : Type 0 where
  -- "The verdict is taken at moment 0."
  pub verdict : (holds ≡ true) ↔ Holds (endless t) f 0
  pub found : List ℕ
  pub findings : Findings t f found
  pub counted : count ≡ length found
  pub listed : list' ≡ over list 0 (position_bytes found)
  pub cleared : work' ≡ replicate (length work) 0

-- What judging answers: a verdict and a count, or a refusal.
abbrev pub Judgement : Type 0
Judgement = Result Verdict Refusal

abbrev pub holds_with : Bool → ℕ → Judgement
holds_with holds count = Ok (record { holds = holds; count = count })

-- What is promised of a judging. "1 to 4 and 9 to 11 change no buffer."
abbrev pub Judges : Checks → Trace → List ℕ → List ℕ → List ℕ → List ℕ → Judgement → Type 0
Judges (stop cause place) t work list work' list' r = (r ≡ refused_at cause place) × (work' ≡ work) × (list' ≡ list)
Judges (go f) t work list work' list' (Ok verdict) = Accepted t f work list work' list' verdict.holds verdict.count
Judges (go f) t work list work' list' (Err why) = ⊥

-- A judging's answer in the paper's numbers: the verdict as 1 or 0, and the number of findings.
abbrev pub judged_told : Judgement → Told
judged_told (Ok verdict) = accepted (digit verdict.holds) verdict.count
judged_told (Err why) = refusal why.cause why.place
