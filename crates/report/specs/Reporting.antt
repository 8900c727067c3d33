-- What scancheck prints for an input. Document 01, The bench case: the framing first; "then it runs and judges, places counting within their block".
-- Assumes nothing: these are definitions.
use Rattle.run.specs.declared.Stop.TheVariants.{Halted, Refused}
use Rattle.run.specs.Running.{Ran}
use Rattle.std.specs.Prelude.{ℕ, ◌≡◌, ◌↔◌, Bool, true, List, Ok, Err}
use Rattle.coding.specs.Refusal.{number_of}
use Rattle.requirement.specs.Requirement.{Requirement}
use Rattle.requirement.specs.declared.Kind.TheVariants.{Untranslated}
use Rattle.meaning.specs.Meaning.{Holds}
use Rattle.meaning.specs.Trace.{Trace, endless}
use Rattle.meaning.specs.Findings.{Findings}
use Rattle.lasso.specs.Bytes.{trace_of}
use Rattle.judge.specs.Judging.{Checks, stop, go, checks_of}
use Rattle.run.specs.Limits.{trace_room}
use Rattle.run.specs.Trace.{trace_bytes, numbers_in, run_of}
use Rattle.report.specs.Framing.{between, Framing}
use Rattle.report.specs.Lines.{refused_line, answer_lines}

-- The room that the program has for work and list: 16 rows of 512 bytes, and 2 bytes for each of 4,096 positions. It is always enough (proofs/Enough.antt).
abbrev pub work_room : ℕ
work_room = 8192

abbrev pub list_room : ℕ
list_room = 8192

-- An accepted input's text: position count and loop start, the verdict at moment 0, and the findings, by the meaning on the endless run.
pub record Answered (t : Trace) (f : Requirement) (n start : ℕ) (text : List ℕ) : Type 0 where
  pub holds : Bool
  pub verdict : (holds ≡ true) ↔ Holds (endless t) f 0
  pub found : List ℕ
  pub findings : Findings t f found
  pub lines : text ≡ answer_lines n start holds found

abbrev pub OfJudging : Checks → Trace → ℕ → ℕ → List ℕ → Type 0
OfJudging (stop cause place) t n start text = text ≡ refused_line (number_of cause) place
OfJudging (go f) t n start text = Answered t f n start text

abbrev pub OfRun : Ran → List ℕ → List ℕ → List ℕ → List ℕ → Type 0
OfRun (Ok closed) T I code text =
    OfJudging (checks_of Untranslated code (trace_bytes T I closed.positions) closed.start work_room list_room) (trace_of (trace_bytes T I closed.positions) closed.start) closed.positions closed.start text
OfRun (Err (Halted cause scan process)) T I code text = text ≡ refused_line (number_of cause) scan
OfRun (Err (Refused why)) T I code text = text ≡ refused_line (number_of why.cause) why.place

abbrev pub OfBlocks : List ℕ → List ℕ → List ℕ → List ℕ → Type 0
OfBlocks table inputs code text = OfRun (run_of trace_room table inputs) (numbers_in table) (numbers_in inputs) code text

-- The text is what is printed for the input s, framed so.
abbrev pub Reports : List ℕ → Framing → List ℕ → Type 0
Reports s (Ok blocks) text = OfBlocks (between blocks.table.begin blocks.table.end s) (between blocks.inputs.begin blocks.inputs.end s) (between blocks.requirement.begin blocks.requirement.end s) text
Reports s (Err why) text = text ≡ refused_line (number_of why.cause) why.place
