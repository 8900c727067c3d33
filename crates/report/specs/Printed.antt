-- All that the program can print: a refusal by one of the numbers 1 to 8, or the answer for an accepted input. A run's
-- trace is always well-formed, its own buffers are always long enough, and it asks for no name: 9, 10 and 11 are never
-- printed.
-- Assumes nothing: these are definitions.
use Rattle.run.specs.Running.{closes_at}
use Rattle.std.specs.Prelude.{ℕ, ◌≤◌, ◌≡◌, List}
use Rattle.coding.specs.Code.{code_at}
use Rattle.coding.specs.Refusal.{number_of}
use Rattle.coding.specs.declared.Cause.{Cause}
use Rattle.requirement.specs.Requirement.{Requirement}
use Rattle.requirement.specs.Reading.{whole, parsed}
use Rattle.requirement.specs.declared.Kind.TheVariants.{Untranslated}
use Rattle.lasso.specs.Bytes.{trace_of}
use Rattle.run.specs.Limits.{trace_room}
use Rattle.run.specs.Trace.{trace_bytes, numbers_in, run_of}
use Rattle.report.specs.Framing.{framing_of}
use Rattle.report.specs.Lines.{refused_line}
use Rattle.report.specs.Reporting.{Answered}
use Rattle.report.specs.MadeUp.{Names}

-- An input is accepted if it is three blocks, the table runs over the inputs and closes, and the third is a
-- requirement.
pub record AcceptedInput (s : List ℕ) : Type 0 where
  pub table : List ℕ
  pub inputs : List ℕ
  pub code : List ℕ
  pub blocks : Names s (framing_of s) table inputs code
  pub positions : ℕ
  pub start : ℕ
  pub closes : run_of trace_room table inputs ≡ closes_at positions start
  pub requirement : Requirement
  pub reads : parsed Untranslated (code_at code 0) ≡ whole requirement

-- The text is the answer for it: the lines of the verdict and the findings on its run's trace.
abbrev pub AnswerFor : {s : List ℕ} → AcceptedInput s → List ℕ → Type 0
AnswerFor x text =
    let trace = trace_bytes (numbers_in x.table) (numbers_in x.inputs) x.positions in
    Answered (trace_of trace x.start) x.requirement x.positions x.start text

pub data Printed (s text : List ℕ) : Type 0 where
  refused : (cause : Cause) (place : ℕ) → 1 ≤ number_of cause → number_of cause ≤ 8 →
      text ≡ refused_line (number_of cause) place → Printed s text
  answered : (x : AcceptedInput s) → AnswerFor x text → Printed s text
