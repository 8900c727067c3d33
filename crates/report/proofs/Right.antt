-- From bytes to the text that is printed: where table, inputs and requirement are accepted, the program prints what the
-- published rules and the published meaning give on the endless run.
-- Assumes nothing.
use mathlib.Core.List.{List}
use Prim.Native.Nat.{ℕ}
use Rattle.run.specs.Limits.{trace_room}
use Rattle.endless.proofs.ByTheRules.{by_the_rules}
use Rattle.report.specs.Framing.{framing_of}
use Rattle.report.specs.Reporting.{Reports}
use Rattle.report.specs.Printed.{AcceptedInput}
use Rattle.report.specs.Right.{RightText}
use Rattle.report.proofs.Printed.{accepted_answered}

pub text_right : (s text : List ℕ) (x : AcceptedInput s) → Reports s (framing_of s) text →
    RightText x.table x.inputs x.requirement x.positions x.start text
text_right s text x r =
    let a = accepted_answered s text x r in
    record {
      holds = a.holds;
      found = a.found;
      right = by_the_rules trace_room x.positions x.start x.table x.inputs x.closes x.requirement
          a.holds a.found a.verdict a.findings;
      lines = a.lines;
    }
