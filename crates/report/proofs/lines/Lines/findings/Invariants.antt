use Rattle.std.proofs.Common.{◌+◌, ◌*◌, ◌≤◌}
use Rattle.report.specs.Lines.{at_lines}
use Rattle.report.specs.Placing.{Puts, pairs_from}
use Rattle.report.proofs.lines.Lines.findings.Given as goal

abbrev pub invariant-loop-i : goal.invariant-loop-i
invariant-loop-i l =
    Puts (at_lines (pairs_from l.i 0 l.list)) l.initial.self l.self × (l.self.at ≤ l.initial.self.at + 24 * l.i)
