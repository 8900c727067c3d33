use Rattle.report.proofs.Putting.{at_puts}
use Rattle.report.proofs.lines.Lines.at_line.Goals as goal

pub returns-clause-puts : goal.returns-clause-puts
returns-clause-puts c = at_puts _ _ _ _ _ c.word.ensures c.number.ensures.puts c.word-2.ensures
