use Rattle.report.proofs.Putting.{count_puts}
use Rattle.report.proofs.lines.Lines.count.Goals as goal

pub returns-clause-puts : goal.returns-clause-puts
returns-clause-puts c = count_puts _ _ _ _ _ c.word.ensures c.number.ensures.puts c.word-2.ensures
