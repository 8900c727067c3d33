use Rattle.report.proofs.Putting.{positions_puts}
use Rattle.report.proofs.lines.Lines.positions.Goals as goal

pub returns-clause-puts : goal.returns-clause-puts
returns-clause-puts c =
    positions_puts _ _ _ _ _ _ _ _ c.word.ensures c.number.ensures.puts c.word-2.ensures c.number-2.ensures.puts
    c.word-3.ensures
