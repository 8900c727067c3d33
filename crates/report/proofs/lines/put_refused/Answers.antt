use Rattle.std.proofs.Common.{arith, rules}
use Rattle.report.proofs.Putting.{refused_puts}
use Rattle.report.proofs.lines.put_refused.Goals as goal

pub returns : goal.returns
returns c =
    let all =
    refused_puts _ _ _ _ _ _ _ c.word.ensures c.number.ensures.puts c.word-2.ensures c.at_line.ensures.puts in
    rw (← c.number_of.ensures, ← c.from.ensures) ((all.place, search rules), omega arith)
