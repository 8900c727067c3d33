use Rattle.std.proofs.Common.{arith, rules}
use Rattle.report.proofs.Putting.{four_puts}
use Rattle.report.proofs.lines.put_answer.Goals as goal

pub returns : goal.returns
returns c =
    let all =
    four_puts _ _ _ _ _ _ _ _ _ c.positions.ensures.puts c.verdict.ensures.puts c.count.ensures.puts
    c.findings.ensures.puts in
    ((all.place, search rules), omega arith)
