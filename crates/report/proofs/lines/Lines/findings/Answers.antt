use Rattle.std.proofs.Common.{arith}
use Rattle.report.proofs.Putting.{puts_none, puts_both}
use Rattle.report.proofs.Listing.{lines_none, lines_more}
use Rattle.report.proofs.lines.Lines.findings.Goals as goal

pub loop-i-init : goal.loop-i-init
loop-i-init c = (rw lines_none (puts_none _), omega arith)

pub loop-i-preserved : goal.loop-i-preserved
loop-i-preserved c =
    let line = rw (c.byte_at-low.ensures.0, c.byte_at-high.ensures.0) at c.at_line.ensures.puts in (
      rw (lines_more c.loop-i.i c.args.list.now) (puts_both _ _ _ _ _ c.loop-i.invariant.0 line),
      omega (arith, c.loop-i.invariant.1, c.at_line.ensures.short),
    )
