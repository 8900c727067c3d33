use Rattle.std.proofs.Common.{◌∙◌}
use Rattle.report.proofs.Putting.{decimal_printed, puts_same}
use Rattle.report.proofs.lines.Lines.number.Goals as goal

pub returns-clause-puts : goal.returns-clause-puts
returns-clause-puts c =
    puts_same _ _ _ _ (c.as_bytes.ensures.value ∙ c.format.ensures.text ∙ decimal_printed c.args.n c.ranges.n.fits)
    c.word.ensures
