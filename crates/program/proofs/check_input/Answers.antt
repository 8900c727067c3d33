use Rattle.std.proofs.Common.{rules}
use Rattle.program.proofs.Fronts.{on_input, text_there}
use Rattle.program.proofs.check_input.Goals as goal

pub write_text-written-requires : goal.write_text-written-requires
write_text-written-requires g c =
    text_there _ c.report-length.result _ _ (search rules) (on_input _ _ _ _ c.report-length.ensures)

pub returns-clause-checks : goal.returns-clause-checks
returns-clause-checks g c = record {
  most = search rules;
  prints = on_input _ _ _ _ c.report-length.ensures;
}

-- Said here so that a program that tells another count is refused at once.
pub returns-clause-reads : goal.returns-clause-reads
returns-clause-reads g c = c.read_full-read.ensures.reads
