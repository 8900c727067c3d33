use Rattle.run.proofs.Closing.{small, left_over}
use Rattle.run.proofs.run_numbers.Goals as goal

pub clear_rest-requires : goal.clear_rest-requires
clear_rest-requires c =
    small c.args.table.now c.args.inputs.now c.args.trace.now c.walk-ran.new.trace
    c.walk-ran.result c.walk-ran.ensures.1

pub returns : goal.returns
returns c = (
  c.walk-ran.ensures.0,
  left_over c.args.table.now c.args.inputs.now c.args.trace.now c.walk-ran.new.trace
      c.walk-ran.result _ c.requires c.walk-ran.ensures.1 c.clear_rest.ensures,
)
