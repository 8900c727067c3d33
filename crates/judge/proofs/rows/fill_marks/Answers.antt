use Rattle.judge.proofs.Marking.{marked}
use Rattle.judge.proofs.rows.fill_marks.Goals as goal

pub returns : goal.returns
returns c =
    let a = c.fill_digit in
    let b = c.fill_digit-2 in
    let f = c.fill_neither in
    marked c.args.marks.now a.new.work b.new.work c.requires.2 a.auto.work b.auto.work
    c.args.trace.now f.new.marks c.requires.0 c.requires.1 a.ensures b.ensures f.auto.marks f.ensures.0 f.ensures.1
