use mathlib.Core.Path.{◌∙◌}
use lib.ListN.{drop}
use Rattle.bits.specs.Rows.{row_of}
use Rattle.lasso.specs.Bytes.{positions}
use Rattle.judge.proofs.Composing.{until_of_lem, kept}
use Rattle.judge.proofs.operators.MarkedTrace.until_in.Goals as goal
use Rattle.judge.proofs.operators.MarkedTrace.until_in.Goals.{in-Plain, in-Within, in-Each}

pub returns : goal.returns
returns c =
    let s = c.args.self.now in
    let t = s.trace.now in
    elim c.match-family.branch [
      | in-Plain w ↦ rw w.in-Plain.is (rw w.work-is at c.until.ensures)
      | in-Within w ↦
          rw w.in-Within.is
          (until_of_lem t s.inside c.until.ensures
          (λ q m. rw w.work-is (w.keep_second.ensures.0 q m ∙ w.keep.ensures.0 q m))
          (λ q m. rw w.work-is (rw w.keep.ensures.1 at (w.keep_second.ensures.1 q m))))
      | in-Each w ↦
          rw (w.in-Each.is, ← w.phase_of-phase.ensures)
          (until_of_lem t s.inside c.until.ensures
          (λ q m. rw w.work-is (w.keep_second-in-Each.ensures.0 q m ∙ w.imply.ensures.0 q m))
          (λ q m. rw w.work-is
          (rw w.imply.ensures.1 at (w.keep_second-in-Each.ensures.1 q m)
          ∙ kept t w.phase_of-phase.result (drop (row_of (positions t)) c.args.work.now) q)))
    ]
