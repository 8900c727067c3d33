use mathlib.Core.Path.{◌∙◌}
use Rattle.judge.proofs.Composing.{until_of_lem, kept}
use Rattle.judge.proofs.operators.MarkedTrace.before.Goals as goal

pub returns : goal.returns
returns c =
    let a = c.args in
    let s = a.self.now in
    until_of_lem s.trace.now s.inside c.until.ensures c.lack.ensures.0
    (λ q l. rw c.lack.ensures.1 (c.repeat.ensures q l ∙ c.keep.ensures.0 q l ∙ kept s.trace.now a.phase a.work.now q))
