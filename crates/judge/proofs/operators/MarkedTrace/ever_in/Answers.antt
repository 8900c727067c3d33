use mathlib.Core.Path.{refl, ◌∙◌}
use Rattle.judge.proofs.Composing.{until_of_lem, kept}
use Rattle.judge.proofs.operators.MarkedTrace.ever_in.Goals as goal

pub returns-in-Each : goal.returns-in-Each
returns-in-Each c =
    let s = c.args.self.now in
    rw (c.in-Each.is, ← c.phase_of.ensures)
    (until_of_lem s.trace.now s.inside c.ever-in-Each.ensures (λ q l. refl)
    (λ q l. c.keep.ensures.0 q l ∙ kept s.trace.now c.phase_of.result c.args.work.now q))
