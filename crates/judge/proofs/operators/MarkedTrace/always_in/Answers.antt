use mathlib.Core.Path.{refl, ap, ◌∙◌}
use mathlib.Core.Bool.{not}
use Rattle.judge.proofs.Composing.{until_of_lem}
use Rattle.judge.proofs.operators.MarkedTrace.always_in.Goals as goal

pub returns-in-Within : goal.returns-in-Within
returns-in-Within c =
    rw c.in-Within.is
    (until_of_lem c.args.self.now.trace.now c.args.self.now.inside c.until.ensures (λ q l. c.fill_second.ensures.0 q l ∙ c.keep.ensures.0 q l) c.fill_second.ensures.1)

pub returns-in-Each : goal.returns-in-Each
returns-in-Each c =
    rw (c.in-Each.is, ← c.phase_of.ensures)
    (λ p h. c.always-in-Each.ensures p h
    ∙ ap not (until_of_lem c.args.self.now.trace.now c.args.self.now.inside (λ q l. refl) (λ q l. refl) (λ q l. ap not (c.imply.ensures.0 q l)) p h))
