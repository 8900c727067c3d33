use mathlib.Core.Path.{refl, ap, ◌∙◌}
use mathlib.Core.Bool.{not}
use Rattle.judge.proofs.Composing.{until_of_lem}
use Rattle.judge.proofs.operators.MarkedTrace.always.Goals as goal

pub returns : goal.returns
returns c = λ p h. c.negate-2.ensures.0 p h ∙ ap not (until_of_lem c.args.self.now.trace.now c.args.self.now.inside c.ever.ensures (λ q l. refl) c.negate.ensures.0 p h)
