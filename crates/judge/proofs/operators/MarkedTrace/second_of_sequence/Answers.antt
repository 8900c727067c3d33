use mathlib.Core.Path.{refl, ap, ◌∙◌}
use mathlib.Core.Bool.{Bool, ◌&&◌}
use Rattle.judge.specs.Working.{is_at}
use Rattle.judge.proofs.Composing.{after_below, until_of_lem}
use Rattle.judge.proofs.operators.MarkedTrace.second_of_sequence.Goals as goal

pub returns : goal.returns
returns c =
    let s = c.args.self.now in
    until_of_lem s.trace.now s.inside c.reach-2.ensures (λ q l. refl)
    (λ q l. ap (λ (b : Bool). is_at s.trace.now c.args.first q && b)
    (c.next.ensures q l ∙ c.reach.ensures _ (after_below s.trace.now s.inside q l)))
