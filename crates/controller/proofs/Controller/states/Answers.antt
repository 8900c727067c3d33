use mathlib.Core.Path.{◌≡◌}
use lib.ListN.{length}
use Rattle.controller.specs.State.{states_of}
use Rattle.controller.proofs.Arrays.{mapped}
use Rattle.controller.proofs.Mapped.{made_by_map}
use Rattle.std.proofs.Common.{rules, of_calls}
use Rattle.controller.proofs.Controller.states.Goals as goal

pub returns : goal.returns
unfolding states_of
returns c =
    let n : length c.args.self.processes ≡ 8 = search (rules, mapped) in
    made_by_map (λ p. p.state) (λ p q x y w. search (rules, of_calls)) n c.map.ensures.items
