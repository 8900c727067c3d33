use mathlib.Core.Path.{◌≡◌, refl}
use lib.ListN.{length}
use Rattle.controller.specs.State.{raised, all_raised}
use Rattle.controller.proofs.Arrays.{mapped}
use Rattle.controller.proofs.Mapped.{made_by_map}
use Rattle.std.proofs.Common.{rules}
use Rattle.controller.proofs.Controller.raise_timers.Goals as goal

pub returns : goal.returns
unfolding all_raised
returns c =
    let n : length c.args.self.processes ≡ 8 = search (rules, mapped) in
    rw (made_by_map raised (λ p q x y w. w.met) n c.map-processes.ensures.items) refl
