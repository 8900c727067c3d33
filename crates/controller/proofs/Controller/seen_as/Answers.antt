use mathlib.Core.Path.{refl}
use Rattle.controller.specs.Seen.{same_seen}
use Rattle.controller.proofs.Equal.{eq_is_same_values}
use Rattle.controller.proofs.Controller.seen_as.Goals as goal

pub returns-then-all_same : goal.returns-then-all_same
unfolding same_seen
returns-then-all_same c =
    rw (
      ← eq_is_same_values c.args.self.variables c.args.other.variables,
      ← c.all_same.ensures,
      c.if-all_same.true,
      c.all_same-then-all_same.ensures,
      c.states.ensures,
      c.states-then-all_same.ensures,
    )
    (eq_is_same_values _ _)

pub returns-else-all_same : goal.returns-else-all_same
unfolding same_seen
returns-else-all_same c =
    rw (← eq_is_same_values c.args.self.variables c.args.other.variables, ← c.all_same.ensures, c.if-all_same.false) refl
