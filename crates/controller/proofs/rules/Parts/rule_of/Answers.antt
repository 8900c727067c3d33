-- The equation in full: at it the check shows what is false in the edit *started_with_timer*.
use mathlib.Core.Path.{refl}
use Rattle.controller.specs.State.{entering, timed}
use Rattle.controller.proofs.rules.Parts.rule_of.Goals as goal

pub returns-in-StartP : goal.returns-in-StartP
unfolding entering timed
returns-in-StartP c =
    rw (c.in-StartP.is, c.done-in-StartP.ensures, c.with_other.ensures, c.entering.ensures, c.with_own-gone.ensures, c.goes.ensures) refl
