-- The equation in full: at it the check shows what is false in the edit *set_passes*.
use mathlib.Core.Path.{refl}
use Rattle.controller.proofs.rules.Parts.enters.Goals as goal

pub returns : goal.returns
returns c = rw (c.done.ensures, c.with_own.ensures, c.entering.ensures) refl
