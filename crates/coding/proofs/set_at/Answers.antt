-- The equation in full: at it the check shows what is false in the edit *put_first*.
use mathlib.Core.Path.{refl}
use Rattle.coding.proofs.set_at.Goals as goal

pub returns-then-at-list : goal.returns-then-at-list
returns-then-at-list g c = refl
