-- The equation in full: at it the check shows what is false in the edit *unset_added*.
use mathlib.Core.Path.{refl}
use borrow.Author.Tests.{eq-eqb}
use Rattle.controller.proofs.rules.Parts.new_value.Goals as goal

pub returns-then-old-eq-NONE : goal.returns-then-old-eq-NONE
returns-then-old-eq-NONE c = rw (c.in-Add.is, ← c.value_at-old.ensures, eq-eqb _ _ c.if-old-eq-NONE.true) refl
