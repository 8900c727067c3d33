-- When two states are the same to tests, which see the values and the functional states alone. No promise of a run leans on it: a run spares evaluations by it.
-- Assumes nothing: these are definitions. That the two then have equal values and functional states is a theorem (proofs/Equal.antt).
use Rattle.std.specs.Prelude.{Bool, ◌&&◌}
use Rattle.controller.specs.State.{states_of}
use Rattle.controller.specs.Same.{same_values}
use Rattle.controller.specs.declared.Controller.{Controller}

unfoldable pub same_seen : Controller → Controller → Bool
same_seen c d = same_values c.variables d.variables && same_values (states_of c.processes) (states_of d.processes)
