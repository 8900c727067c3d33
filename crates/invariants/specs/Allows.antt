-- A state that the table allows: each process is in stop, in err, or in a state and at an action that the table has for
-- it, the end of the body being 0.
-- Assumes nothing: these are definitions. That every state of a run is such a state is a theorem (proofs/Reached.antt).
use Rattle.std.specs.Prelude.{ℕ, ◌≤◌, ◌≡◌, length}
use Rattle.ranges.specs.Limits.{err_state}
use Rattle.lookups.specs.Structure.{Table}
use Rattle.structure.specs.Allowed.{OneOf}
use Rattle.controller.specs.State.{stop, record_at}
use Rattle.controller.specs.declared.Process.{Process}
use Rattle.controller.specs.declared.Controller.{Controller}
use Rattle.invariants.specs.TableRows.{states_for, actions_for}

pub data RecordAllowed (t : Table) (p : ℕ) (r : Process) : Type 0 where
  stopped : r.state ≡ stop → RecordAllowed t p r
  failed : r.state ≡ err_state → RecordAllowed t p r
  active : OneOf r.state (length (states_for t p)) → r.action ≤ length (actions_for t p r.state) →
      RecordAllowed t p r

-- There is room for the table's processes, and each of their records is allowed. Nothing is asked of values, timers and
-- counter.
pub record StateAllowed (t : Table) (c : Controller) : Type 0 where
  pub room : length t.processes ≤ length c.processes
  pub records : (p : ℕ) → OneOf p (length t.processes) → RecordAllowed t p (record_at c.processes p)
