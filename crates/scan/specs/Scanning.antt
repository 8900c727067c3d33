-- The two ends of a scan. Document 01, Actions: "Read: inputs taken, running timers up by 1", and "the write (each output takes its source) sets it to 0".
-- Paper 000: the read leads from pc = 0 to pc = 1, the write from pc = n + 1 to pc = 0.
-- Assumes nothing: these are definitions.
use Rattle.std.specs.Prelude.{ℕ, zero, suc, ◌+◌, List, set}
use Rattle.lookups.specs.Places.{inputs_of, internals_of, outputs_of, source_of, reading_of}
use Rattle.controller.specs.State.{value_at, all_raised}
use Rattle.controller.specs.declared.Controller.{Controller}

-- n input variables from variable k on take what is recorded for them.
unfoldable pub taken : List ℕ → ℕ → ℕ → ℕ → ℕ → List ℕ → List ℕ
taken I inputs done zero k v = v
taken I inputs done (suc n) k v = taken I inputs done n (k + 1) (set v k (reading_of I inputs done k))

-- The read when so many scans are done.
unfoldable pub read_of : List ℕ → List ℕ → ℕ → Controller → Controller
read_of T I done c =
    record { variables = taken I (inputs_of T) done (inputs_of T) 0 c.variables; processes = all_raised c.processes; counter = 1 }

-- n outputs from output k on take their sources. Variables are "numbered from 0 in that order": inputs, internals, outputs.
unfoldable pub written : List ℕ → ℕ → ℕ → List ℕ → List ℕ
written T zero k v = v
written T (suc n) k v = written T n (k + 1) (set v (inputs_of T + internals_of T + k) (value_at v (source_of T k)))

unfoldable pub write_of : List ℕ → Controller → Controller
write_of T c = record { variables = written T (outputs_of T) 0 c.variables; processes = c.processes; counter = 0 }
