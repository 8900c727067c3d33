-- A state in the trace. Document 01, Phases and the lasso: "In the trace each has 5 bytes: phase, then 32 atoms, atom 0 the lowest bit, low byte first".
-- Assumes nothing: these are definitions.
use Rattle.std.specs.Prelude.{ℕ, zero, suc, ◌+◌, ◌*◌, Bool, List, [], ◌∷◌}
use Rattle.requirement.specs.declared.Phase.{Phase}
use Rattle.bits.specs.Bits.{digit}
use Rattle.lasso.specs.Bytes.{phase_number}
use Rattle.controller.specs.State.{states_of}
use Rattle.controller.specs.declared.Controller.{Controller}
use Rattle.scan.specs.Guards.{atom_of}

-- n truths from the i-th on as one number, the first the lowest digit.
unfoldable pub packed : ℕ → (ℕ → Bool) → ℕ → ℕ
packed zero f i = 0
packed (suc n) f i = digit (f i) + 2 * packed n f (i + 1)

-- The byte of the eight atoms from atom i on.
unfoldable pub atom_byte : List ℕ → List ℕ → List ℕ → ℕ → ℕ
atom_byte T v f i = packed 8 (atom_of T v f) i

unfoldable pub atom_bytes : List ℕ → List ℕ → List ℕ → List ℕ
atom_bytes T v f = atom_byte T v f 0 ∷ atom_byte T v f 8 ∷ atom_byte T v f 16 ∷ atom_byte T v f 24 ∷ []

unfoldable pub state_bytes : List ℕ → Phase → Controller → List ℕ
state_bytes T phase c = phase_number phase ∷ atom_bytes T c.variables (states_of c.processes)
