-- The places of a table's states as the run keeps them: no part of a promise, only of what its own functions ask of one another.
-- Assumes nothing: these are definitions.
use Rattle.std.specs.Prelude.{ℕ, ◌+◌, ◌/◌, ◌%◌, ◌<◌, ◌≡◌, List, get_or}
use Rattle.lookups.specs.Places.{state_place}

-- They stand one after another: eight states for each process.
abbrev pub Indexed : List ℕ → List ℕ → Type 0
Indexed T places = (i : ℕ) → i < 64 → get_or places i 0 ≡ state_place T (i / 8 + 1) (i % 8 + 1)
