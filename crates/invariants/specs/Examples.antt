-- Small runs, one for each of the refusals 5, 6 and 8. (7 asks for a long one: the stored cases have it.)
-- Assumes nothing: these are definitions.
use Rattle.std.specs.Prelude.{ℕ, List, [], ◌∷◌}

-- A table without inputs, outputs and tests, of one process with one state, which has one action: op, x, y.
abbrev pub one_action : ℕ → ℕ → ℕ → ℕ → List ℕ
one_action internals op x y = 0 ∷ internals ∷ 0 ∷ 0 ∷ 1 ∷ 1 ∷ 1 ∷ op ∷ x ∷ y ∷ 0 ∷ 0 ∷ 0 ∷ []

-- "reset with no timer": 5. "8 start", of itself for ever: 6. A variable that takes a number, so that it is no longer
-- unset after the scan: 8.
abbrev pub reset_table : List ℕ
reset_table = one_action 0 5 0 0

abbrev pub restart_table : List ℕ
restart_table = one_action 0 8 0 0

abbrev pub constant_table : List ℕ
constant_table = one_action 1 1 0 7

-- One scan, which returns to the start.
abbrev pub one_scan_inputs : List ℕ
one_scan_inputs = 1 ∷ 0 ∷ []
