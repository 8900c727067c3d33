-- Document 01, Coding and Actions: which value each number of a table may have, once those before it are known.
-- Assumes nothing: these are definitions.
use Rattle.std.specs.Prelude.{ℕ, ◌+◌, Bool, true, false, ltb, leb, eqb}
use Rattle.ranges.specs.Limits.{most_variables, longest_bound}
use Rattle.ranges.specs.declared.Shape.{Shape}
use Rattle.ranges.specs.declared.Spot.{Spot}

abbrev pub pick {ℓ} : {A : Type ℓ} → Bool → A → A → A
pick true a b = a
pick false a b = b

-- lo to hi
unfoldable pub within : ℕ → ℕ → ℕ → Bool
within lo v hi = pick (ltb v lo) false (pick (ltb hi v) false true)

-- "total 0 to 32": a further count c, where a and b are counted
unfoldable pub total_ok : ℕ → ℕ → ℕ → Bool
total_ok a b c = leb (a + b + c) most_variables

-- Variables are "numbered from 0 in that order": inputs, internals, outputs.
unfoldable pub is_internal : Shape → ℕ → Bool
is_internal sh v = pick (ltb v sh.inputs) false (ltb v (sh.inputs + sh.internals))

unfoldable pub is_variable : Shape → ℕ → Bool
is_variable sh v = ltb v (sh.inputs + sh.internals + sh.outputs)

-- A test's a. "0 variable a equals the number b; 1 variable a exceeds the number b"; kind 2's a and b are looked at after the whole table.
unfoldable pub test_a_ok : Shape → ℕ → ℕ → Bool
test_a_ok sh kind v = pick (eqb kind 2) true (is_variable sh v)

-- An op is 1 to 12; "10 next (not in the last state)".
unfoldable pub op_ok : Spot → ℕ → Bool
op_ok spot v = pick (eqb v 10) (ltb spot.state spot.states) (within 1 v 12)

-- x. Updates, ops 1 to 3: "x is internal". "4 tout (x is the bound, 1 to 4,095)". "6 startP and 7 stopP (x another process)".
-- "9 set (x an active state)". "Unused fields are 0."
unfoldable pub x_ok : Shape → Spot → ℕ → ℕ → Bool
x_ok sh spot op v =
    pick (within 1 op 3) (is_internal sh v)
    (pick (eqb op 4) (within 1 v longest_bound)
    (pick (within 6 op 7) (pick (eqb v spot.process) false (within 1 v sh.processes))
    (pick (eqb op 9) (within 1 v spot.states) (eqb v 0))))

-- y. "op 1, x takes the number y; 2, x takes variable y; 3, x takes its own value plus y".
unfoldable pub y_ok : Shape → ℕ → ℕ → Bool
y_ok sh op v =
    pick (eqb op 2) (is_variable sh v)
    (pick (within 1 op 3) true (eqb v 0))

-- "Ops 1 to 4, 6 and 7 use guard and nexts"
unfoldable pub uses_nexts : ℕ → Bool
uses_nexts op = pick (within 1 op 4) true (within 6 op 7)

-- "Guard 0 is always true, guard k+1 is test k"
unfoldable pub guard_ok : Shape → ℕ → ℕ → Bool
guard_ok sh op v = pick (uses_nexts op) (leb v sh.tests) (eqb v 0)

-- "under guard 0, next-else is 0"
unfoldable pub uses_else : ℕ → ℕ → Bool
uses_else op guard = pick (eqb guard 0) false (uses_nexts op)

-- A next that is used is an action of the body, or 0, "the end of the body".
unfoldable pub next_ok : Spot → Bool → ℕ → Bool
next_ok spot used v = pick used (leb v spot.actions) (eqb v 0)
