-- Tests. Document 01, Coding: "Test kinds: 0 variable a equals the number b; 1 variable a exceeds the number b; 2 process a (from 1) is in state b".
-- A test is given what it needs of the state: the value of variable a, and the functional state of process a.
-- Assumes nothing: these are definitions.
use Rattle.std.specs.Prelude.{ℕ, Bool, false, ltb, eqb}
use Rattle.ranges.specs.Values.{pick}
use Rattle.controller.specs.State.{none}

-- "0 variable a equals the number b; 1 variable a exceeds the number b"; "A test of an unset variable is false".
unfoldable pub compares : Bool → ℕ → ℕ → Bool
compares equal b value = pick (eqb value none) false (pick equal (eqb value b) (ltb b value))

-- "2 process a (from 1) is in state b". A kind above 2, which no table that is read has, is taken for 1.
unfoldable pub truth : ℕ → ℕ → ℕ → ℕ → Bool
truth kind b value state = pick (eqb kind 2) (eqb state b) (compares (eqb kind 0) b value)
