-- The action that the numbers op, x and y of a table code. Document 01, Actions.
-- Assumes nothing: these are definitions.
use Rattle.std.specs.Prelude.{ℕ, eqb}
use Rattle.ranges.specs.Values.{pick}
use Rattle.controller.specs.declared.Update.TheVariants.{Constant, Copy, Add}
use Rattle.controller.specs.declared.Action.{Action}
use Rattle.controller.specs.declared.Action.TheVariants.{Updates, Tout, Reset, StartP, StopP, Start, Set, Next, Stop, Err}

-- "An update is one of three kinds: op 1, x takes the number y; 2, x takes variable y; 3, x takes its own value plus y .."
-- "Op 4 tout (x is the bound ..), 5 reset, 6 startP and 7 stopP (x another process), 8 start, 9 set (x an active state), 10 next .., 11 stop, 12 err."
-- Any other number, which no table that is read has, is taken for 12.
unfoldable pub action_of : ℕ → ℕ → ℕ → Action
action_of op x y =
    pick (eqb op 1) (Updates x (Constant y))
    (pick (eqb op 2) (Updates x (Copy y))
    (pick (eqb op 3) (Updates x (Add y))
    (pick (eqb op 4) (Tout x)
    (pick (eqb op 5) Reset
    (pick (eqb op 6) (StartP x)
    (pick (eqb op 7) (StopP x)
    (pick (eqb op 8) Start
    (pick (eqb op 9) (Set x)
    (pick (eqb op 10) Next
    (pick (eqb op 11) Stop Err))))))))))
