use mathlib.Core.Path.{◌≡◌}
use lib.ListN.{length}
use Rattle.coding.specs.Room.{over}
use Rattle.coding.specs.Code.{code_at, values}
use Rattle.coding.proofs.store_numbers.Given as goal

abbrev pub invariant-loop-element : goal.invariant-loop-element
invariant-loop-element l =
    (over l.out l.element-index (values (code_at l.code l.at)) ≡ over l.initial.out 0 (values (code_at l.code 0))) × (length l.out ≡ length l.initial.out)
