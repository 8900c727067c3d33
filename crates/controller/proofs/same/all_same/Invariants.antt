use mathlib.Core.Path.{◌≡◌}
use mathlib.Core.Bool.{◌&&◌}
use lib.ListN.{length}
use lib.Pointwise.{pointwise}
use Rattle.std.specs.Iterator.Adapters.{zip_first, zip_second}
use Rattle.std.specs.Slice.Iter.{iter_rest}
use Rattle.controller.proofs.same.all_same.Given as goal

abbrev pub invariant-loop-x : goal.invariant-loop-x
invariant-loop-x g l =
    let left = iter_rest (zip_first l.x-iterator) in
    let right = iter_rest (zip_second l.x-iterator) in
    ((l.same && pointwise g.T.PartialEq.eq left right) ≡ pointwise g.T.PartialEq.eq l.v l.w) × (length left ≡ length right)
