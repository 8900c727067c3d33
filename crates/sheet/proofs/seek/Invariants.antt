use mathlib.Core.Path.{◌≡◌}
use Prim.Native.Nat.{◌-◌}
use Rattle.sheet.specs.Sheet.{seek_from}
use Rattle.sheet.proofs.seek.Given as goal

abbrev pub invariant-loop : goal.invariant-loop
invariant-loop l = seek_from l.sheet l.name (l.count - l.counter) l.here ≡ seek_from l.sheet l.name l.count l.at
