use mathlib.Core.Path.{◌≡◌}
use Prim.Native.Nat.{◌-◌}
use Rattle.sheet.specs.Sheet.{check_from}
use Rattle.sheet.proofs.check_entries.Given as goal

abbrev pub invariant-loop : goal.invariant-loop
invariant-loop l = check_from l.sheet l.count (l.count - l.counter) l.next ≡ check_from l.sheet l.count l.count l.at
