use Prim.Native.Nat.{◌+◌, ◌-◌, ◌≤◌}
use mathlib.Core.Path.{◌≡◌}
use Rattle.scan.specs.Position.{packed}
use Rattle.run.specs.Working.Atoms.{laid_atom}
use Rattle.run.proofs.atoms.atom_byte.Given as goal

abbrev pub invariant-loop-k : goal.invariant-loop-k
invariant-loop-k l = (l.byte ≡ packed (l.from + 8 - l.k) (laid_atom l.laid l.seen) l.k) × (l.from ≤ l.k)
