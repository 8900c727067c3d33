use Prim.Native.Nat.{ℕ, ◌<◌}
use lib.ListN.{get_or}
use Rattle.run.specs.Working.Atoms.{LaysOut, missing}
use Rattle.run.proofs.atoms.lay_out.Given as goal

abbrev pub invariant-loop-k : goal.invariant-loop-k
invariant-loop-k l = (j : ℕ) → j < l.k → LaysOut l.table j (get_or l.test-items j missing)
