use native.Mathlib.Omega.{arith}
use mathlib.Core.Path.{refl}
use Rattle.judge.proofs.Failing.{cut_before, cut_behind}
use Rattle.judge.proofs.findings.clear_behind.Goals as goal

pub returns : goal.returns
returns c =
    let a = c.args in
    rw c.low-behind.ensures (
      cut_before a.n _ _ a.work.now (omega arith) (omega arith) refl refl,
      cut_behind a.n _ _ a.work.now (omega arith) (omega arith) refl refl,
    )
