use native.Mathlib.Omega.{arith}
use Rattle.run.proofs.LaidOut.{test_laid, missing_laid}
use Rattle.run.proofs.atoms.lay_out_test.Goals as goal

pub returns-then-k-tests : goal.returns-then-k-tests
returns-then-k-tests c =
    let h = c.laid_test.ensures in
    test_laid _ _ _ c.tests.ensures c.if-k-tests.true _ c.test.ensures (omega arith) _ h.0 h.1.0 h.1.1

pub returns-else-k-tests : goal.returns-else-k-tests
returns-else-k-tests c = missing_laid _ _ _ c.tests.ensures c.if-k-tests.false _ c.no_test.ensures
