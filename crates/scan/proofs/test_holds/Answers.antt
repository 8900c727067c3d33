use mathlib.Core.Path.{refl}
use borrow.Author.Tests.{eq-eqb}
use lib.ListN.{get_or-map}
use Rattle.controller.specs.State.{stopped, entering, state_at, states_of, record_at}
use Rattle.controller.specs.Tests.{truth}
use Rattle.controller.specs.declared.Process.{Process}
use Rattle.scan.proofs.test_holds.Goals as goal

pub returns-then-test-eq2 : goal.returns-then-test-eq2
unfolding truth state_at states_of record_at entering
returns-then-test-eq2 c =
    rw (
      c.holds.ensures,
      eq-eqb _ _ c.if-test-eq2.true,
      c.process-state.ensures,
      get_or-map (λ (p : Process). p.state) c.args.c.processes _ stopped,
    ) refl
