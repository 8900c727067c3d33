use mathlib.Core.Path.{◌≡◌, refl, ◌∙◌}
use Rattle.std.specs.Option.{MatchOption}
use Rattle.ranges.specs.Order.{at_sources, after_source, at_tests, after_test}
use Rattle.ranges.specs.declared.Step.TheVariants.{More, NotAllowed}
use Rattle.ranges.proofs.Steps.{goes_on, none_after}
use Rattle.ranges.proofs.advance.Goals as goal
use Rattle.ranges.proofs.advance.Goals.{in-Inputs, in-Internals, in-Outputs, in-Source, in-Tests, in-Kind, in-TestA, in-TestB, in-Processes, in-States, in-Actions, in-Op, in-X, in-Y, in-Guard, in-NextIf, in-Scans}

pub returns : goal.returns
unfolding at_sources after_source at_tests after_test
returns c =
    let h : MatchOption c.match-want.next (c.map_or.result ≡ NotAllowed) (λ w. c.map_or.result ≡ More w) =
    c.map_or.ensures in
    elim c.match-want.branch [
      | in-Inputs w ↦ rw w.in-Inputs.is
          (goes_on h (w.next-is ∙ w.then_some-next.ensures)
          w.total_ok.ensures refl)
      | in-Internals w ↦ rw w.in-Internals.is
          (goes_on h (w.next-is ∙ w.then_some-next-in-Internals.ensures)
          w.total_ok-in-Internals.ensures refl)
      | in-Outputs w ↦ rw w.in-Outputs.is
          (goes_on h (w.next-is ∙ w.then_some-next-in-Outputs.ensures)
          w.total_ok-in-Outputs.ensures (rw w.of_variables-shape.ensures at w.sources_left.ensures))
      | in-Source w ↦ rw w.in-Source.is
          (goes_on h (w.next-is ∙ w.then_some-next-in-Source.ensures)
          w.is_internal.ensures
          (rw (← none_after w.in-Source.left, ← w.saturating_sub.ensures) w.sources_left-in-Source.ensures))
      | in-Tests w ↦ rw w.in-Tests.is
          (goes_on h (w.next-is ∙ w.then_some-next-in-Tests.ensures)
          w.between.ensures (rw w.with_tests.ensures at w.tests_left.ensures))
      | in-Kind w ↦ rw w.in-Kind.is
          (goes_on h (w.next-is ∙ w.then_some-next-in-Kind.ensures)
          w.between-in-Kind.ensures refl)
      | in-TestA w ↦ rw w.in-TestA.is
          (goes_on h (w.next-is ∙ w.then_some-next-in-TestA.ensures)
          w.test_a_ok.ensures refl)
      | in-TestB w ↦
          rw (w.in-TestB.is, ← none_after w.in-TestB.left, ← w.saturating_sub-in-TestB.ensures, ← w.tests_left-in-TestB.ensures)
          (rw w.next-is at h)
      | in-Processes w ↦ rw w.in-Processes.is
          (goes_on h (w.next-is ∙ w.then_some-next-in-Processes.ensures)
          w.between-in-Processes.ensures (rw w.with_processes.ensures))
      | in-States w ↦ rw w.in-States.is
          (goes_on h (w.next-is ∙ w.then_some-next-in-States.ensures)
          w.between-in-States.ensures refl)
      | in-Actions w ↦ rw w.in-Actions.is
          (goes_on h (w.next-is ∙ w.then_some-next-in-Actions.ensures)
          w.between-in-Actions.ensures refl)
      | in-Op w ↦ rw w.in-Op.is
          (goes_on h (w.next-is ∙ w.then_some-next-in-Op.ensures)
          w.op_ok.ensures refl)
      | in-X w ↦ rw w.in-X.is
          (goes_on h (w.next-is ∙ w.then_some-next-in-X.ensures)
          w.x_ok.ensures refl)
      | in-Y w ↦ rw w.in-Y.is
          (goes_on h (w.next-is ∙ w.then_some-next-in-Y.ensures)
          w.y_ok.ensures refl)
      | in-Guard w ↦ rw w.in-Guard.is
          (goes_on h (w.next-is ∙ w.then_some-next-in-Guard.ensures)
          w.guard_ok.ensures refl)
      | in-NextIf w ↦ rw w.in-NextIf.is
          (goes_on h (w.next-is ∙ w.then_some-next-in-NextIf.ensures)
          (rw (← w.uses_nexts.ensures) w.next_ok.ensures) refl)
      | in-Scans w ↦ rw w.in-Scans.is
          (goes_on h (w.next-is ∙ w.then_some-next-in-Scans.ensures)
          w.between-in-Scans.ensures refl)
    ]
