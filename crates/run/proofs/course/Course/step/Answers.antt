use mathlib.Core.Path.{◌∙◌, sym}
use Rattle.run.proofs.Steps.{skips, ends, acts}
use Rattle.run.proofs.course.Course.step.Goals as goal

pub returns-then-not-active : goal.returns-then-not-active
returns-then-not-active c =
    c.act.ensures
    ∙ sym (skips _ _ _ _ _ c.process-p.ensures c.active.ensures c.if-not-active.true)

pub returns-then-a-eq0 : goal.returns-then-a-eq0
returns-then-a-eq0 c =
    c.act-then-a-eq0.ensures
    ∙ sym
    (ends _ _ _ _ _ c.process-p.ensures c.active.ensures c.if-not-active.false
    c.if-a-eq0.true)

pub returns-else-a-eq0 : goal.returns-else-a-eq0
returns-else-a-eq0 c =
    c.act-else-a-eq0.ensures
    ∙ sym
    (acts _ _ _ _ _ c.process-p.ensures c.active.ensures c.if-not-active.false c.if-a-eq0.false _
    c.place_of-state.ensures _ c.action_from-row.ensures _ c.next_of-next.ensures _
    c.action_of.ensures)
