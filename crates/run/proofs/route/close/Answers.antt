use Rattle.run.proofs.Closing.{alike, differs}
use Rattle.run.proofs.route.close.Goals as goal

pub returns-then-same_as : goal.returns-then-same_as
returns-then-same_as c =
    let a = c.args in alike a.q a.back a.last _ c.same_as.ensures c.if-same_as.true

pub returns-else-same_as : goal.returns-else-same_as
returns-else-same_as c =
    let a = c.args in differs a.q a.back a.last _ c.same_as.ensures c.if-same_as.false
