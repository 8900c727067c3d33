use mathlib.Core.Path.{sym, ◌∙◌}
use Rattle.std.proofs.lemmas.Result.{err_from_is_err_and}
use Rattle.table.proofs.FirstLook.{skipped, stops, refuses, finishes, goes_on}
use Rattle.table.proofs.look.Goals as goal

pub returns-in_err-number : goal.returns-in_err-number
returns-in_err-number g c =
    let turns = g.met.S.Source.turns c.args.source in
    let here = skipped c.loop-number.invariant c.skip-stand.ensures in
    let p = err_from_is_err_and c.from_residual.result c.from_residual.ensures.1 in
    rw (p.1, p.2) (stops turns here _ c.in_err-number.ensures)

pub returns-in-NotAllowed : goal.returns-in-NotAllowed
returns-in-NotAllowed g c =
    let turns = g.met.S.Source.turns c.args.source in
    let here = skipped c.loop-number.invariant c.skip-stand.ensures in
    rw c.at.ensures (refuses turns here _ _ c.in_ok-number.ensures (sym c.in-NotAllowed.is ∙ c.advance.ensures))

pub returns-in_err-count-in-Last : goal.returns-in_err-count-in-Last
returns-in_err-count-in-Last g c =
    let turns = g.met.S.Source.turns c.args.source in
    let here = skipped c.loop-number.invariant c.skip-stand.ensures in
    let p = err_from_is_err_and c.from_residual-in_err-count-in-Last.result c.from_residual-in_err-count-in-Last.ensures.1 in
    rw (p.1, p.2)
    (finishes turns here _ _ c.in_ok-number.ensures _ _ c.size.ensures c.in_err-count-in-Last.ensures (sym c.in-Last.is ∙ c.advance.ensures)).0

pub returns-in-Last : goal.returns-in-Last
returns-in-Last g c =
    let turns = g.met.S.Source.turns c.args.source in
    let here = skipped c.loop-number.invariant c.skip-stand.ensures in
    finishes turns here _ _ c.in_ok-number.ensures _ _ c.size.ensures c.in_ok-count-in-Last.ensures (sym c.in-Last.is ∙ c.advance.ensures)

pub loop-number-preserved : goal.loop-number-preserved
loop-number-preserved g c =
    let turns = g.met.S.Source.turns c.args.source in
    let here = skipped c.loop-number.invariant c.skip-stand.ensures in
    goes_on turns here _ _ c.in_ok-number.ensures _ _ _ (sym c.in-More.is ∙ c.advance.ensures) c.role_of.ensures c.note.ensures c.note.auto.counts
