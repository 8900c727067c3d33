use Rattle.std.proofs.Common.{refl, rules}
use Rattle.std.proofs.lemmas.Result.{err_from_is_err_and}
use Rattle.translate.proofs.Answers.{too_short, not_read, was_read}
use Rattle.translate.proofs.translate.Goals as goal

pub returns-then-out-lt-ROOM_ASKED : goal.returns-then-out-lt-ROOM_ASKED
returns-then-out-lt-ROOM_ASKED c = rw c.at.ensures (too_short _ _ c.if-out-lt-ROOM_ASKED.true)

pub returns-in_err-checked : goal.returns-in_err-checked
returns-in_err-checked c =
    let p = err_from_is_err_and c.from_residual.result c.from_residual.ensures.1 in
    rw (p.1, p.2) (not_read _ _ c.if-out-lt-ROOM_ASKED.false _ c.in_err-checked.ensures, refl)

pub returns : goal.returns
returns c =
    let all =
    was_read _ _ c.if-out-lt-ROOM_ASKED.false _ c.in_ok-checked.ensures _ c.translate_node.new.self _ refl refl
    c.translate_node.ensures in
    (all.0.0, search rules)
