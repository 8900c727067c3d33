use Rattle.std.proofs.lemmas.Result.{err_from_is_err_and}
use Rattle.run.proofs.Readings.{table_is_read, no_room, table_refused, table_read}
use Rattle.run.proofs.run.Goals as goal

pub returns-then-trace-lt-TRACE_ROOM : goal.returns-then-trace-lt-TRACE_ROOM
returns-then-trace-lt-TRACE_ROOM c = rw c.at.ensures (no_room _ _ _ c.if-trace-lt-TRACE_ROOM.true)

pub slice_bounds-run_table-end : goal.slice_bounds-run_table-end
slice_bounds-run_table-end c =
    (table_is_read _ _ _ c.read_table.ensures).inside _ c.in_ok-n.was

pub returns-in_err-n : goal.returns-in_err-n
returns-in_err-n c =
    let p = err_from_is_err_and c.from_residual.result c.from_residual.ensures.1 in
    rw (p.1, p.2)
    (table_refused _ _ _ c.if-trace-lt-TRACE_ROOM.false _
    ((table_is_read _ _ _ c.read_table.ensures).refuses _ c.in_err-n.was))

pub returns : goal.returns
returns c =
    let h = table_is_read _ _ _ c.read_table.ensures in
    table_read _ _ _ c.if-trace-lt-TRACE_ROOM.false _ (h.accepts _ c.in_ok-n.was) _ (h.all _ c.in_ok-n.was) _ _
    c.run_table.ensures
