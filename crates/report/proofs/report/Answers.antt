use Rattle.report.proofs.Answering.{faulty_prints, blocks_print}
use Rattle.report.proofs.Splitting.{blocks_inside}
use Rattle.report.proofs.report.Goals as goal

pub slice_bounds-report_blocks-count : goal.slice_bounds-report_blocks-count
slice_bounds-report_blocks-count c =
    (blocks_inside _ _ _ _ _ _ _ c.in-Ok.ensures).0.0

pub slice_bounds-report_blocks-start : goal.slice_bounds-report_blocks-start
slice_bounds-report_blocks-start c =
    (blocks_inside _ _ _ _ _ _ _ c.in-Ok.ensures).0.0

pub slice_bounds-report_blocks-end : goal.slice_bounds-report_blocks-end
slice_bounds-report_blocks-end c =
    (blocks_inside _ _ _ _ _ _ _ c.in-Ok.ensures).0.1

pub slice_bounds-report_blocks-count-in-Ok : goal.slice_bounds-report_blocks-count-in-Ok
slice_bounds-report_blocks-count-in-Ok c =
    (blocks_inside _ _ _ _ _ _ _ c.in-Ok.ensures).1.0

pub slice_bounds-report_blocks-start-in-Ok : goal.slice_bounds-report_blocks-start-in-Ok
slice_bounds-report_blocks-start-in-Ok c =
    (blocks_inside _ _ _ _ _ _ _ c.in-Ok.ensures).1.0

pub slice_bounds-report_blocks-end-in-Ok : goal.slice_bounds-report_blocks-end-in-Ok
slice_bounds-report_blocks-end-in-Ok c =
    (blocks_inside _ _ _ _ _ _ _ c.in-Ok.ensures).1.1

pub slice_bounds-report_blocks-count-in-Ok-2 : goal.slice_bounds-report_blocks-count-in-Ok-2
slice_bounds-report_blocks-count-in-Ok-2 c =
    (blocks_inside _ _ _ _ _ _ _ c.in-Ok.ensures).2.0

pub slice_bounds-report_blocks-start-in-Ok-2 : goal.slice_bounds-report_blocks-start-in-Ok-2
slice_bounds-report_blocks-start-in-Ok-2 c =
    (blocks_inside _ _ _ _ _ _ _ c.in-Ok.ensures).2.0

pub slice_bounds-report_blocks-end-in-Ok-2 : goal.slice_bounds-report_blocks-end-in-Ok-2
slice_bounds-report_blocks-end-in-Ok-2 c =
    (blocks_inside _ _ _ _ _ _ _ c.in-Ok.ensures).2.1

pub returns-in-Err : goal.returns-in-Err
returns-in-Err c =
    faulty_prints _ _ _ c.in-Err.ensures _ _ _ c.put_refused.ensures

pub returns-in-Ok : goal.returns-in-Ok
returns-in-Ok c =
    blocks_print _ _ _ _ _ _ _ c.in-Ok.ensures _ _ _ c.report_blocks.ensures
