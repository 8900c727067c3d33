use native.Mathlib.Omega.{arith}
use mathlib.Core.Path.{refl, sym, ◌∙◌}
use lib.ListN.{length, length-take}
use Rattle.std.proofs.lemmas.Result.{err_from_is_err_and}
use Rattle.bits.specs.Rows.{row_of}
use Rattle.lasso.proofs.WellFormed.{accepted_is_well_formed}
use Rattle.judge.proofs.Accepting.{code_whole, code_refused, trace_refused, work_short, list_short, all_fine, asked_most, row_adds, wanted_most, part_few, room_fine, row_fits, list_fits, accepted}
use Rattle.judge.proofs.judge.Goals as goal

pub overflow_add-row : goal.overflow_add-row
overflow_add-row c =
    let a = c.args in
    let l = accepted_is_well_formed a.trace.now a.start _ (sym c.in_ok-n.ensures) in
    record { fits = row_adds l }

pub overflow_mul-asked : goal.overflow_mul-asked
overflow_mul-asked c =
    let a = c.args in
    let l = accepted_is_well_formed a.trace.now a.start _ (sym c.in_ok-n.ensures) in
    record { fits = asked_most (omega arith) l.most }

pub returns-then-work-asked : goal.returns-then-work-asked
returns-then-work-asked c =
    let a = c.args in
    let h = code_whole a.kind a.code.now c.in_ok-checked.ensures in
    rw (
      work_short h a.trace.now a.start (length a.work.now) (length a.list.now)
          (sym c.in_ok-n.ensures) (rw c.from.ensures at c.if-work-asked.true),
      c.at.ensures,
      c.from.ensures,
    ) (refl, refl, refl)

pub overflow_mul-wanted : goal.overflow_mul-wanted
overflow_mul-wanted c =
    let a = c.args in
    let l = accepted_is_well_formed a.trace.now a.start _ (sym c.in_ok-n.ensures) in
    record { fits = wanted_most l _ c.count_inputs-wanted.ensures }

pub returns-then-list-wanted : goal.returns-then-list-wanted
returns-then-list-wanted c =
    let a = c.args in
    let h = code_whole a.kind a.code.now c.in_ok-checked.ensures in
    rw (
      list_short h a.trace.now a.start (length a.work.now) (length a.list.now) (sym c.in_ok-n.ensures)
          (rw c.from.ensures at c.if-work-asked.false) _ c.count_inputs-wanted.ensures c.if-list-wanted.true,
      c.at-then-list-wanted.ensures,
    )
    (refl, refl, refl)

pub judge_rows-verdict-requires : goal.judge_rows-verdict-requires
judge_rows-verdict-requires c =
    let a = c.args in
    let h = code_whole a.kind a.code.now c.in_ok-checked.ensures in
    let l = accepted_is_well_formed a.trace.now a.start _ (sym c.in_ok-n.ensures) in
    room_fine h l a.work.now (rw c.from.ensures at c.if-work-asked.false)

pub slice_bounds-list_row-end : goal.slice_bounds-list_row-end
slice_bounds-list_row-end c =
    let a = c.args in
    let h = code_whole a.kind a.code.now c.in_ok-checked.ensures in
    let l = accepted_is_well_formed a.trace.now a.start _ (sym c.in_ok-n.ensures) in
    let size = c.judge_rows-verdict.auto.work in
    row_fits h l a.work.now c.judge_rows-verdict.new.work size (rw c.from.ensures at c.if-work-asked.false)

pub slice_bounds-list_row-end-2 : goal.slice_bounds-list_row-end-2
slice_bounds-list_row-end-2 c =
    let a = c.args in
    let h = code_whole a.kind a.code.now c.in_ok-checked.ensures in
    let l = accepted_is_well_formed a.trace.now a.start _ (sym c.in_ok-n.ensures) in
    let w = c.judge_rows-verdict.new.work in
    let room = row_fits h l a.work.now w c.judge_rows-verdict.auto.work (rw c.from.ensures at c.if-work-asked.false) in
    omega (arith, room, length-take (row_of c.in_ok-n.n) w)

pub list_row-requires : goal.list_row-requires
list_row-requires c =
    let a = c.args in
    let h = code_whole a.kind a.code.now c.in_ok-checked.ensures in
    let l = accepted_is_well_formed a.trace.now a.start _ (sym c.in_ok-n.ensures) in
    let size = c.judge_rows-verdict.auto.work in
    let w = c.judge_rows-verdict.new.work in
    let room = row_fits h l a.work.now w size (rw c.from.ensures at c.if-work-asked.false) in
    let r = row_of c.in_ok-n.n in (
      part_few l w r refl,
      list_fits h l w c.judge_rows-verdict.result r refl room c.judge_rows-verdict.ensures _
          (length a.list.now) c.count_inputs-wanted.ensures c.if-list-wanted.false,
    )

pub returns-in_err-checked : goal.returns-in_err-checked
returns-in_err-checked c =
    let a = c.args in
    let p = err_from_is_err_and c.from_residual.result c.from_residual.ensures.1 in
    rw (code_refused a.kind a.code.now c.in_err-checked.ensures a.trace.now a.start (length a.work.now) (length a.list.now), p.1, p.2) (refl, refl, refl)

pub returns-in_err-n : goal.returns-in_err-n
returns-in_err-n c =
    let a = c.args in
    let h = code_whole a.kind a.code.now c.in_ok-checked.ensures in
    let p = err_from_is_err_and c.from_residual-in_err-n.result c.from_residual-in_err-n.ensures.1 in
    rw (trace_refused h a.trace.now a.start (length a.work.now) (length a.list.now) (sym c.in_err-n.ensures), p.1, p.2) (refl, refl, refl)

pub shape_of-work : goal.shape_of-work
shape_of-work c =
    c.clear.auto.work ∙ c.judge_rows-verdict.auto.work

pub shape_of-list : goal.shape_of-list
shape_of-list c =
    c.list_row.auto.list

pub returns : goal.returns
returns c =
    let a = c.args in
    let h = code_whole a.kind a.code.now c.in_ok-checked.ensures in
    let l = accepted_is_well_formed a.trace.now a.start _ (sym c.in_ok-n.ensures) in
    let size = c.judge_rows-verdict.auto.work in
    let w = c.judge_rows-verdict.new.work in
    let room = row_fits h l a.work.now w size (rw c.from.ensures at c.if-work-asked.false) in
    let r = row_of c.in_ok-n.n in
    rw
    (all_fine h a.trace.now a.start (length a.work.now) (length a.list.now) (sym c.in_ok-n.ensures)
    (rw c.from.ensures at c.if-work-asked.false) _ c.count_inputs-wanted.ensures c.if-list-wanted.false)
    (accepted h l w c.judge_rows-verdict.result r refl room c.judge_rows-verdict.ensures
    a.work.now a.list.now _ _ size c.clear.ensures c.list_row.ensures)
