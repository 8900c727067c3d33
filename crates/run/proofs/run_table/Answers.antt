use mathlib.Core.Path.{refl}
use Rattle.std.proofs.lemmas.Result.{err_from_is_err_and}
use Rattle.run.proofs.Readings.{inputs_are_read, inputs_refused, inputs_read}
use Rattle.run.proofs.run_table.Goals as goal

pub slice_bounds-run_numbers-end : goal.slice_bounds-run_numbers-end
slice_bounds-run_numbers-end c =
    (inputs_are_read _ _ _ _ c.read_inputs.ensures).inside _ c.in_ok-n.was

pub returns-in_err-n : goal.returns-in_err-n
returns-in_err-n c =
    let p = err_from_is_err_and c.from_residual.result c.from_residual.ensures.1 in
    rw (p.1, p.2, ← c.inputs.ensures) (
      inputs_refused _ _ _ _ ((inputs_are_read _ _ _ _ c.read_inputs.ensures).refuses _ c.in_err-n.was),
      refl,
    )

pub returns : goal.returns
returns c =
    let h = inputs_are_read _ _ _ _ c.read_inputs.ensures in
    rw (← c.inputs.ensures)
    (inputs_read _ _ _ _ (h.accepts _ c.in_ok-n.was) _ (h.all _ c.in_ok-n.was) _ _ _
    c.run_numbers.ensures)
