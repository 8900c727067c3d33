use mathlib.Core.Path.{sym, ◌∙◌}
use Rattle.sheet.proofs.Names.{found_inside}
use Rattle.sheet.proofs.body.Goals as goal

pub slice_bounds-result-count : goal.slice_bounds-result-count
slice_bounds-result-count c =
    (found_inside _ _ _ _ (sym c.find.ensures ∙ c.in-Ok.is)).0

pub slice_bounds-result-start : goal.slice_bounds-result-start
slice_bounds-result-start c =
    (found_inside _ _ _ _ (sym c.find.ensures ∙ c.in-Ok.is)).0

pub slice_bounds-result-end : goal.slice_bounds-result-end
slice_bounds-result-end c =
    (found_inside _ _ _ _ (sym c.find.ensures ∙ c.in-Ok.is)).1
