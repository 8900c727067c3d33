use Rattle.sheet.proofs.Laws.{same_is}
use Rattle.sheet.proofs.same.Goals as goal

pub returns : goal.returns
returns c = same_is _ _ _ c.same.ensures.0 c.same.ensures.1
