use Rattle.run.proofs.Seen.{bytes_stay}
use Rattle.run.proofs.course.Course.atoms_after.Goals as goal

pub returns-then-seen_as : goal.returns-then-seen_as
returns-then-seen_as c = bytes_stay _ _ _ _ c.seen_as.ensures c.if-seen_as.true _ c.requires
