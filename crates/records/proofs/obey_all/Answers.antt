use Rattle.std.proofs.Common.{[], ◌∷◌, ◌++◌}
use Rattle.std.proofs.lemmas.Fn.{FoldsTo-push}
use Rattle.records.specs.Obeying.{Step}
use Rattle.records.proofs.obey_all.Goals as goal

pub loop-record-preserved : goal.loop-record-preserved
loop-record-preserved g c = (
  c.loop-record.invariant.0 ++ (c.in-Some.record ∷ []),
  FoldsTo-push (Step g.C.Record.stands g.C.Record.writes) _ _ _ _ _ c.loop-record.invariant.1
      (c.in-Some.ensures.stands, c.in_ok-obey.ensures),
)
