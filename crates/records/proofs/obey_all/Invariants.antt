use Rattle.std.proofs.Common.{List, length}
use Rattle.std.specs.List.{FoldsTo}
use Rattle.records.specs.Obeying.{Step}
use Rattle.records.proofs.obey_all.Given as goal

abbrev pub invariant-loop-record : goal.invariant-loop-record
invariant-loop-record g l =
    (records : List g.row.C.Denot)
    × FoldsTo (Step g.C.Record.stands g.C.Record.writes) (l.initial.unread.rest.now, g.W.Write.contents l.initial.out)
    records (l.unread.rest.now, g.W.Write.contents l.out)

abbrev pub decreases-loop-record : goal.decreases-loop-record
decreases-loop-record g l = length l.unread.rest.now
