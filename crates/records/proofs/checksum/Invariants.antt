use Rattle.std.proofs.Common.{◌<◌, take}
use Rattle.std.specs.List.{FoldsTo}
use Rattle.records.specs.Checksum.{Counts}
use Rattle.records.proofs.checksum.Given as goal

abbrev pub invariant-loop-number : goal.invariant-loop-number
invariant-loop-number g l =
    (l.sum < 4294967291) × FoldsTo (Counts g.T.Into.converts) 0 (take l.number-index l.numbers) l.sum
