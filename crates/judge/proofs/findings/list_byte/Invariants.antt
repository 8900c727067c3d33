use Rattle.judge.proofs.Listing.{Byte}
use Rattle.judge.proofs.findings.list_byte.Given as goal

abbrev pub invariant-loop-k : goal.invariant-loop-k
invariant-loop-k l = Byte l.row l.i l.place l.initial.list l.at l.k l.list
