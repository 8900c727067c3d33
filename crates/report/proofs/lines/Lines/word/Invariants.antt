use Rattle.std.proofs.Common.{take}
use Rattle.report.specs.Placing.{Puts}
use Rattle.report.proofs.lines.Lines.word.Given as goal

abbrev pub invariant-loop-byte : goal.invariant-loop-byte
invariant-loop-byte l = Puts (take l.byte-index l.word) l.initial.self l.self
