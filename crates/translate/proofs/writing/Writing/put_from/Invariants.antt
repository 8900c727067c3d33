use Rattle.std.proofs.Common.{take}
use Rattle.translate.specs.Writing.{Put}
use Rattle.translate.proofs.writing.Writing.put_from.Given as goal

abbrev pub invariant-loop-byte : goal.invariant-loop-byte
invariant-loop-byte l = Put l.initial.out l.place (take l.byte-index l.bytes) l.out l.at
