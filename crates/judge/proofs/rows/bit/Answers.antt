use mathlib.Core.Path.{sym}
use Rattle.bits.proofs.Digits.{bit_shr}
use Rattle.judge.proofs.rows.bit.Goals as goal

pub returns : goal.returns
returns c = sym (bit_shr c.args.x c.args.k)
