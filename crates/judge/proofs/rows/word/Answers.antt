use native.Mathlib.Omega.{arith}
use Rattle.bits.specs.Rows.{word_at}
use Rattle.judge.proofs.rows.word.Goals as goal

pub returns : goal.returns
unfolding word_at
returns c = (omega arith, omega arith)
