use Rattle.bits.specs.Rows.{carry_b}
use Rattle.judge.proofs.rows.step_byte.Goals as goal

pub returns-clause-carry_is : goal.returns-clause-carry_is
unfolding carry_b
returns-clause-carry_is c = rw (← c.from.ensures, ← c.from-2.ensures) c.until-value.ensures.carry
