use Rattle.bits.specs.Rows.{carry_w}
use Rattle.judge.proofs.rows.step_word.Goals as goal

pub returns : goal.returns
unfolding carry_w
returns c =
    let x = c.word.ensures.0 in
    let y = c.word-2.ensures.0 in
    record {
      row_is = rw (← x, ← y, ← c.until-value.ensures.value.0) c.put_word.ensures;
      carry_is = rw (← x, ← y) c.until-value.ensures.carry;
    }
