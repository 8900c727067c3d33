use native.Mathlib.Omega.{arith}
use mathlib.Core.Path.{sym, ◌∙◌}
use Rattle.bits.proofs.Digits.{put_same}
use Rattle.judge.proofs.Packing.{down_fits, down_is, up_fits, up_is}
use Rattle.judge.proofs.rows.with_bit.Goals as goal

pub overflow_sub-result : goal.overflow_sub-result
overflow_sub-result c =
    let a = c.args in
    down_fits a.x a.k c.requires (sym c.bit.ensures ∙ c.if-bit.true)

pub overflow_add-result : goal.overflow_add-result
overflow_add-result c =
    let a = c.args in
    record { fits = up_fits a.x a.k c.requires (sym c.bit.ensures ∙ c.if-bit.false) (omega arith) }

pub returns-then-v : goal.returns-then-v
returns-then-v c =
    let a = c.args in
    put_same a.x a.k a.v (sym c.bit.ensures ∙ c.if-bit.true ∙ sym c.if-v.true)

pub returns-else-v : goal.returns-else-v
returns-else-v c =
    let a = c.args in
    rw c.if-v.false (down_is a.x a.k c.requires (sym c.bit.ensures ∙ c.if-bit.true))

pub returns-then-v-2 : goal.returns-then-v-2
returns-then-v-2 c =
    let a = c.args in
    rw c.if-v-2.true (up_is a.x a.k c.requires (sym c.bit.ensures ∙ c.if-bit.false))

pub returns-else-v-2 : goal.returns-else-v-2
returns-else-v-2 c =
    let a = c.args in
    put_same a.x a.k a.v (sym c.bit.ensures ∙ c.if-bit.false ∙ sym c.if-v-2.false)
