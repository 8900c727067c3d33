use mathlib.Core.Path.{◌≡◌, refl}
use mathlib.Core.Bool.{false}
use Prim.Native.Nat.{◌+◌, ◌-◌, ◌*◌, ◌/◌}
use native.Mathlib.Omega.{arith}
use Rattle.bits.proofs.Walks.{carried_end, both_bytes, carried, at_until}
use Rattle.bits.proofs.Words.{both_words}
use Rattle.judge.proofs.rows.walk_back.Goals as goal

pub loop-k-init : goal.loop-k-init
loop-k-init c =
    let a = c.args in
    let e : a.row - 4 * ((a.row - a.from) / 4) + 4 * ((a.row - a.from) / 4) ≡ a.row = omega arith in
    rw e (carried_end a.work.now a.row false)

pub loop-k-preserved : goal.loop-k-preserved
loop-k-preserved c =
    let a = c.args in
    let given = c.type_inv.work in
    let i = a.row - 4 * ((a.row - a.from) / 4) + 4 * (c.loop-k.k - 1) in
    let b = both_words a.work.now a.row (λ k. omega (arith, given k)) i _ _ c.word.ensures.0 c.word-in-loop-k.ensures.0 in
    rw c.until-carry.ensures.carry (carried 31 b (omega arith) (omega arith) c.loop-k.invariant)

pub loop-i-preserved : goal.loop-i-preserved
loop-i-preserved c =
    let a = c.args in
    let given = c.type_inv.work in
    let i = c.loop-i.i - 1 in
    let x = given i in
    let y = given (a.row + i) in
    let b = both_bytes a.work.now a.row i _ _ (omega arith) (omega arith) refl refl in
    (omega arith, rw (c.until-carry-in-loop-i.ensures.carry, c.from.ensures, c.from-in-loop-i.ensures) (carried 7 b (omega arith) (omega arith) c.loop-i.invariant.1))

pub returns : goal.returns
unfolding at_until
returns c =
    let l = c.loop-i in
    let e : l.i ≡ c.args.from = omega arith in
    rw (← e) l.invariant.1.is
