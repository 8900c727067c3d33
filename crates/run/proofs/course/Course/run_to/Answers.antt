use native.Mathlib.Omega.{arith}
use borrow.Author.Tests.{lt-ltb, le-ltb}
use Rattle.run.proofs.Onward.{finish, stopped, spent, state_put, goes_on}
use Rattle.run.proofs.course.Course.run_to.Goals as goal

pub returns-in-Some : goal.returns-in-Some
returns-in-Some c =
    stopped _ _ _ _ _ _ _ _ _ c.loop-m.invariant.0 (lt-ltb _ _ c.loop-m-test.true) _ c.make_move-moved.ensures _ c.in-Some.is

pub returns-then-n-ge-LAST_STATE : goal.returns-then-n-ge-LAST_STATE
returns-then-n-ge-LAST_STATE c =
    spent _ _ _ _ _ _ _ _ _ c.loop-m.invariant.0 (lt-ltb _ _ c.loop-m-test.true) _ c.make_move-moved.ensures
    c.in_default.is (omega (arith, c.if-n-ge-LAST_STATE.true))

pub loop-m-preserved : goal.loop-m-preserved
loop-m-preserved c = (
  goes_on _ _ _ _ _ _ _ _ _ c.loop-m.invariant.0 (lt-ltb _ _ c.loop-m-test.true) _ c.make_move-moved.ensures
      c.in_default.is c.if-n-ge-LAST_STATE.false _
      (state_put _ c.loop-m.m _ _ _ _ c.loop-m.invariant.1 c.put_position.ensures),
  c.atoms_after-then.ensures,
)

pub returns : goal.returns
returns c = finish _ _ _ _ _ _ _ _ _ c.loop-m.invariant.0 (le-ltb _ _ c.loop-m-test.false)
