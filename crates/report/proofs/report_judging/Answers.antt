use Prim.Native.Nat.{ℕ}
use mathlib.Core.List.{List}
use lib.ListN.{replicate}
use mathlib.Core.Path.{refl}
use Rattle.report.proofs.Answering.{count_few, refusal_prints, answer_prints}
use Rattle.report.proofs.report_judging.Goals as goal

-- What the local buffers hold at first.
abbrev blank : List ℕ
blank = replicate 8192 0

pub put_answer-requires : goal.put_answer-requires
put_answer-requires c =
    let a = c.args in
    let j = c.judge in
    count_few a.code.now a.trace.now blank blank j.new.work j.new.list a.closed.start j.result refl
    refl j.ensures _ _ c.in-Ok.is

pub returns-in-Err : goal.returns-in-Err
returns-in-Err c =
    let a = c.args in
    let j = c.judge in
    refusal_prints a.code.now a.trace.now blank blank j.new.work j.new.list a.closed.start j.result
    refl refl j.ensures _ _ _ c.in-Err.is _ _ _ c.put_refused.ensures

pub returns-in-Ok : goal.returns-in-Ok
returns-in-Ok c =
    let a = c.args in
    let j = c.judge in
    answer_prints a.code.now a.trace.now blank blank j.new.work j.new.list a.closed.start j.result
    refl refl j.ensures _ _ c.in-Ok.is _ _ _ _ c.put_answer.ensures
