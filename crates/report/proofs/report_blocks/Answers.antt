use Prim.Native.Nat.{ℕ}
use mathlib.Core.List.{List}
use lib.ListN.{replicate}
use native.Mathlib.Omega.{arith}
use mathlib.Core.Path.{refl, sym}
use Rattle.std.proofs.Common.{length-take-le}
use Rattle.report.proofs.Answering.{closed_few, closed_inside, closed_prints, stop_prints}
use Rattle.report.proofs.report_blocks.Goals as goal

-- What the local buffer holds at first.
abbrev blank : List ℕ
blank = replicate 20480 0

pub overflow_mul-front : goal.overflow_mul-front
overflow_mul-front c =
    let a = c.args in
    let x = c.run in
    omega (
      arith,
      closed_few a.table.now a.inputs.now a.code.now blank x.new.trace x.result refl x.ensures.0 x.ensures.1
          _ _ c.in-Ok.is,
    )

pub slice_bounds-trace-end : goal.slice_bounds-trace-end
slice_bounds-trace-end c =
    let a = c.args in
    let x = c.run in
    closed_inside a.table.now a.inputs.now a.code.now blank x.new.trace x.result refl x.ensures.0 x.ensures.1
    _ _ c.in-Ok.is

pub slice_bounds-report_judging-end : goal.slice_bounds-report_judging-end
slice_bounds-report_judging-end c =
    let a = c.args in
    let x = c.run in
    sym (length-take-le _ _ (closed_inside a.table.now a.inputs.now a.code.now blank x.new.trace x.result refl
    x.ensures.0 x.ensures.1 _ _ c.in-Ok.is))

pub returns-in-Ok : goal.returns-in-Ok
returns-in-Ok c =
    let a = c.args in
    let x = c.run in
    closed_prints a.table.now a.inputs.now a.code.now blank x.new.trace x.result refl x.ensures.0 x.ensures.1
    _ _ c.in-Ok.is _ _ _ c.report_judging.ensures

pub returns-in-Err : goal.returns-in-Err
returns-in-Err c =
    let a = c.args in
    let x = c.run in
    stop_prints a.table.now a.inputs.now a.code.now blank x.new.trace x.result refl x.ensures.0 x.ensures.1
    _ c.in-Err.is _ c.told.ensures _ _ _ c.put_refused.ensures
