use mathlib.Core.Path.{sym}
use native.Mathlib.Omega.{arith}
use lib.ListN.{length, length-take, length-drop}
use Rattle.requirement.specs.Walking.{walk_at}
use Rattle.requirement.proofs.Walking.{walk_none, atom_to_31}
use Rattle.bits.specs.Rows.{row_of}
use Rattle.lasso.specs.Bytes.{positions}
use Rattle.judge.proofs.Rowing.{room_row, room_two, node_found, rowed_none, rowed_fault, rowed_atom, rowed_mark, rowed_one, rowed_two, rowed_over_one, rowed_over_two}
use Prim.Native.Nat.{◌-◌}
use Rattle.judge.proofs.tree.+judge_node_judge_one_judge_two.Goals as goal

pub judge_node-returns-then-depth-eq0 : goal.judge_node-returns-then-depth-eq0
judge_node-returns-then-depth-eq0 t c =
    let a = c.args in
    rowed_none a.kind a.code.now a.at a.depth a.marked.now.trace.now a.marked.now.start _ _ c.if-depth-eq0.true

pub judge_node-fill_atom-requires : goal.judge_node-fill_atom-requires
judge_node-fill_atom-requires t c =
    let a = c.args in (
      omega (
        arith,
        atom_to_31 a.kind a.code.now a.at _ _
            (node_found a.kind a.code.now a.at c.in-Ok.ensures c.in-Atom.is),
      ),
      a.marked.now.few,
      room_row a.depth (row_of (positions a.marked.now.trace.now)) c.if-depth-eq0.false c.requires,
    )

pub judge_node-returns-in_default : goal.judge_node-returns-in_default
judge_node-returns-in_default t c =
    let a = c.args in
    rowed_fault a.kind a.code.now a.at a.depth a.marked.now.trace.now a.marked.now.start _ _ c.if-depth-eq0.false
    (sym c.in_default.ensures)

pub judge_node-returns-in-Atom : goal.judge_node-returns-in-Atom
judge_node-returns-in-Atom t c =
    let a = c.args in
    rowed_atom a.kind a.code.now a.at a.depth a.marked.now.trace.now a.marked.now.start _ _ c.if-depth-eq0.false _
    (node_found a.kind a.code.now a.at c.in-Ok.ensures c.in-Atom.is)
    (rw c.from.ensures at c.fill_atom.ensures)

pub judge_node-returns-in-Mark : goal.judge_node-returns-in-Mark
judge_node-returns-in-Mark t c =
    let a = c.args in
    rowed_mark a.kind a.code.now a.at a.depth a.marked.now.trace.now a.marked.now.start _ _ c.if-depth-eq0.false _
    (node_found a.kind a.code.now a.at c.in-Ok.ensures c.in-Mark.is)
    c.fill_phase.ensures.0

pub judge_node-returns-in-OverOne : goal.judge_node-returns-in-OverOne
judge_node-returns-in-OverOne t c =
    let a = c.args in
    rowed_one a.kind a.code.now a.at a.depth a.marked.now.trace.now a.marked.now.start _ _ c.if-depth-eq0.false _
    (node_found a.kind a.code.now a.at c.in-Ok.ensures c.in-OverOne.is)
    c.judge_one.ensures

pub judge_node-returns-in-OverTwo : goal.judge_node-returns-in-OverTwo
judge_node-returns-in-OverTwo t c =
    let a = c.args in
    rowed_two a.kind a.code.now a.at a.depth a.marked.now.trace.now a.marked.now.start _ _ c.if-depth-eq0.false _
    (node_found a.kind a.code.now a.at c.in-Ok.ensures c.in-OverTwo.is)
    c.judge_two.ensures

pub judge_one-returns-then-depth-eq0 : goal.judge_one-returns-then-depth-eq0
judge_one-returns-then-depth-eq0 t c =
    let a = c.args in
    rw (walk_none a.kind a.code.now a.at _ c.if-depth-eq0.true) tt

pub judge_one-returns : goal.judge_one-returns
judge_one-returns t c =
    let a = c.args in
    rowed_over_one a.marked.now.trace.now a.marked.now.start a.marked.now.inside _ _ a.operator (walk_at a.kind a.depth a.code.now a.at) _
    c.judge_node-next.ensures c.apply_one.ensures

pub judge_two-returns-then-depth-eq0 : goal.judge_two-returns-then-depth-eq0
judge_two-returns-then-depth-eq0 t c =
    let a = c.args in
    rw (walk_none a.kind a.code.now a.at _ c.if-depth-eq0.true) tt

pub judge_two-returns : goal.judge_two-returns
judge_two-returns t c =
    let a = c.args in
    let w = c.judge_node-second.new.work in
    let v = c.judge_node-next.new.work in
    let lw = c.judge_node-second.auto.work in
    let lv = simp (length-take, length-drop) at c.judge_node-next.auto.work in
    let row = c.row-row.ensures in
    let two = room_two a.depth (row_of (positions a.marked.now.trace.now)) c.if-depth-eq0.false c.requires in
    rowed_over_two a.marked.now.trace.now a.marked.now.start a.marked.now.inside _ _ a.operator (λ x. walk_at a.kind a.depth a.code.now x)
    (walk_at a.kind a.depth a.code.now a.at)
    _ (length w - row_of (positions a.marked.now.trace.now)) w v (omega arith) (omega arith) c.judge_node-second.ensures
    c.judge_node-next.ensures (rw row at c.apply_two.ensures)
