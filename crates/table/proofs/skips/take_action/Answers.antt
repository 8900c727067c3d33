use mathlib.Core.Path.{◌≡◌}
use mathlib.Core.Bool.{true}
use Rattle.std.proofs.Common.{rules}
use Rattle.ranges.specs.Values.{op_ok, x_ok, y_ok, guard_ok, next_ok, uses_nexts, uses_else}
use Rattle.table.proofs.Stands.{six}
use Rattle.table.proofs.skips.take_action.Goals as goal

pub returns : goal.returns
returns g c =
    let a = c.args in
    let op = c.in_ok-op.op in
    let x = c.in_ok-x.x in
    let y = c.in_ok-y.y in
    let guard = c.in_ok-guard.guard in
    let next_if = c.in_ok-next_if.next_if in
    let next_else = c.in_ok-next_else.next_else in
    let k₁ : op_ok a.spot op.value ≡ true = search rules in
    let k₂ : x_ok a.shape a.spot op.value x.value ≡ true = search rules in
    let k₃ : y_ok a.shape op.value y.value ≡ true = search rules in
    let k₄ : guard_ok a.shape op.value guard.value ≡ true = search rules in
    let k₅ : next_ok a.spot (uses_nexts op.value) next_if.value ≡ true = search rules in
    let k₆ : next_ok a.spot (uses_else op.value guard.value) next_else.value ≡ true = search rules in
    six (g.met.S.Source.turns a.source) a.shape a.spot a.at op x y guard next_if next_else c.requires c.in_ok-op.ensures.0 k₁ c.in_ok-x.ensures.0 k₂
    c.in_ok-y.ensures.0 k₃ c.in_ok-guard.ensures.0 k₄ c.in_ok-next_if.ensures.0 k₅ c.in_ok-next_else.ensures.0 k₆
