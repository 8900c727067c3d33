use native.Mathlib.Omega.{arith}
use mathlib.Core.Path.{◌≡◌, ◌∙◌}
use Rattle.std.proofs.Common.{rules, sum_by}
use Rattle.std.specs.Int.Count.{ones}
use Rattle.judge.proofs.Bytewise.{count_bytes}
use Rattle.judge.proofs.findings.count_row.Goals as goal

pub returns : goal.returns
returns c =
    let e : c.sum.result ≡ sum_by (λ x. ones x) c.args.row.now = search rules in
    e ∙ count_bytes c.args.row.now (λ i. omega (arith, c.type_inv.row i))
