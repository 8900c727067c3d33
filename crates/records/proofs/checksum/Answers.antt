use Rattle.std.proofs.Common.{[], ◌∷◌, ◌++◌, arith, ap, sym, ◌∙◌, take}
use Rattle.std.proofs.lemmas.List.{take_more}
use Rattle.std.proofs.lemmas.Fn.{FoldsTo-push}
use Rattle.records.proofs.checksum.Goals as goal

pub loop-number-preserved : goal.loop-number-preserved
loop-number-preserved g c =
    let row = c.args.numbers.now in
    let i = c.loop-number.number-index in
    let grown =
    take_more row i c.number-item.result c.loop-number-test.true
    ∙ ap (λ (x : g.row.T.Denot). take i row ++ (x ∷ [])) (sym c.number-item.is) in (
      omega arith,
      rw grown (FoldsTo-push _ _ _ _ _ _ c.loop-number.invariant.1 (c.into-plain.result, c.into-plain.ensures, cc)),
    )
