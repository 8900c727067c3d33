use Rattle.std.proofs.Common.{refl, ◌∙◌}
use Rattle.coding.proofs.Bytes.{store₁}
use Rattle.report.proofs.lines.Lines.byte.Goals as goal

pub returns : goal.returns
returns c = record { place = refl; bytes = c.set_at.ensures ∙ store₁ _ _ _; same = refl }
