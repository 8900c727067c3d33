use native.Mathlib.Omega.{arith}
use Rattle.sheet.proofs.Laws.{inside}
use Rattle.sheet.proofs.seek.Goals as goal

pub is_named-requires : goal.is_named-requires
is_named-requires c = let h = inside _ _ _ _ _ _ c.in_ok-entry.ensures in (omega arith, h.2)
