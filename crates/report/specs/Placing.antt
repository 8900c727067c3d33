-- What the functions that print promise one another on the way: no part of a public promise.
-- Assumes nothing: these are definitions.
use Rattle.std.specs.Prelude.{ℕ, zero, suc, ◌+◌, ◌*◌, ◌≡◌, List, [], ◌∷◌, length, get_or}
use Rattle.coding.specs.Room.{over}
use Rattle.report.specs.declared.lines.Lines.{Lines}

-- The bytes xs are put at a place, and r is the place after them.
abbrev pub Put : List ℕ → ℕ → ℕ → List ℕ → List ℕ → Type 0
Put xs at r before after = (r ≡ at + length xs) × (after ≡ over before at xs)

-- The bytes xs are put at the place in the buffer, and the next place is the one after them.
pub record Puts (xs : List ℕ) (before after : Lines) : Type 0 where
  pub place : after.at ≡ before.at + length xs
  pub bytes : after.out.now ≡ over before.out.now before.at xs
  pub same : after.out.ghost_name ≡ before.out.ghost_name

-- The n numbers of two bytes from a place on, low byte first.
unfoldable pub pairs_from : ℕ → ℕ → List ℕ → List ℕ
pairs_from zero at list = []
pairs_from (suc n) at list = (get_or list at 0 + 256 * get_or list (at + 1) 0) ∷ pairs_from n (at + 2) list
