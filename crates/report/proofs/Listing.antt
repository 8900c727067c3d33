-- The lines of the findings: one for each two bytes of a list.
-- Assumes nothing.
use Prim.Native.Nat.{ℕ, zero, suc, ◌+◌, ◌*◌}
use native.Mathlib.Omega.{arith}
use native.Mathlib.Numerals.{add-one}
use mathlib.Core.Path.{◌≡◌, refl, ap}
use mathlib.Core.List.{List, [], ◌∷◌, ◌++◌, append_assoc, append-nil}
use lib.ListN.{get_or}
use Rattle.report.specs.Lines.{at_line, at_lines}
use Rattle.report.specs.Placing.{pairs_from}

-- The number of two bytes at a place, low byte first.
abbrev pub pair : List ℕ → ℕ → ℕ
pair list at = get_or list at 0 + 256 * get_or list (at + 1) 0

pairs_more : (i at : ℕ) (list : List ℕ) →
    pairs_from (suc i) at list ≡ pairs_from i at list ++ (pair list (at + 2 * i) ∷ [])
unfolding pairs_from
pairs_more zero at list = let same : at + 2 * 0 ≡ at = omega arith in rw same
pairs_more (suc i) at list =
    let same : (at + 2) + 2 * i ≡ at + 2 * suc i = omega arith in
    ap (λ l. pair list at ∷ l) (rw (← same) (pairs_more i (at + 2) list))

lines_behind : (ps : List ℕ) (p : ℕ) → at_lines (ps ++ (p ∷ [])) ≡ at_lines ps ++ at_line p
unfolding at_lines
lines_behind [] p = simp append-nil
lines_behind (q ∷ ps) p = rw (lines_behind ps p, append_assoc)

-- One line more.
pub lines_more : (i : ℕ) (list : List ℕ) →
    at_lines (pairs_from (i + 1) 0 list) ≡ at_lines (pairs_from i 0 list) ++ at_line (pair list (2 * i))
lines_more i list =
    let same : 0 + 2 * i ≡ 2 * i = omega arith in
    rw (add-one i, pairs_more i 0 list, same) (lines_behind (pairs_from i 0 list) (pair list (2 * i)))

pub lines_none : (list : List ℕ) → at_lines (pairs_from 0 0 list) ≡ []
unfolding pairs_from at_lines
lines_none list = refl
