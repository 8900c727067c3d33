-- The table of tags: what a number asks for, and where the kind has no such tag.
-- Assumes nothing.
use Prim.Native.Nat.{ℕ, zero, suc, ◌+◌}
use native.Mathlib.Omega.{arith}
use native.Mathlib.Nat.{add-zero, zero-add, add-suc, suc-add}
use mathlib.Core.Path.{◌≡◌, refl}
use mathlib.Core.Bool.{Bool, true, false}
use mathlib.Core.List.{List, [], ◌∷◌}
use lib.ListN.{get_or}
use lib.Dec.{ltb, eqb}
use borrow.Author.Tests.{eqb-true}
use Rattle.std.specs.Prelude.{Option, Some, None}
use Rattle.coding.specs.Number.{pick}
use Rattle.requirement.specs.Tags.{tags, tag_of, mark_no, one_no, two_no}
use Rattle.requirement.specs.Limits.{highest_tag, tag_in}
use Rattle.requirement.specs.declared.Kind.{Kind}
use Rattle.requirement.specs.declared.Tag.{Tag}
use Rattle.requirement.specs.declared.Tag.TheVariants.{Atom, Mark, OverOne, OverTwo}

-- the number of what a tag asks for, or v where it is unknown
abbrev number_or : ℕ → Option Tag → ℕ
number_or v None = v
number_or v (Some Atom) = 0
number_or v (Some (Mark p)) = mark_no p
number_or v (Some (OverOne o)) = one_no o
number_or v (Some (OverTwo o)) = two_no o

abbrev pub Numbers : ℕ → Option Tag → Type 0
Numbers v t = v ≡ number_or v t

-- each tag of a table stands at its number, the first at i
abbrev in_order : ℕ → List (Option Tag) → Bool
in_order i [] = true
in_order i (t ∷ ts) = pick (eqb i (number_or i t)) (in_order (suc i) ts) false

both : (b c : Bool) → pick b c false ≡ true → (b ≡ true) × (c ≡ true)
both true c h = (refl, h)
both false c h = let z : ◌≡◌ {A = ℕ} 0 1 = cc in absurd (omega arith)

looked_up : (ts : List (Option Tag)) (i k : ℕ) → in_order i ts ≡ true → Numbers (i + k) (get_or ts k None)
looked_up [] i k h = refl
looked_up (t ∷ ts) i zero h = rw add-zero (eqb-true i (number_or i t) (both (eqb i (number_or i t)) (in_order (suc i) ts) h).0)
looked_up (t ∷ ts) i (suc k) h = rw (add-suc, ← suc-add) (looked_up ts (suc i) k (both (eqb i (number_or i t)) (in_order (suc i) ts) h).1)

-- what the table has at a number has this number
tag_numbers : (v : ℕ) → Numbers v (tag_of v)
unfolding tag_of
tag_numbers v = rw zero-add at (looked_up tags 0 v refl)

pub numbers_in_lem : (kind : Kind) (v : ℕ) → Numbers v (tag_in kind v)
unfolding tag_in
numbers_in_lem kind v = go (ltb (highest_tag kind) v)
  where
    go : (b : Bool) → Numbers v (pick b None (tag_of v))
    go true = refl
    go false = tag_numbers v
