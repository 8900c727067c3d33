-- A node that is read stands at its place in its own numbers: the numbers from there on are the node's, and then those
-- from the place after it on.
-- Assumes nothing.
use Prim.Native.Nat.{ℕ}
use mathlib.Core.Path.{◌≡◌, refl, sym}
use mathlib.Core.Bool.{Bool, true, false}
use mathlib.Core.List.{List, ◌∷◌, ◌++◌}
use lib.Dec.{ltb}
use Rattle.coding.specs.Refusal.{NumberRead, refused_at}
use Rattle.std.specs.Prelude.{Ok, Err, Option, Some, None}
use Rattle.coding.specs.Number.{pick, number_at}
use Rattle.coding.specs.Code.{code_at, values}
use Rattle.coding.specs.declared.Cause.TheVariants.{NoSuchNode}
use Rattle.coding.specs.Working.Rows.{next_values}
use Rattle.requirement.specs.Tags.{node_numbers}
use Rattle.requirement.specs.Limits.{tag_in}
use Rattle.requirement.specs.Reading.{atom_at, node_by, node_of, node_at, NodeAt, node_then}
use Rattle.requirement.specs.declared.Kind.{Kind}
use Rattle.requirement.specs.declared.Tag.{Tag}
use Rattle.requirement.specs.declared.Tag.TheVariants.{Atom, Mark, OverOne, OverTwo}
use Rattle.requirement.specs.declared.Node.{Node}
use Rattle.requirement.specs.declared.Node.TheVariants.{Atom as AtomNode}
use Rattle.requirement.proofs.Tagging.{Numbers, numbers_in_lem}

abbrev Stands : List ℕ → ℕ → NodeAt → Type 0
Stands s at (Ok found) = values (code_at s at) ≡ node_numbers found.node ++ values (code_at s found.next)
Stands s at (Err why) = Unit {0}

module _ (kind : Kind) (s : List ℕ) (at : ℕ) where
  -- an atom's number behind its tag
  by_number : (next : ℕ) → values (code_at s at) ≡ 0 ∷ values (code_at s next) → (n : NumberRead) → number_at s next ≡ n →
      Stands s at (atom_at next n)
  by_number next e (Err why) q = tt
  by_number next e (Ok num) q = go (ltb 31 num.value)
    where
      go : (b : Bool) → Stands s at (pick b (refused_at NoSuchNode next) (node_then (AtomNode num.value) num.next))
      go true = tt
      go false = rw (← next_values s next num.value num.next (sym q)) e

  by_tag_lem : (v next : ℕ) (t : Option Tag) → Numbers v t → values (code_at s at) ≡ v ∷ values (code_at s next) →
      Stands s at (node_by s at next t)
  by_tag_lem v next None h e = tt
  by_tag_lem v next (Some Atom) h e = by_number next (rw h at e) (number_at s next) refl
  by_tag_lem v next (Some (Mark p)) h e = rw h at e
  by_tag_lem v next (Some (OverOne o)) h e = rw h at e
  by_tag_lem v next (Some (OverTwo o)) h e = rw h at e

  by_first : (n : NumberRead) → number_at s at ≡ n → Stands s at (node_of kind s at n)
  by_first (Err why) q = tt
  by_first (Ok num) q = by_tag_lem num.value num.next (tag_in kind num.value) (numbers_in_lem kind num.value) (next_values s at num.value num.next (sym q))

  stands : Stands s at (node_at kind s at)
  unfolding node_at
  stands = by_first (number_at s at) refl

  pub node_stands : (node : Node) (next : ℕ) → node_at kind s at ≡ node_then node next →
      values (code_at s at) ≡ node_numbers node ++ values (code_at s next)
  node_stands node next e = rw e at stands
