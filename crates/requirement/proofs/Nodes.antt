-- One node at a place of the bytes, on each way through `read_node`.
-- Assumes nothing.
use Prim.Native.Nat.{ℕ, ◌≤◌, ◌<◌}
use mathlib.Core.Path.{◌≡◌}
use mathlib.Core.List.{List}
use borrow.Author.Tests.{lt-ltb, le-ltb}
use Rattle.std.specs.Prelude.{Option, Some}
use Rattle.coding.specs.Refusal.{value_then, refused_at}
use Rattle.coding.specs.Number.{number_at}
use Rattle.coding.specs.declared.Cause.{Cause}
use Rattle.coding.specs.declared.Cause.TheVariants.{NoSuchNode}
use Rattle.requirement.specs.Limits.{tag_in}
use Rattle.requirement.specs.Reading.{node_at, node_by, node_then}
use Rattle.requirement.specs.declared.Kind.{Kind}
use Rattle.requirement.specs.declared.Tag.{Tag}
use Rattle.requirement.specs.declared.Tag.TheVariants.{Atom}
use Rattle.requirement.specs.declared.Node.TheVariants.{Atom as AtomNode}

module _ (kind : Kind) (s : List ℕ) (at : ℕ) where
  pub no_tag : (cause : Cause) (place : ℕ) → refused_at cause place ≡ number_at s at → refused_at cause place ≡ node_at kind s at
  unfolding node_at
  no_tag cause place e = rw (← e)

  module _ (v next : ℕ) (e : value_then v next ≡ number_at s at) (t : Option Tag) (f : t ≡ tag_in kind v) where
    -- what the tag x asks for
    pub by_tag_lem : (x : Option Tag) → t ≡ x → node_by s at next x ≡ node_at kind s at
    unfolding node_at
    by_tag_lem x g = rw (← e, ← f, g)

    module _ (g : t ≡ Some Atom) where
      pub no_number : (cause : Cause) (place : ℕ) → refused_at cause place ≡ number_at s next → refused_at cause place ≡ node_at kind s at
      no_number cause place h = rw (← by_tag_lem (Some Atom) g, ← h)

      module _ (k after : ℕ) (h : value_then k after ≡ number_at s next) where
        pub big_number : 31 < k → refused_at NoSuchNode next ≡ node_at kind s at
        big_number l = rw (← by_tag_lem (Some Atom) g, ← h, lt-ltb _ _ l)

        pub small_number : k ≤ 31 → node_then (AtomNode k) after ≡ node_at kind s at
        small_number l = rw (← by_tag_lem (Some Atom) g, ← h, le-ltb _ _ l)
