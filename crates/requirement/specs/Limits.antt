-- Document 01, Coding: "At most 64 nodes, depth 16 .. A translated requirement has tags up to 11 only, at most 704 nodes, depth 76;
-- the caller says which of the two is read."
-- Assumes nothing: these are definitions.
use Rattle.std.specs.Prelude.{ℕ, ◌≤◌, ◌≡◌, ltb, Option, Some, None}
use Rattle.coding.specs.Number.{pick}
use Rattle.requirement.specs.Requirement.{Requirement, atom, mark, one, two, nodes_of, depth_of}
use Rattle.requirement.specs.Tags.{tag_of, mark_no, one_no, two_no}
use Rattle.requirement.specs.declared.Kind.{Kind}
use Rattle.requirement.specs.declared.Kind.TheVariants.{Untranslated, Translated}
use Rattle.requirement.specs.declared.Tag.{Tag}
use Rattle.requirement.specs.declared.Tag.TheVariants.{Mark, OverOne, OverTwo}

abbrev pub node_limit : Kind → ℕ
node_limit Untranslated = 64
node_limit Translated = 704

abbrev pub depth_limit : Kind → ℕ
depth_limit Untranslated = 16
depth_limit Translated = 76

abbrev pub highest_tag : Kind → ℕ
highest_tag Untranslated = 23
highest_tag Translated = 11

abbrev pub highest_atom : ℕ
highest_atom = 31

-- A tag that the kind does not have is unknown in it.
unfoldable pub tag_in : Kind → ℕ → Option Tag
tag_in kind v = pick (ltb (highest_tag kind) v) None (tag_of v)

-- Every node of the requirement is one that the kind has.
unfoldable pub Allowed : Kind → Requirement → Type 0
Allowed kind (atom k) = k ≤ highest_atom
Allowed kind (mark p) = tag_in kind (mark_no p) ≡ Some (Mark p)
Allowed kind (one o f) = (tag_in kind (one_no o) ≡ Some (OverOne o)) × Allowed kind f
Allowed kind (two o f g) = (tag_in kind (two_no o) ≡ Some (OverTwo o)) × Allowed kind f × Allowed kind g

-- The requirement is within the kind's limits.
pub record Fits (kind : Kind) (f : Requirement) : Type 0 where
  pub allowed : Allowed kind f
  pub nodes : nodes_of f ≤ node_limit kind
  pub depth : depth_of f ≤ depth_limit kind
