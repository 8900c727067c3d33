-- Document 01, Coding: "A node is an atom, a mark, or an operator over one or two nodes." Requirements as trees of such nodes.
-- Assumes nothing: these are definitions.
use Rattle.std.specs.Prelude.{ℕ, suc, ◌+◌, max}
use Rattle.requirement.specs.declared.Phase.{Phase}
use Rattle.requirement.specs.declared.One.{One}
use Rattle.requirement.specs.declared.Two.{Two}

pub data Requirement : Type 0 where
  atom : ℕ → Requirement
  mark : Phase → Requirement
  one : One → Requirement → Requirement
  two : Two → Requirement → Requirement → Requirement

-- How many nodes a requirement has.
unfoldable pub nodes_of : Requirement → ℕ
nodes_of (atom k) = 1
nodes_of (mark p) = 1
nodes_of (one o f) = suc (nodes_of f)
nodes_of (two o f g) = suc (nodes_of f + nodes_of g)

-- "a lone atom has depth 1"
unfoldable pub depth_of : Requirement → ℕ
depth_of (atom k) = 1
depth_of (mark p) = 1
depth_of (one o f) = suc (depth_of f)
depth_of (two o f g) = suc (max (depth_of f) (depth_of g))
