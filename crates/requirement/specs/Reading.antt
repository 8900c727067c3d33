-- What a requirement's code is read as. Document 01, Numbers of refusal: "Codes are read left to right and the first fault counts,
-- at one byte in the order 1, 3, 4; then left-over bytes"
-- Assumes nothing: these are definitions.
use Rattle.std.specs.Prelude.{ℕ, zero, suc, ◌-◌, List, length, ltb, eqb, Option, Some, None, Result, Ok, Err}
use Rattle.coding.specs.Number.{pick, number_at}
use Rattle.coding.specs.Code.{Code, item, end, broken, values}
use Rattle.coding.specs.Refusal.{NumberRead, Answer, refused_at, accepted, refusal}
use Rattle.coding.specs.declared.Refusal.{Refusal}
use Rattle.coding.specs.declared.Told.{Told}
use Rattle.coding.specs.declared.Cause.{Cause}
use Rattle.coding.specs.declared.Cause.TheVariants.{CutShort, LeftOver, NoSuchNode, PastLimit}
use Rattle.requirement.specs.Requirement.{Requirement, atom, mark, one, two, nodes_of, depth_of}
use Rattle.requirement.specs.Limits.{node_limit, depth_limit, highest_atom, tag_in}
use Rattle.requirement.specs.declared.Kind.{Kind}
use Rattle.requirement.specs.declared.Tag.{Tag}
use Rattle.requirement.specs.declared.Tag.TheVariants.{Atom, Mark, OverOne, OverTwo}
use Rattle.requirement.specs.declared.Node.{Node}
use Rattle.requirement.specs.declared.Node.TheVariants.{Atom as AtomNode, Mark as MarkNode, OverOne as OneNode, OverTwo as TwoNode}
use Rattle.requirement.specs.declared.NodeRead.{NodeRead}
use Rattle.requirement.specs.declared.Checked.{Checked}

-- A requirement that stands at the head of a row, how many nodes may still come, and what follows it; or a refusal.
pub data Got : Type 0 where
  got : Requirement → ℕ → Code → Got
  refused : Cause → ℕ → Got

abbrev pub and_then : Got → (Requirement → ℕ → Code → Got) → Got
and_then (got f left c) k = k f left c
and_then (refused cause place) k = refused cause place

-- "0 atom and its number (0 to 31)"; "atom above 31" is refusal 3 at that number.
unfoldable pub atom_of : ℕ → Code → Got
atom_of left (item p v c) = pick (ltb highest_atom v) (refused NoSuchNode p) (got (atom v) left c)
atom_of left (end p) = refused CutShort p
atom_of left (broken cause p) = refused cause p

-- Past a limit: an unknown tag is 3 all the same, any other is 4.
abbrev pub past_of : Option Tag → Cause
past_of None = NoSuchNode
past_of (Some tag) = PastLimit

-- A node within the limits, by its tag; its operands, one level less deep, are read by `sub`.
abbrev pub by_tag : (ℕ → Code → Got) → ℕ → Option Tag → ℕ → Code → Got
by_tag sub p None left c = refused NoSuchNode p
by_tag sub p (Some Atom) left c = atom_of left c
by_tag sub p (Some (Mark m)) left c = got (mark m) left c
by_tag sub p (Some (OverOne o)) left c = and_then (sub left c) (λ f n d. got (one o f) n d)
by_tag sub p (Some (OverTwo o)) left c = and_then (sub left c) (λ f n d. and_then (sub n d) (λ g m e. got (two o f g) m e))

-- A requirement at most `depth` deep, where `left` nodes may still come. "node or depth limit passed, at that node's tag"
unfoldable pub tree_of : Kind → ℕ → ℕ → Code → Got
tree_of kind zero left (item p v c) = refused (past_of (tag_in kind v)) p
tree_of kind zero left (end p) = refused CutShort p
tree_of kind zero left (broken cause p) = refused cause p
tree_of kind (suc depth) left (item p v c) =
    pick (eqb left 0) (refused (past_of (tag_in kind v)) p) (by_tag (λ n d. tree_of kind depth n d) p (tag_in kind v) (left - 1) c)
tree_of kind (suc depth) left (end p) = refused CutShort p
tree_of kind (suc depth) left (broken cause p) = refused cause p

-- The requirement that a whole row is, or the refusal: nothing may be left over.
pub data Parsed : Type 0 where
  whole : Requirement → Parsed
  unread : Cause → ℕ → Parsed

abbrev pub whole_of : Got → Parsed
whole_of (got f left (end p)) = whole f
whole_of (got f left (item p v c)) = unread LeftOver p
whole_of (got f left (broken cause p)) = unread LeftOver p
whole_of (refused cause place) = unread cause place

unfoldable pub parsed : Kind → Code → Parsed
parsed kind c = whole_of (tree_of kind (depth_limit kind) (node_limit kind) c)

-- What a check answers: how many nodes, and how deep, for those who need them; or the refusal.
abbrev pub Check : Type 0
Check = Result Checked Refusal

abbrev pub nodes_and_depth : ℕ → ℕ → Check
nodes_and_depth nodes depth = Ok (record { nodes = nodes; depth = depth })

abbrev pub checked_of : Parsed → Check
checked_of (whole f) = nodes_and_depth (nodes_of f) (depth_of f)
checked_of (unread cause place) = refused_at cause place

unfoldable pub checked : Kind → Code → Check
checked kind c = checked_of (parsed kind c)

-- As the grammar of a reader and a writer: how many numbers an accepted code has.
abbrev pub counted : ℕ → Check → Answer
counted n (Ok sizes) = Ok n
counted n (Err why) = Err why

unfoldable pub grammar : Kind → Code → Answer
grammar kind c = counted (length (values c)) (checked kind c)

-- One node at a place of the bytes s, with the place after it; or the refusal.
abbrev pub NodeAt : Type 0
NodeAt = Result NodeRead Refusal

abbrev pub node_then : Node → ℕ → NodeAt
node_then node next = Ok (record { node = node; next = next })

abbrev pub atom_at : ℕ → NumberRead → NodeAt
atom_at at (Ok num) = pick (ltb highest_atom num.value) (refused_at NoSuchNode at) (node_then (AtomNode num.value) num.next)
atom_at at (Err why) = Err why

abbrev pub node_by : List ℕ → ℕ → ℕ → Option Tag → NodeAt
node_by s at next None = refused_at NoSuchNode at
node_by s at next (Some Atom) = atom_at next (number_at s next)
node_by s at next (Some (Mark p)) = node_then (MarkNode p) next
node_by s at next (Some (OverOne o)) = node_then (OneNode o) next
node_by s at next (Some (OverTwo o)) = node_then (TwoNode o) next

abbrev pub node_of : Kind → List ℕ → ℕ → NumberRead → NodeAt
node_of kind s at (Ok num) = node_by s at num.next (tag_in kind num.value)
node_of kind s at (Err why) = Err why

unfoldable pub node_at : Kind → List ℕ → ℕ → NodeAt
node_at kind s at = node_of kind s at (number_at s at)

-- A check's answer in the paper's numbers.
abbrev pub checked_told : Check → Told
checked_told (Ok sizes) = accepted sizes.nodes sizes.depth
checked_told (Err why) = refusal why.cause why.place
