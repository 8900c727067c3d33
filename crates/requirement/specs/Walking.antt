-- A requirement walked node by node, as judging and translating go down it. For codes that were checked this finds the requirement that was read
-- (a theorem); it looks for no limit but the depth.
-- Assumes nothing: these are definitions.
use Rattle.std.specs.Prelude.{ℕ, zero, suc, List, Ok, Err}
use Rattle.requirement.specs.Requirement.{Requirement, atom, mark, one, two}
use Rattle.requirement.specs.Reading.{NodeAt, node_at}
use Rattle.requirement.specs.declared.Kind.{Kind}
use Rattle.requirement.specs.declared.One.{One}
use Rattle.requirement.specs.declared.Two.{Two}
use Rattle.requirement.specs.declared.Node.{Node}
use Rattle.requirement.specs.declared.Node.TheVariants.{Atom, Mark, OverOne, OverTwo}

-- A requirement and the place after its code, or that there is none.
pub data Walked : Type 0 where
  walked : Requirement → ℕ → Walked
  lost : Walked

abbrev pub over_one : One → Walked → Walked
over_one o (walked f next) = walked (one o f) next
over_one o lost = lost

abbrev pub with_second : Two → Requirement → Walked → Walked
with_second o f (walked g next) = walked (two o f g) next
with_second o f lost = lost

abbrev pub over_two : Two → (ℕ → Walked) → Walked → Walked
over_two o sub (walked f next) = with_second o f (sub next)
over_two o sub lost = lost

abbrev pub from_node : (ℕ → Walked) → Node → ℕ → Walked
from_node sub (Atom k) next = walked (atom k) next
from_node sub (Mark p) next = walked (mark p) next
from_node sub (OverOne o) next = over_one o (sub next)
from_node sub (OverTwo o) next = over_two o sub (sub next)

abbrev pub from_read : (ℕ → Walked) → NodeAt → Walked
from_read sub (Ok found) = from_node sub found.node found.next
from_read sub (Err why) = lost

-- The requirement at most `depth` deep whose code begins at a place.
unfoldable pub walk_at : Kind → ℕ → List ℕ → ℕ → Walked
walk_at kind zero s at = lost
walk_at kind (suc depth) s at = from_read (λ next. walk_at kind depth s next) (node_at kind s at)
