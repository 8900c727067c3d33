-- What the recursion in the code keeps of a tree: how many nodes may still come, how much of the depth was not used, and what follows.
-- Assumes nothing: these are definitions.
use Rattle.std.specs.Prelude.{ℕ, ◌-◌, Result, Ok, Err}
use Rattle.coding.specs.Refusal.{refused_at}
use Rattle.coding.specs.declared.Refusal.{Refusal}
use Rattle.coding.specs.Code.{Code, item, end, broken, Places}
use Rattle.coding.specs.declared.Cause.{Cause}
use Rattle.coding.specs.declared.Cause.TheVariants.{LeftOver}
use Rattle.requirement.specs.Requirement.{depth_of}
use Rattle.requirement.specs.Limits.{node_limit, depth_limit}
use Rattle.requirement.specs.Reading.{Got, got, refused, Check, nodes_and_depth}
use Rattle.requirement.specs.declared.Kind.{Kind}
use Rattle.requirement.specs.declared.tree.Part.{Part}

pub data Sum : Type 0 where
  sum : ℕ → ℕ → Code → Sum
  stopped : Cause → ℕ → Sum

abbrev pub summed : ℕ → Got → Sum
summed depth (got f left c) = sum left (depth - depth_of f) c
summed depth (refused cause place) = stopped cause place

abbrev pub part_sum : Places → Result Part Refusal → Sum
part_sum source (Ok part) = sum part.left part.spare (source.code part.next)
part_sum source (Err why) = stopped why.cause why.place

-- The same of a part that was lent to the recursion, where the recursion refuses nothing.
abbrev pub walked_sum : {T : Type 0} → Places → Result T Refusal → Part → Sum
walked_sum source (Ok done) part = part_sum source (Ok part)
walked_sum source (Err why) part = part_sum source (Err why)

abbrev pub whole_sum : Kind → Sum → Check
whole_sum kind (sum left spare (end p)) = nodes_and_depth (node_limit kind - left) (depth_limit kind - spare)
whole_sum kind (sum left spare (item p v c)) = refused_at LeftOver p
whole_sum kind (sum left spare (broken cause p)) = refused_at LeftOver p
whole_sum kind (stopped cause place) = refused_at cause place
