-- A table as it is made up, and its numbers "in this order" (document 01, Coding).
-- Assumes nothing: these are definitions.
use Rattle.std.specs.Prelude.{ℕ, List, [], ◌∷◌, ◌++◌, length}
use Rattle.lookups.specs.declared.TestRow.{TestRow}
use Rattle.lookups.specs.declared.ActionRow.{ActionRow}

-- Processes have states, and states have actions.
pub record Table : Type 0 where
  pub inputs : ℕ
  pub internals : ℕ
  pub sources : List ℕ
  pub tests : List TestRow
  pub processes : List (List (List ActionRow))

abbrev pub action_numbers : ActionRow → List ℕ
action_numbers r = r.op ∷ r.x ∷ r.y ∷ r.guard ∷ r.next_if ∷ r.next_else ∷ []

abbrev pub test_numbers : TestRow → List ℕ
test_numbers t = t.kind ∷ t.a ∷ t.b ∷ []

-- The numbers of each, one after another.
unfoldable pub in_order : {A : Type 0} → (A → List ℕ) → List A → List ℕ
in_order numbers [] = []
in_order numbers (x ∷ xs) = numbers x ++ in_order numbers xs

-- A state is the count of its actions and these; a process the count of its states and these.
unfoldable pub state_numbers : List ActionRow → List ℕ
state_numbers actions = length actions ∷ in_order action_numbers actions

unfoldable pub process_numbers : List (List ActionRow) → List ℕ
process_numbers states = length states ∷ in_order state_numbers states

unfoldable pub numbers_of : Table → List ℕ
numbers_of t =
    t.inputs ∷ t.internals ∷ length t.sources ∷ (t.sources ++
    (length t.tests ∷ (in_order test_numbers t.tests ++
    (length t.processes ∷ in_order process_numbers t.processes))))
