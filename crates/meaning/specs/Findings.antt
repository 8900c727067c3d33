-- The findings of a requirement on a trace (briefing, demand 3: "every input position of the lasso at which the endless run, started there, does not meet
-- the requirement: each once, ascending, nothing else").
-- Assumes nothing: these are definitions.
use Rattle.std.specs.Prelude.{ℕ, suc, zero, ◌≤◌, ◌<◌, ◌≡◌, ◌↔◌, Bool, true, false}
use mathlib.Core.List.{List, [], ◌∷◌, Memᴰ}
use Rattle.requirement.specs.declared.Phase.TheVariants.{Input}
use Rattle.requirement.specs.Requirement.{Requirement}
use Rattle.meaning.specs.Meaning.{Holds}
use Rattle.meaning.specs.Trace.{Trace, endless}

-- Strictly ascending, and none below the bound.
abbrev pub Ascending : ℕ → List ℕ → Type 0
Ascending low [] = Unit
Ascending low (x ∷ xs) = (low ≤ x) × Ascending (suc x) xs

-- The list has, in ascending order, the Input positions at which the requirement fails.
pub record Findings (t : Trace) (f : Requirement) (found : List ℕ) : Type 0 where
  pub ascending : Ascending 0 found
  pub exactly : (i : ℕ) → Memᴰ i found ↔ ((i < t.len) × (t.phase_at i ≡ Input) × (¬ Holds (endless t) f i))

-- A position in front of a list, if the test says so.
abbrev pub put : Bool → ℕ → List ℕ → List ℕ
put true i l = i ∷ l
put false i l = l

-- The positions among the k from i on at which a test holds, ascending.
unfoldable pub select : (ℕ → Bool) → ℕ → ℕ → List ℕ
select b zero i = []
select b (suc k) i = put (b i) i (select b k (suc i))
