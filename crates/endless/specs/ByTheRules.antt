-- What the right verdict and the right findings are, said of the endless run of the rules alone: no trace, no lasso and
-- no row is named. Document 01, Meaning: "The verdict is taken at moment 0"; the briefing's demand 3: "every input
-- position of the lasso at which the endless run, started there, does not meet the requirement: each once, ascending,
-- nothing else". Position i of the lasso is moment i of that run.
-- Assumes nothing: these are definitions.
use Rattle.std.specs.Prelude.{ℕ, ◌<◌, ◌≡◌, ◌↔◌, Bool, true}
use mathlib.Core.List.{List, Memᴰ}
use Rattle.requirement.specs.declared.Phase.TheVariants.{Input}
use Rattle.requirement.specs.Requirement.{Requirement}
use Rattle.meaning.specs.Meaning.{Holds}
use Rattle.meaning.specs.Findings.{Ascending}
use Rattle.endless.specs.Unrolled.{rules_run}

-- The verdict, and the findings among the first n moments, of requirement f on the run that the rules give for a
-- table's numbers T and an inputs record's numbers I.
pub record ByTheRules (T I : List ℕ) (f : Requirement) (n : ℕ) (holds : Bool) (found : List ℕ) : Type 0 where
  pub verdict : (holds ≡ true) ↔ Holds (rules_run T I) f 0
  pub ascending : Ascending 0 found
  pub exactly : (i : ℕ) → Memᴰ i found ↔ ((i < n) × ((rules_run T I).phase i ≡ Input) × (¬ Holds (rules_run T I) f i))
