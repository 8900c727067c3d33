-- The right text for a table, inputs and a requirement that are accepted, by the rules of the actions and the meaning
-- of the requirement alone.
-- Assumes nothing: these are definitions.
use Rattle.std.specs.Prelude.{ℕ, ◌≡◌, Bool, List}
use Rattle.requirement.specs.Requirement.{Requirement}
use Rattle.run.specs.Trace.{numbers_in}
use Rattle.endless.specs.ByTheRules.{ByTheRules}
use Rattle.report.specs.Lines.{answer_lines}

-- The lines say the verdict of requirement f, and its findings among the n positions, on the endless run that the rules
-- give for these bytes.
pub record RightText (table inputs : List ℕ) (f : Requirement) (n start : ℕ) (text : List ℕ) : Type 0 where
  pub holds : Bool
  pub found : List ℕ
  pub right : ByTheRules (numbers_in table) (numbers_in inputs) f n holds found
  pub lines : text ≡ answer_lines n start holds found
