-- When two judgings answer alike, and the code that is judged in the place of a requirement's own.
-- Assumes nothing: these are definitions.
use Rattle.std.specs.Prelude.{ℕ, ◌≡◌, Bool, List, take}
use Rattle.coding.specs.Code.{code_at}
use Rattle.coding.specs.Room.{stored}
use Rattle.requirement.specs.Reading.{parsed}
use Rattle.translate.specs.Writing.{untranslated, translation, translated}

-- Two verdicts h, two numbers of findings c and two lists after l are the same.
pub record Alike (h h₁ : Bool) (c c₁ : ℕ) (l l₁ : List ℕ) : Type 0 where
  pub verdict : h ≡ h₁
  pub count : c ≡ c₁
  pub list : l ≡ l₁

-- The first n bytes of the buffer `out` after the code s was translated into it, by translating's own promise.
abbrev pub first_written : List ℕ → List ℕ → ℕ → List ℕ
first_written s out n = take n (stored (translated s out) out (translation (parsed untranslated (code_at s 0))))
