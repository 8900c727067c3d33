-- What the two looks say of one number, by what the machine and the second look say of it; and where no number stands.
-- Assumes nothing.
use Rattle.std.specs.Prelude.{Err}
use Prim.Native.Nat.{ℕ, ◌+◌, ◌≤◌, ◌<◌}
use mathlib.Core.Path.{◌≡◌}
use mathlib.Core.List.{List}
use Rattle.coding.specs.declared.Refusal.{Refusal}
use Rattle.coding.specs.Refusal.{Answer, value_then, refused_at}
use Rattle.coding.specs.Code.{Code, item, Places, Turn, Turns}
use Rattle.coding.specs.declared.Cause.TheVariants.{NotAllowed}
use Rattle.ranges.specs.Order.{step_of}
use Rattle.ranges.specs.declared.Want.{Want}
use Rattle.ranges.specs.declared.Step.{Step}
use Rattle.ranges.specs.declared.Step.TheVariants.{More, Last, NotAllowed as Bad}
use Rattle.table.specs.declared.tests.Ruling.{Ruling}
use Rattle.table.specs.declared.tests.Ruling.TheVariants.{Fine, Wrong, Behind}
use Rattle.table.specs.Table.{role_of, noted, test_says, ended, check, counts_from, tests_from}

-- what a row says whose first number, at place p, leads to this step; and of a test, by what is said of it
abbrev pub checks : ℕ → ℕ → ℕ → Code → Step → Answer
checks most n p c t = elim t [ More to ↦ check most to (n + 1) c | Last ↦ ended (n + 1) c | Bad ↦ refused_at NotAllowed p ]

abbrev pub counts : ℕ → List ℕ → List ℕ → Code → Step → List ℕ
counts most before after c t = elim t [ More to ↦ counts_from most to after c | Last ↦ before | Bad ↦ before ]

abbrev pub tests : ℕ → List ℕ → Answer → Code → Step → Answer
tests most kept accepted c t = elim t [ More to ↦ tests_from most kept to c accepted | Last ↦ accepted | Bad ↦ accepted ]

abbrev pub shows : Answer → ℕ → Answer → Ruling → Answer
shows fine p accepted says = elim says [ Fine ↦ fine | Wrong ↦ refused_at NotAllowed p | Behind ↦ accepted ]

module _ (most : ℕ) (want : Want) (p v : ℕ) (c : Code) (t : Step) (e : t ≡ step_of most want v) where
  pub check_item : (n : ℕ) → checks most n p c t ≡ check most want n (item p v c)
  unfolding check
  check_item n = rw (check, ← e)

  pub counts_item : (kept : List ℕ) → counts most kept (noted (role_of want) v kept) c t ≡ counts_from most want kept (item p v c)
  unfolding counts_from
  counts_item kept = rw (counts_from, ← e)

  pub tests_item : (kept : List ℕ) (accepted : Answer) (says : Ruling) → says ≡ test_says kept (role_of want) v →
      shows (tests most kept accepted c t) p accepted says ≡ tests_from most kept want (item p v c) accepted
  unfolding tests_from
  tests_item kept accepted Fine f = rw (tests_from, ← f, ← e)
  tests_item kept accepted Wrong f = rw (tests_from, ← f)
  tests_item kept accepted Behind f = rw (tests_from, ← f)

-- what the number at a place says of the rest of the source
module _ (source : Places) (turns : Turns source) (at : ℕ) where
  pub turned : (v next : ℕ) → value_then v next ≡ source.number at →
      (source.code at ≡ item at v (source.code next)) × (at < next) × (next ≤ source.size)
  turned v next e = rw (← e) at (turns at)

  pub stopped : (why : Refusal) → Err why ≡ source.number at → Turn source at (Err why)
  stopped why e = rw (← e) at (turns at)
