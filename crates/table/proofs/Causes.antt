-- Why a table or an inputs record is not read: by the refusals 1 and 2 alone.
-- Assumes nothing.
use Prim.Native.Nat.{ℕ, ◌+◌, ◌≤◌}
use native.Mathlib.Omega.{arith}
use mathlib.Core.Bool.{Bool, true, false}
use mathlib.Core.List.{List}
use lib.Dec.{ltb}
use Rattle.std.specs.Prelude.{Ok, Err}
use Rattle.coding.specs.Code.{Code, item, end, broken, code_at}
use Rattle.coding.specs.Refusal.{number_of, Answer, refused_at}
use Rattle.coding.specs.declared.Cause.TheVariants.{NotAllowed}
use Rattle.coding.proofs.Causes.{OneCode, code_one}
use Rattle.ranges.specs.Limits.{most_variables}
use Rattle.ranges.specs.Values.{pick}
use Rattle.ranges.specs.Order.{step_of}
use Rattle.ranges.specs.declared.Want.{Want}
use Rattle.ranges.specs.declared.Want.TheVariants.{Scans}
use Rattle.ranges.specs.declared.Step.TheVariants.{More, Last, NotAllowed as Bad}
use Rattle.table.specs.Table.{no_counts, role_of, test_says, ended, check, counts_from, tests_from}
use Rattle.table.specs.Table.{table_start, tested, table_grammar, inputs_grammar}
use Rattle.table.specs.declared.tests.Ruling.TheVariants.{Fine, Wrong, Behind}
use Rattle.table.proofs.Steps.{checks, tests, shows}

-- The numbers that a table or an inputs record is refused by.
pub data NotTable : ℕ → Type 0 where
  no_number : NotTable 1
  not_allowed : NotTable 2

-- What is refused is refused by one of these numbers.
abbrev pub NamedAnswer : Answer → Type 0
NamedAnswer (Ok n) = Unit {0}
NamedAnswer (Err why) = NotTable (number_of why.cause)

-- ---- the first look
named_check : (most : ℕ) (c : Code) (want : Want) (n : ℕ) → OneCode c → NamedAnswer (check most want n c)
unfolding check
named_check most (end p) want n o = no_number
named_check most (broken cause p) want n o = rw o no_number
named_check most (item p v c) want n o =
    elim (step_of most want v) as (λ t. NamedAnswer (checks most n p c t))
    [ More to ↦ named_check most c to (n + 1) o | Last ↦ last c | Bad ↦ not_allowed ]
  where
    last : (d : Code) → NamedAnswer (ended (n + 1) d)
    last (item q x d) = no_number
    last (end q) = tt
    last (broken cause q) = no_number

-- ---- the second look
named_tests : (most : ℕ) (counts : List ℕ) (c : Code) (want : Want) (a : Answer) → NamedAnswer a →
    NamedAnswer (tests_from most counts want c a)
unfolding tests_from
named_tests most counts (end p) want a h = h
named_tests most counts (broken cause p) want a h = h
named_tests most counts (item p v c) want a h =
    elim (test_says counts (role_of want) v)
    as (λ t. NamedAnswer (shows (tests most counts a c (step_of most want v)) p a t)) [
      | Fine ↦ elim (step_of most want v) as (λ t. NamedAnswer (tests most counts a c t))
          [ More to ↦ named_tests most counts c to a h | Last ↦ h | Bad ↦ h ]
      | Wrong ↦ not_allowed
      | Behind ↦ h
    ]

-- Any bytes, read as a table, and as an inputs record.
pub table_named : (most : ℕ) (s : List ℕ) → NamedAnswer (table_grammar most (code_at s 0))
unfolding table_grammar
table_named most s =
    go (check most table_start 0 (code_at s 0)) (named_check most (code_at s 0) table_start 0 (code_one s 0))
  where
    go : (a : Answer) → NamedAnswer a → NamedAnswer (tested most (code_at s 0) a)
    go (Ok n) h =
        named_tests most (counts_from most table_start no_counts (code_at s 0)) (code_at s 0) table_start (Ok n) h
    go (Err why) h = h

pub inputs_named : (inputs : ℕ) (s : List ℕ) → NamedAnswer (inputs_grammar inputs (code_at s 0))
unfolding inputs_grammar
inputs_named inputs s = go (ltb most_variables inputs)
  where
    go : (t : Bool) → NamedAnswer (pick t (refused_at NotAllowed 0) (check 0 (Scans inputs) 0 (code_at s 0)))
    go true = not_allowed
    go false = named_check 0 (code_at s 0) (Scans inputs) 0 (code_one s 0)

pub table_most : {n : ℕ} → NotTable n → (1 ≤ n) × (n ≤ 2)
table_most no_number = (omega arith, omega arith)
table_most not_allowed = (omega arith, omega arith)
