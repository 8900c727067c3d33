-- The grammars of a table and of an inputs record are fair, so that reading and writing undo each other.
-- Assumes nothing.
use Prim.Native.Nat.{ℕ, ◌+◌}
use native.Mathlib.Omega.{arith}
use mathlib.Core.Path.{◌≡◌, sym, ◌∙◌}
use mathlib.Core.Bool.{Bool, true, false}
use lib.ListN.{length}
use lib.Dec.{ltb}
use Rattle.coding.specs.Refusal.{Answer, refused_at}
use Rattle.std.specs.Prelude.{Ok, Err}
use Rattle.coding.specs.Code.{Code, item, end, broken, values}
use Rattle.coding.specs.declared.Cause.TheVariants.{NotAllowed}
use Rattle.coding.proofs.Trips.{Clean}
use Rattle.coding.proofs.Grammars.{Fair}
use Rattle.ranges.specs.Limits.{most_variables}
use Rattle.ranges.specs.Values.{pick}
use Rattle.ranges.specs.Order.{step_of}
use Rattle.ranges.specs.declared.Want.{Want}
use Rattle.ranges.specs.declared.Want.TheVariants.{Scans}
use Rattle.ranges.specs.declared.Step.TheVariants.{More, Last, NotAllowed as Bad}
use Rattle.table.specs.Table.{no_counts, ended, check, counts_from, tests_from, table_start, tested, table_grammar, inputs_grammar}
use Rattle.table.proofs.Steps.{checks}
use Rattle.table.proofs.Alike.{alike, Follows, check_alike, counts_alike, tests_alike, tests_pass}

-- what the first look accepts is all numbers, as many as it counted
abbrev Counted : ℕ → Code → Answer → Type 0
Counted n c (Ok m) = (m ≡ n + length (values c)) × Clean c
Counted n c (Err why) = Unit {0}

counted : (most : ℕ) (c : Code) (want : Want) (n : ℕ) → Counted n c (check most want n c)
unfolding check
counted most (end p) want n = tt
counted most (broken cause p) want n = tt
counted most (item p v c) want n =
    elim (step_of most want v) as (λ t. Counted n (item p v c) (checks most n p c t))
    [ More to ↦ up (check most to (n + 1) c) (counted most c to (n + 1)) | Last ↦ last c | Bad ↦ tt ]
  where
    up : (a : Answer) → Counted (n + 1) c a → Counted n (item p v c) a
    up (Ok m) h = (omega arith, h.1)
    up (Err why) h = tt

    last : (d : Code) → Counted n (item p v d) (ended (n + 1) d)
    last (item q x d) = tt
    last (end q) = (omega arith, tt)
    last (broken cause q) = tt

-- The machine, whatever is wanted first.
pub fair_machine : (most : ℕ) (want : Want) → Fair (check most want 0)
fair_machine most want = record {
  counts = λ c n e. let h : Counted 0 c (Ok n) = rw e at (counted most c want 0) in omega arith;
  clean = λ c n e. let h : Counted 0 c (Ok n) = rw e at (counted most c want 0) in h.1;
  alike = λ c d n e l a.
      let h : Counted 0 c (Ok n) = rw a at (counted most c want 0) in
      rw a at (check_alike most (alike c d h.1 l e) want 0);
}

-- A table, by its first look and its second.
module _ (most : ℕ) where
  first_look : (c : Code) → Follows (table_grammar most c) (check most table_start 0 c)
  unfolding table_grammar
  first_look c = go (check most table_start 0 c)
    where
      go : (a : Answer) → Follows (tested most c a) a
      go (Ok n) = tests_pass most (counts_from most table_start no_counts c) (Ok n) c table_start
      go (Err why) = tt

  looked : (c : Code) (n : ℕ) → table_grammar most c ≡ Ok n → check most table_start 0 c ≡ Ok n
  looked c n e = rw e at (first_look c)

  second_look : (c : Code) (n : ℕ) → check most table_start 0 c ≡ Ok n → table_grammar most c ≡ tests_from most (counts_from most table_start no_counts c) table_start c (Ok n)
  unfolding table_grammar
  second_look c n h = rw h

  pub fair_table : Fair (table_grammar most)
  fair_table =
      let machine = fair_machine most table_start in
      record {
        counts = λ c n e. machine.counts c n (looked c n e);
        clean = λ c n e. machine.clean c n (looked c n e);
        alike = λ c d n e l a.
            let h = looked c n a in
            let k = machine.alike c d n e l h in
            let s = alike c d (machine.clean c n h) l e in
            let t : tests_from most (counts_from most table_start no_counts c) table_start c (Ok n) ≡ Ok n = sym (second_look c n h) ∙ a in
            second_look d n k ∙ rw (← counts_alike most s table_start no_counts) (rw t at (tests_alike most (counts_from most table_start no_counts c) (Ok n) s table_start));
      }

-- An inputs record, or none.
unless : (b : Bool) (p : ℕ) (grammar : Code → Answer) → Fair grammar → Fair (λ c. pick b (refused_at NotAllowed p) (grammar c))
unless true p grammar fair = record {
  counts = λ c n e. let z : ◌≡◌ {A = ℕ} 0 1 = cc in absurd (omega arith);
  clean = λ c n e. let z : ◌≡◌ {A = ℕ} 0 1 = cc in absurd (omega arith);
  alike = λ c d n e l a. a;
}
unless false p grammar fair = fair

pub fair_inputs : (inputs : ℕ) → Fair (inputs_grammar inputs)
unfolding inputs_grammar
fair_inputs inputs = unless (ltb most_variables inputs) 0 (check 0 (Scans inputs) 0) (fair_machine 0 (Scans inputs))
