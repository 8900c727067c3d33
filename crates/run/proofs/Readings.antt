-- The numbers of a table and of an inputs record, read into room for any: the reader never wants for room, and what it leaves at the front are all the numbers.
-- Assumes nothing.
use Rattle.run.specs.declared.Stop.TheVariants.{Refused}
use Rattle.coding.specs.declared.Refusal.{Refusal}
use Prim.Native.Nat.{ℕ, ◌-◌, ◌≤◌, ◌<◌}
use mathlib.Core.Path.{◌≡◌, refl, sym, ◌∙◌}
use mathlib.Core.List.{List}
use native.Mathlib.Omega.{arith}
use lib.ListN.{length, take, get_or, length-replicate}
use borrow.Author.Tests.{lt-ltb, le-ltb}
use Rattle.coding.specs.Refusal.{Answer}
use Rattle.std.specs.Prelude.{Ok, Err}
use Rattle.coding.specs.Code.{Code, code_at}
use Rattle.coding.specs.Room.{over, settled, stored, read_by}
use Rattle.coding.specs.declared.Cause.TheVariants.{ShortBuffer}
use Rattle.coding.proofs.Bytes.{over_length}
use Rattle.coding.proofs.Rooms.{room_for}
use Rattle.coding.proofs.Grammars.{Fair, front}
use Rattle.ranges.specs.Limits.{most_processes}
use Rattle.table.specs.Table.{table_grammar, inputs_grammar}
use Rattle.table.proofs.Fair.{fair_table, fair_inputs}
use Rattle.structure.proofs.Sizes.{table_size, inputs_size}
use Rattle.run.specs.Limits.{trace_room}
use Rattle.run.specs.Running.{ran_of, Ran, run_refused}
use Rattle.run.specs.Trace.{numbers_in, by_inputs, run_of, left_in}
use Rattle.run.proofs.Clearing.{zeros}

roomy : (room : ℕ) (a : Answer) → ((n : ℕ) → a ≡ Ok n → n ≤ room) → settled room a ≡ a
roomy room (Ok n) most = sym (room_for room n (most n refl))
roomy room (Err why) most = refl

-- What stands after bytes s are read to the answer r and the elements e: the answer is the grammar's own, and the numbers are all there.
pub record Read (grammar : Code → Answer) (s : List ℕ) (r : Answer) (e : List ℕ) : Type 0 where
  pub refuses : (why : Refusal) → r ≡ Err why → grammar (code_at s 0) ≡ Err why
  pub accepts : (n : ℕ) → r ≡ Ok n → grammar (code_at s 0) ≡ Ok n
  pub inside : (n : ℕ) → r ≡ Ok n → n ≤ length e
  -- the code cuts off the front at a place less the start, which is 0
  pub all : (n : ℕ) → r ≡ Ok n → take (n - 0) e ≡ numbers_in s

-- By any grammar that accepts no more numbers than there is room for.
module _ (grammar : Code → Answer) (fair : Fair grammar) (most : ℕ) (fits : (c : Code) (n : ℕ) → grammar c ≡ Ok n → n ≤ most)
    (d : List ℕ) (room : length d ≡ most) (s : List ℕ) (r : Answer) (e : List ℕ) (read : (r ≡ read_by grammar s d) × (e ≡ stored r d (numbers_in s))) where
  as_grammar : r ≡ grammar (code_at s 0)
  as_grammar = read.0 ∙ roomy (length d) (grammar (code_at s 0)) (λ n g. rw room (fits (code_at s 0) n g))

  module _ (n : ℕ) (g : r ≡ Ok n) where
    few : n ≤ most
    few = fits (code_at s 0) n (sym as_grammar ∙ g)

    written : e ≡ over d 0 (numbers_in s)
    written = rw g at read.1

    in_front : take (n - 0) e ≡ numbers_in s
    in_front =
        let h = few in
        let z : n - 0 ≡ length (numbers_in s) = omega (arith, fair.counts (code_at s 0) n (sym as_grammar ∙ g)) in
        rw (z, written) (front d (numbers_in s) (omega (arith, room)))

  reads : Read grammar s r e
  reads =
      record {
        refuses = λ why g. sym as_grammar ∙ g;
        accepts = λ n g. sym as_grammar ∙ g;
        inside = λ n g. rw (written n g, over_length d 0 (numbers_in s), room) (few n g);
        all = in_front;
      }

module _ (s : List ℕ) (r : Answer) (e : List ℕ) where
  pub table_is_read : (r ≡ read_by (table_grammar most_processes) s (zeros 6348)) × (e ≡ stored r (zeros 6348) (numbers_in s)) → Read (table_grammar most_processes) s r e
  table_is_read = reads (table_grammar most_processes) (fair_table most_processes) 6348 table_size (zeros 6348) (length-replicate {A = ℕ} 6348 0) s r e

  pub inputs_are_read : (k : ℕ) → (r ≡ read_by (inputs_grammar k) s (zeros 43682)) × (e ≡ stored r (zeros 43682) (numbers_in s)) → Read (inputs_grammar k) s r e
  inputs_are_read k = reads (inputs_grammar k) (fair_inputs k) 43682 (inputs_size k) (zeros 43682) (length-replicate {A = ℕ} 43682 0) s r e

-- ---- the answers of a run by what was read
module _ (T s : List ℕ) (a : Answer) where
  pub inputs_refused : (why : Refusal) → a ≡ Err why → Err (Refused why) ≡ by_inputs T (numbers_in s) a
  inputs_refused why g = rw g

  pub inputs_read : (n : ℕ) → a ≡ Ok n → (I : List ℕ) → I ≡ numbers_in s → (r : Ran) (d e : List ℕ) → (r ≡ ran_of T I) × (e ≡ left_in r T I d) →
      (r ≡ by_inputs T (numbers_in s) a) × (e ≡ left_in r T (numbers_in s) d)
  inputs_read n g I same r d e h = (rw (g, ← same) h.0, rw (← same) h.1)

module _ (t s d : List ℕ) where
  abbrev Whole : Ran → List ℕ → Type 0
  Whole r e = (r ≡ run_of (length d) t s) × (e ≡ left_in r (numbers_in t) (numbers_in s) d)

  pub no_room : length d < trace_room → Whole (run_refused ShortBuffer trace_room) d
  unfolding run_of
  no_room h = (rw (lt-ltb _ _ h), refl)

  module _ (room : trace_room ≤ length d) where
    pub table_refused : (why : Refusal) → table_grammar most_processes (code_at t 0) ≡ Err why → Whole (Err (Refused why)) d
    unfolding run_of
    table_refused why g = (rw (le-ltb _ _ room, g), refl)

    pub table_read : (n : ℕ) → table_grammar most_processes (code_at t 0) ≡ Ok n → (T : List ℕ) → T ≡ numbers_in t → (r : Ran) (e : List ℕ) →
        (r ≡ by_inputs T (numbers_in s) (inputs_grammar (get_or T 0 0) (code_at s 0))) × (e ≡ left_in r T (numbers_in s) d) → Whole r e
    unfolding run_of
    table_read n g T same r e h = (rw (le-ltb _ _ room, g, ← same) h.0, rw (← same) h.1)
