-- The program never prints 9, 10 or 11: what it prints is a refusal by 1 to 8, or the answer for an accepted input.
-- Assumes nothing.
use Prim.Native.Nat.{ℕ, ◌+◌}
use native.Mathlib.Omega.{arith}
use mathlib.Core.Path.{◌≡◌, refl}
use mathlib.Core.List.{List}
use lib.ListN.{length}
use lib.Dec.{ltb, leb}
use Rattle.run.specs.declared.Stop.TheVariants.{Halted, Refused}
use Rattle.run.specs.Running.{Ran, closes_at}
use Rattle.std.specs.Prelude.{Ok, Err}
use Rattle.coding.specs.Number.{number_at}
use Rattle.coding.specs.Code.{code_at}
use Rattle.coding.specs.Refusal.{number_of, NumberRead}
use Rattle.coding.proofs.Causes.{OneNumber, by_test, number_one}
use Rattle.requirement.proofs.Causes.{NamedParsed, parsed_named, requirement_most}
use Rattle.table.proofs.Causes.{table_most}
use Rattle.run.proofs.Causes.{NamedRan, run_named, run_most}
use Rattle.requirement.specs.Reading.{Parsed, whole, unread, parsed}
use Rattle.requirement.specs.declared.Kind.TheVariants.{Untranslated}
use Rattle.run.specs.Limits.{trace_room}
use Rattle.run.specs.Trace.{trace_bytes, numbers_in, run_of}
use Rattle.report.specs.Framing.{longest_input, with_third, with_second, with_first, framing_of, between, Framing}
use Rattle.coding.specs.Block.{block_at, BlockAt}
use Rattle.report.specs.Reporting.{OfRun, OfBlocks, Reports}
use Rattle.report.specs.MadeUp.{Names}
use Rattle.report.specs.Printed.{AcceptedInput, AnswerFor, Printed, refused, answered}
use Rattle.coding.specs.Block.{block_of}
use Rattle.report.proofs.Enough.{unread_stops, closed_goes}

-- ---- "a faulty length, a block cut short or left-over bytes is refusal 1"
abbrev OneBlock : BlockAt → Type 0
OneBlock (Ok block) = Unit {0}
OneBlock (Err why) = number_of why.cause ≡ 1

abbrev OneFramed : Framing → Type 0
OneFramed (Ok blocks) = Unit {0}
OneFramed (Err why) = number_of why.cause ≡ 1

module _ (s : List ℕ) where
  block_one : (at : ℕ) → OneBlock (block_at s at)
  unfolding block_at
  block_one at = go (number_at s at) (number_one s at)
    where
      go : (x : NumberRead) → OneNumber x → OneBlock (block_of s at x)
      go (Ok num) o = by_test OneBlock (leb (num.next + num.value) (length s)) _ _ tt refl
      go (Err why) o = o

  third_one : (a b c d : ℕ) (x : BlockAt) → OneBlock x → OneFramed (with_third s a b c d x)
  third_one a b c d (Ok block) o = by_test OneFramed (ltb block.end (length s)) _ _ refl tt
  third_one a b c d (Err why) o = o

  second_one : (a b : ℕ) (x : BlockAt) → OneBlock x → OneFramed (with_second s a b x)
  second_one a b (Ok block) o = third_one a b block.begin block.end (block_at s block.end) (block_one block.end)
  second_one a b (Err why) o = o

  first_one : (x : BlockAt) → OneBlock x → OneFramed (with_first s x)
  first_one (Ok block) o = second_one block.begin block.end (block_at s block.end) (block_one block.end)
  first_one (Err why) o = o

  pub framing_one : OneFramed (framing_of s)
  unfolding framing_of
  framing_one = by_test OneFramed (ltb longest_input (length s)) _ _ refl (first_one (block_at s 0) (block_one 0))

-- ---- by what the framing, the run and the requirement's reader answer
module _ (s text : List ℕ) where
  module _ (table inputs code : List ℕ) (blocks : Names s (framing_of s) table inputs code) where
    by_parsed : (n start : ℕ) → run_of trace_room table inputs ≡ closes_at n start →
        (x : Parsed) → parsed Untranslated (code_at code 0) ≡ x → NamedParsed x →
        OfRun (closes_at n start) (numbers_in table) (numbers_in inputs) code text → Printed s text
    by_parsed n start closes (whole f) e o r =
        answered
        (record {
          table = table;
          inputs = inputs;
          code = code;
          blocks = blocks;
          positions = n;
          start = start;
          closes = closes;
          requirement = f;
          reads = e;
        })
        (rw (closed_goes table inputs code n start closes f e) at r)
    by_parsed n start closes (unread cause place) e o r =
        let m = requirement_most o in
        refused cause place m.0 (omega (arith, m.1))
        (rw (unread_stops code (trace_bytes (numbers_in table) (numbers_in inputs) n) start cause place e) at r)

    by_run : (x : Ran) → run_of trace_room table inputs ≡ x → NamedRan x →
        OfRun x (numbers_in table) (numbers_in inputs) code text → Printed s text
    by_run (Ok closed) e o r =
        by_parsed closed.positions closed.start e (parsed Untranslated (code_at code 0)) refl (parsed_named Untranslated code) r
    by_run (Err (Halted cause scan process)) e o r = let m = run_most o in refused cause scan (omega (arith, m.0)) m.1 r
    by_run (Err (Refused why)) e o r = let m = table_most o in refused why.cause why.place m.0 (omega (arith, m.1)) r

  by_framed : (w : Framing) → framing_of s ≡ w → OneFramed w → Reports s w text → Printed s text
  by_framed (Err why) e o r = refused why.cause why.place (omega (arith, o)) (omega (arith, o)) r
  by_framed (Ok blocks) g o r =
      by_run (between blocks.table.begin blocks.table.end s) (between blocks.inputs.begin blocks.inputs.end s) (between blocks.requirement.begin blocks.requirement.end s) (rw g (refl, refl, refl))
      (run_of trace_room (between blocks.table.begin blocks.table.end s) (between blocks.inputs.begin blocks.inputs.end s)) refl
      (run_named trace_room (between blocks.table.begin blocks.table.end s) (between blocks.inputs.begin blocks.inputs.end s) (omega arith)) r

  -- The one statement: whatever is printed for an input is one of the two.
  pub printed : Reports s (framing_of s) text → Printed s text
  printed r = by_framed (framing_of s) refl (framing_one s) r

  -- The other way round: an accepted input is answered, and never refused.
  pub accepted_answered : (x : AcceptedInput s) → Reports s (framing_of s) text → AnswerFor x text
  accepted_answered x r =
      let closed = closed_goes x.table x.inputs x.code x.positions x.start x.closes in
      let goes = closed x.requirement x.reads in
      rw (x.closes, goes) at (of_blocks (framing_of s) x.blocks r)
    where
      of_blocks : (w : Framing) → Names s w x.table x.inputs x.code → Reports s w text →
          OfBlocks x.table x.inputs x.code text
      of_blocks (Err why) h r = absurd h
      of_blocks (Ok blocks) h r = rw (h.0, h.1, h.2) r
