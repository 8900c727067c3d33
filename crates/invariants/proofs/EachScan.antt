-- Each scan of a run whose states arise is a scan as it should be: from the state after scan k to the state after scan
-- k + 1.
-- Assumes nothing.
use Prim.Native.Nat.{ℕ, zero, suc, ◌+◌, ◌<◌, ◌≤◌}
use native.Mathlib.Omega.{arith}
use native.Mathlib.Decide.{dec_lt}
use mathlib.Core.Path.{◌≡◌, refl, ap, ◌∙◌}
use mathlib.Core.List.{List}
use lib.ListN.{length}
use Rattle.std.specs.Prelude.{Option, None, Some, Ok}
use Rattle.coding.specs.Code.{Code, code_at, values}
use Rattle.coding.specs.declared.Cause.{Cause}
use Rattle.ranges.specs.Limits.{most_processes}
use Rattle.requirement.specs.declared.Phase.{Phase}
use Rattle.requirement.specs.declared.Phase.TheVariants.{Input, Exe, Output}
use Rattle.table.specs.Table.{table_grammar}
use Rattle.lookups.specs.Places.{processes_of}
use Rattle.lookups.proofs.Structured.{joined}
use Rattle.structure.proofs.Whole.{accepted_is_allowed}
use Rattle.run.specs.Running.{recorded_move, closes_at}
use Rattle.run.specs.Trace.{numbers_in, run_of}
use Rattle.endless.specs.Recorded.{state_at, MovesOn}
use Rattle.endless.specs.Unrolled.{endless_state}
use Rattle.endless.proofs.Closed.{goes_on}
use Rattle.invariants.specs.Refusals.{Stops, action, Arises, AfterScan}
use Rattle.invariants.specs.Turns.{ScanOf, Scanned}
use Rattle.invariants.proofs.Running.{recorded_is_run, endless_is_run}
use Rattle.invariants.proofs.Going.{Says, says, scan_most, scans_rise}
use Rattle.invariants.proofs.Answered.{run_exactly}
use Rattle.invariants.proofs.NextState.{exe_or_output, input_or_output, same_scan_at, output_scan_at}
use Rattle.invariants.proofs.Turned.{scan_turns, between_outputs}

-- The first state at which so many scans are done, among those up to state l.
record First (T I : List ℕ) (k l : ℕ) : Type 0 where
  state : ℕ
  among : state ≤ l
  done : (state_at T I state).scan ≡ k
  sooner : (j : ℕ) → j < state → (state_at T I j).scan < k

module _ (T I : List ℕ) where
  -- A state that arises is come to by moves that go on.
  goes_unless : (j : ℕ) (g : Option Cause) → Says T (state_at T I j) g → ((cause : Cause) → ¬ Stops T I j cause) → g ≡ None
  goes_unless j None h n = refl
  goes_unless j (Some cause) h n = absurd (n cause (action h))

  moves_on : (l : ℕ) → Arises T I l → MovesOn T I 0 l
  moves_on l a j _ b =
      goes_unless j (recorded_move T I (state_at T I j)).stopped (says T (state_at T I j) I (state_at T I j).scan) (a j b)

  -- A scan is done at an Output.
  output_where : (j : ℕ) (p : Phase) → (state_at T I (suc j)).phase ≡ p →
      (state_at T I j).scan < (state_at T I (suc j)).scan → p ≡ Output
  output_where j Output e h = refl
  output_where j Input e h = absurd (omega (arith, same_scan_at (recorded_is_run T I) j (input_or_output e)))
  output_where j Exe e h = absurd (omega (arith, same_scan_at (recorded_is_run T I) j (exe_or_output e)))

  output_after : (k l : ℕ) → AfterScan T I k l → (state_at T I l).phase ≡ Output
  unfolding state_at
  output_after k zero a = refl
  output_after k (suc j) a =
      output_where j (state_at T I (suc j)).phase refl (omega (arith, a.sooner j (omega arith), a.done))

  -- Between the states after two scans in a row there is no other Output.
  none_between : (k l e : ℕ) → AfterScan T I k l → AfterScan T I (k + 1) e → (j : ℕ) → l < j → j < e →
      ¬ ((state_at T I j).phase ≡ Output)
  none_between k l e a b zero h i o = omega arith
  none_between k l e a b (suc j) h i o =
      let done = output_scan_at (recorded_is_run T I) j (moves_on e b.arises j (omega arith) (omega arith)) o in
      omega (arith, done, scans_rise T I l j (omega arith), a.done, b.sooner (suc j) i)

  in_order : (k l e : ℕ) → AfterScan T I k l → AfterScan T I (k + 1) e → l < e
  in_order k l e a b = go (dec_lt l e)
    where
      go : Dec (l < e) → l < e
      go (yes h) = h
      go (no h) = absurd (omega (arith, scans_rise T I e l (omega arith), a.done, b.done))

  -- ---- of each scan that is done there is the state after it
  first_with : (k l : ℕ) → k ≤ (state_at T I l).scan → First T I k l
  unfolding state_at
  first_with k zero h =
      record { state = 0; among = omega arith; done = omega arith; sooner = λ j b. absurd (omega arith) }
  first_with k (suc l) h = go (λ e. first_with k l e) (dec_lt (state_at T I l).scan k)
    where
      go : (k ≤ (state_at T I l).scan → First T I k l) → Dec ((state_at T I l).scan < k) → First T I k (suc l)
      go sooner (no e) =
          let f = sooner (omega arith) in let b = f.among in record { state = f.state; among = omega arith; done = f.done; sooner = f.sooner }
      go sooner (yes e) = record {
        state = suc l;
        among = omega arith;
        done = omega (arith, scan_most T I l);
        sooner = λ j b. omega (arith, scans_rise T I j l (omega arith));
      }

  found : (l : ℕ) → Arises T I l → (k : ℕ) → k ≤ (state_at T I l).scan → (i : ℕ) × AfterScan T I k i
  found l a k h =
      let f = first_with k l h in
      let b = f.among in
      (f.state, record { arises = λ j e. a j (omega arith); sooner = f.sooner; done = f.done })

  module _ (some : 1 ≤ processes_of T) (few : processes_of T < 65535) where
    next_scan : (k l e : ℕ) → AfterScan T I k l → AfterScan T I (k + 1) e → Scanned T I k
    next_scan k l e a b =
        let (write, scan, is) = between_outputs (recorded_is_run T I) some few l e (in_order k l e a b) (λ j _ c. moves_on e b.arises j (omega arith) c)
        (output_after k l a) (output_after (k + 1) e b) (none_between k l e a b) in
        record { read = l; write = write; begins = a; scan = scan; ends = rw is at b }

    -- Scan k + 1, where a state arises at which as many are done.
    pub each_scan : (l : ℕ) → Arises T I l → (k : ℕ) → k < (state_at T I l).scan → Scanned T I k
    each_scan l a k h =
        let (i, b) = found l a k (omega arith) in
        let (j, c) = found l a (k + 1) (omega arith) in
        next_scan k i j b c

-- "processes (1 to 8)"
process_count : (c : Code) (n : ℕ) → table_grammar most_processes c ≡ Ok n →
    (1 ≤ processes_of (values c)) × (processes_of (values c) < 65535)
process_count c n e =
    let (t, same, ok, _, _) = accepted_is_allowed most_processes (omega arith) c n e in
    let count : processes_of (values c) ≡ length t.processes = ap processes_of same ∙ (joined t).processes in
    let within = ok.process_count in
    (omega arith, omega arith)

-- So in every run of a table that the reader accepts, whether it closes or is stopped: each scan that is done.
pub accepted_scans : (c : Code) (n : ℕ) → table_grammar most_processes c ≡ Ok n → (I : List ℕ) (l : ℕ) →
    Arises (values c) I l → (k : ℕ) → k < (state_at (values c) I l).scan → Scanned (values c) I k
accepted_scans c n e I l a = let (some, few) = process_count c n e in each_scan (values c) I some few l a

-- And in the endless run of a run that closes, from every state that is the start or just after a write.
pub endless_scans : (room n start : ℕ) (table inputs : List ℕ) → run_of room table inputs ≡ closes_at n start →
    let T = numbers_in table in
    let state = endless_state T (numbers_in inputs) in
    (read : ℕ) → (state read).phase ≡ Output → (write : ℕ) × ScanOf T state read write
endless_scans room n start table inputs e read out =
    let ok = ((run_exactly room table inputs (closes_at n start) tt).0 e).0 in
    let (some, few) = process_count (code_at table 0) ok.table_numbers ok.table_read in
    scan_turns (endless_is_run (numbers_in table) (numbers_in inputs)) some few read (λ k _ _. goes_on room n start table inputs e k) out
