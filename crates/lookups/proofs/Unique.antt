-- The promises of the lookups leave no choice: two answers that satisfy one are equal. Each is said of the function's own promise, `Post`.
-- Assumes nothing.
use Prim.Native.Nat.{ℕ}
use mathlib.Core.Path.{◌≡◌, sym, ◌∙◌}
use contract.Lifetimes.{Lfts}
use borrow.Fn.Kinds.{Dens, ended_of}
use denote.Triple.Clauses.{AtExit}
use Rattle.lookups.specs.declared.TestRow.{TestRow}
use Rattle.lookups.specs.declared.ActionRow.{ActionRow}
use Rattle.lookups.proofs.inputs.Kinds as inputs
use Rattle.lookups.proofs.inputs.Reads as inputs_reads
use Rattle.lookups.proofs.internals.Kinds as internals
use Rattle.lookups.proofs.internals.Reads as internals_reads
use Rattle.lookups.proofs.outputs.Kinds as outputs
use Rattle.lookups.proofs.outputs.Reads as outputs_reads
use Rattle.lookups.proofs.source.Kinds as source
use Rattle.lookups.proofs.source.Reads as source_reads
use Rattle.lookups.proofs.tests.Kinds as tests
use Rattle.lookups.proofs.tests.Reads as tests_reads
use Rattle.lookups.proofs.test.Kinds as test
use Rattle.lookups.proofs.test.Reads as test_reads
use Rattle.lookups.proofs.processes.Kinds as processes
use Rattle.lookups.proofs.processes.Reads as processes_reads
use Rattle.lookups.proofs.states.Kinds as states
use Rattle.lookups.proofs.states.Reads as states_reads
use Rattle.lookups.proofs.actions.Kinds as actions
use Rattle.lookups.proofs.actions.Reads as actions_reads
use Rattle.lookups.proofs.action.Kinds as action
use Rattle.lookups.proofs.action.Reads as action_reads
use Rattle.lookups.proofs.state_at.Kinds as state_at
use Rattle.lookups.proofs.state_at.Reads as state_at_reads
use Rattle.lookups.proofs.action_from.Kinds as action_from
use Rattle.lookups.proofs.action_from.Reads as action_from_reads
use Rattle.lookups.proofs.scans.Kinds as scans
use Rattle.lookups.proofs.scans.Reads as scans_reads
use Rattle.lookups.proofs.return_scan.Kinds as return_scan
use Rattle.lookups.proofs.return_scan.Reads as return_scan_reads
use Rattle.lookups.proofs.reading.Kinds as reading
use Rattle.lookups.proofs.reading.Reads as reading_reads

module _ (κs : Lfts 1) where
  pub inputs_unique : (r t : ℕ) (a : Dens κs inputs.ps) (e f : AtExit (ended_of 1 inputs.ps inputs.r) κs) →
      inputs_reads.Post κs a r e → inputs_reads.Post κs a t f → r ≡ t
  inputs_unique r t a e f p q = p ∙ sym q

  pub internals_unique : (r t : ℕ) (a : Dens κs internals.ps) (e f : AtExit (ended_of 1 internals.ps internals.r) κs) →
      internals_reads.Post κs a r e → internals_reads.Post κs a t f → r ≡ t
  internals_unique r t a e f p q = p ∙ sym q

  pub outputs_unique : (r t : ℕ) (a : Dens κs outputs.ps) (e f : AtExit (ended_of 1 outputs.ps outputs.r) κs) →
      outputs_reads.Post κs a r e → outputs_reads.Post κs a t f → r ≡ t
  outputs_unique r t a e f p q = p ∙ sym q

  pub source_unique : (r t : ℕ) (a : Dens κs source.ps) (e f : AtExit (ended_of 1 source.ps source.r) κs) →
      source_reads.Post κs a r e → source_reads.Post κs a t f → r ≡ t
  source_unique r t a e f p q = p ∙ sym q

  pub tests_unique : (r t : ℕ) (a : Dens κs tests.ps) (e f : AtExit (ended_of 1 tests.ps tests.r) κs) →
      tests_reads.Post κs a r e → tests_reads.Post κs a t f → r ≡ t
  tests_unique r t a e f p q = p ∙ sym q

  pub test_unique : (r t : TestRow) (a : Dens κs test.ps) (e f : AtExit (ended_of 1 test.ps test.r) κs) →
      test_reads.Post κs a r e → test_reads.Post κs a t f → r ≡ t
  test_unique r t a e f p q = p ∙ sym q

  pub processes_unique : (r t : ℕ) (a : Dens κs processes.ps) (e f : AtExit (ended_of 1 processes.ps processes.r) κs) →
      processes_reads.Post κs a r e → processes_reads.Post κs a t f → r ≡ t
  processes_unique r t a e f p q = p ∙ sym q

  pub states_unique : (r t : ℕ) (a : Dens κs states.ps) (e f : AtExit (ended_of 1 states.ps states.r) κs) →
      states_reads.Post κs a r e → states_reads.Post κs a t f → r ≡ t
  states_unique r t a e f p q = p ∙ sym q

  pub actions_unique : (r t : ℕ) (a : Dens κs actions.ps) (e f : AtExit (ended_of 1 actions.ps actions.r) κs) →
      actions_reads.Post κs a r e → actions_reads.Post κs a t f → r ≡ t
  actions_unique r t a e f p q = p ∙ sym q

  pub action_unique : (r t : ActionRow) (a : Dens κs action.ps) (e f : AtExit (ended_of 1 action.ps action.r) κs) →
      action_reads.Post κs a r e → action_reads.Post κs a t f → r ≡ t
  action_unique r t a e f p q = p ∙ sym q

  pub state_at_unique : (r t : ℕ) (a : Dens κs state_at.ps) (e f : AtExit (ended_of 1 state_at.ps state_at.r) κs) →
      state_at_reads.Post κs a r e → state_at_reads.Post κs a t f → r ≡ t
  state_at_unique r t a e f p q = p ∙ sym q

  pub action_from_unique : (r t : ActionRow) (a : Dens κs action_from.ps) (e f : AtExit (ended_of 1 action_from.ps action_from.r) κs) →
      action_from_reads.Post κs a r e → action_from_reads.Post κs a t f → r ≡ t
  action_from_unique r t a e f p q = p ∙ sym q

  pub scans_unique : (r t : ℕ) (a : Dens κs scans.ps) (e f : AtExit (ended_of 1 scans.ps scans.r) κs) →
      scans_reads.Post κs a r e → scans_reads.Post κs a t f → r ≡ t
  scans_unique r t a e f p q = p ∙ sym q

  pub return_scan_unique : (r t : ℕ) (a : Dens κs return_scan.ps) (e f : AtExit (ended_of 1 return_scan.ps return_scan.r) κs) →
      return_scan_reads.Post κs a r e → return_scan_reads.Post κs a t f → r ≡ t
  return_scan_unique r t a e f p q = p ∙ sym q

  pub reading_unique : (r t : ℕ) (a : Dens κs reading.ps) (e f : AtExit (ended_of 1 reading.ps reading.r) κs) →
      reading_reads.Post κs a r e → reading_reads.Post κs a t f → r ≡ t
  reading_unique r t a e f p q = p ∙ sym q
