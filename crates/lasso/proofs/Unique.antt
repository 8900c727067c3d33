-- The promises leave no choice: two answers that satisfy one are equal. Each is said of the function's own promise, `Post`.
-- Assumes nothing.
use Prim.Native.Nat.{ℕ}
use mathlib.Core.Path.{◌≡◌}
use mathlib.Core.Bool.{Bool}
use contract.Lifetimes.{Lfts}
use borrow.Fn.Kinds.{Dens, ended_of}
use denote.Triple.Clauses.{AtExit}
use Rattle.coding.specs.Refusal.{Answer}
use Rattle.coding.proofs.Unique.{one_answer}
use Rattle.lasso.proofs.phase_number.Kinds as phase_number
use Rattle.lasso.proofs.phase_number.Reads as phase_number_reads
use Rattle.lasso.proofs.phase_byte.Kinds as phase_byte
use Rattle.lasso.proofs.phase_byte.Reads as phase_byte_reads
use Rattle.lasso.proofs.atom_at.Kinds as atom_at
use Rattle.lasso.proofs.atom_at.Reads as atom_at_reads
use Rattle.lasso.proofs.check.Kinds as check
use Rattle.lasso.proofs.check.Reads as check_reads
use Rattle.lasso.proofs.count_inputs.Kinds as count_inputs
use Rattle.lasso.proofs.count_inputs.Reads as count_inputs_reads

pub phase_number_unique : (κs : Lfts 0) (r t : ℕ) (a : Dens κs phase_number.ps) (e f : AtExit (ended_of 0 phase_number.ps phase_number.r) κs) →
    phase_number_reads.Post κs a r e → phase_number_reads.Post κs a t f → r ≡ t
phase_number_unique κs r t a e f = one_answer

module _ (κs : Lfts 1) where
  pub phase_byte_unique : (r t : ℕ) (a : Dens κs phase_byte.ps) (e f : AtExit (ended_of 1 phase_byte.ps phase_byte.r) κs) →
      phase_byte_reads.Post κs a r e → phase_byte_reads.Post κs a t f → r ≡ t
  phase_byte_unique r t a e f = one_answer

  pub atom_at_unique : (r t : Bool) (a : Dens κs atom_at.ps) (e f : AtExit (ended_of 1 atom_at.ps atom_at.r) κs) →
      atom_at_reads.Post κs a r e → atom_at_reads.Post κs a t f → r ≡ t
  atom_at_unique r t a e f = one_answer

  pub check_unique : (r t : Answer) (a : Dens κs check.ps) (e f : AtExit (ended_of 1 check.ps check.r) κs) →
      check_reads.Post κs a r e → check_reads.Post κs a t f → r ≡ t
  check_unique r t a e f = one_answer

  pub count_inputs_unique : (r t : ℕ) (a : Dens κs count_inputs.ps) (e f : AtExit (ended_of 1 count_inputs.ps count_inputs.r) κs) →
      count_inputs_reads.Post κs a r e → count_inputs_reads.Post κs a t f → r ≡ t
  count_inputs_unique r t a e f = one_answer
