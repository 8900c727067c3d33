-- The promises of the readers and the writers leave no choice: two answers and buffers that satisfy one are equal.
-- Assumes nothing.
use mathlib.Core.Path.{◌≡◌}
use contract.Lifetimes.{Lfts}
use borrow.Fn.Kinds.{Dens, ended_of}
use denote.Triple.Clauses.{AtExit}
use Rattle.coding.specs.Refusal.{Answer}
use Rattle.coding.proofs.Unique.{one_storing}
use Rattle.table.proofs.read_table.Kinds as read_table
use Rattle.table.proofs.read_table.Reads as read_table_reads
use Rattle.table.proofs.write_table.Kinds as write_table
use Rattle.table.proofs.write_table.Reads as write_table_reads
use Rattle.table.proofs.read_inputs.Kinds as read_inputs
use Rattle.table.proofs.read_inputs.Reads as read_inputs_reads
use Rattle.table.proofs.write_inputs.Kinds as write_inputs
use Rattle.table.proofs.write_inputs.Reads as write_inputs_reads

module _ (κs : Lfts 2) (r t : Answer) where
  pub read_table_unique : (a : Dens κs read_table.ps) (e f : AtExit (ended_of 2 read_table.ps read_table.r) κs) →
      read_table_reads.Post κs a r e → read_table_reads.Post κs a t f → (r ≡ t) × (e.1.0.now ≡ f.1.0.now)
  read_table_unique a e f = one_storing _ _

  pub write_table_unique : (a : Dens κs write_table.ps) (e f : AtExit (ended_of 2 write_table.ps write_table.r) κs) →
      write_table_reads.Post κs a r e → write_table_reads.Post κs a t f → (r ≡ t) × (e.1.0.now ≡ f.1.0.now)
  write_table_unique a e f = one_storing _ _

  pub read_inputs_unique : (a : Dens κs read_inputs.ps) (e f : AtExit (ended_of 2 read_inputs.ps read_inputs.r) κs) →
      read_inputs_reads.Post κs a r e → read_inputs_reads.Post κs a t f → (r ≡ t) × (e.1.1.0.now ≡ f.1.1.0.now)
  read_inputs_unique a e f = one_storing _ _

  pub write_inputs_unique : (a : Dens κs write_inputs.ps) (e f : AtExit (ended_of 2 write_inputs.ps write_inputs.r) κs) →
      write_inputs_reads.Post κs a r e → write_inputs_reads.Post κs a t f → (r ≡ t) × (e.1.1.0.now ≡ f.1.1.0.now)
  write_inputs_unique a e f = one_storing _ _
