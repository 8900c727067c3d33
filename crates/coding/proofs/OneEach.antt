-- The promises of the public functions leave no choice: two answers that satisfy one are equal, and so are two buffers.
-- Each is said of the function's own promise, `Post`.
-- Assumes nothing.
use Prim.Native.Nat.{ℕ}
use mathlib.Core.Path.{◌≡◌, sym, ◌∙◌}
use contract.Lifetimes.{Lfts}
use borrow.Fn.Kinds.{Dens, ended_of}
use denote.Triple.Clauses.{AtExit}
use denote.RattleType.{RattleType}
use denote.Param.Laws.{Laws, IsCopy}
use mir.Syntax.{Dict}
use Rattle.std.specs.declared.clone.Clone.{Ghosts}
use Rattle.coding.specs.declared.Refusal.{Refusal}
use Rattle.coding.specs.Refusal.{NumberRead, Answer}
use Rattle.coding.specs.Block.{BlockAt}
use Rattle.coding.proofs.Unique.{one_answer, one_storing}
use Rattle.coding.proofs.number_of.Kinds as number_of
use Rattle.coding.proofs.number_of.Reads as number_of_reads
use Rattle.coding.proofs.read_number.Kinds as read_number
use Rattle.coding.proofs.read_number.Reads as read_number_reads
use Rattle.coding.proofs.block_at.Kinds as block_at
use Rattle.coding.proofs.block_at.Reads as block_at_reads
use Rattle.coding.proofs.set_at.Kinds as set_at
use Rattle.coding.proofs.set_at.Reads as set_at_reads
use Rattle.coding.proofs.size_of.Kinds as size_of
use Rattle.coding.proofs.size_of.Reads as size_of_reads
use Rattle.coding.proofs.write_number.Kinds as write_number
use Rattle.coding.proofs.write_number.Reads as write_number_reads
use Rattle.coding.proofs.Cause.at.Kinds as at
use Rattle.coding.proofs.Cause.at.Reads as at_reads
use Rattle.coding.proofs.source.RefSliceU8Source.number_at.Kinds as byte_number_at
use Rattle.coding.proofs.source.RefSliceU8Source.number_at.Reads as byte_number_at_reads
use Rattle.coding.proofs.source.RefSliceU8Source.size.Kinds as byte_size
use Rattle.coding.proofs.source.RefSliceU8Source.size.Reads as byte_size_reads
use Rattle.coding.proofs.source.RefSliceU16Source.number_at.Kinds as number_at
use Rattle.coding.proofs.source.RefSliceU16Source.number_at.Reads as number_at_reads
use Rattle.coding.proofs.source.RefSliceU16Source.size.Kinds as size
use Rattle.coding.proofs.source.RefSliceU16Source.size.Reads as size_reads
use Rattle.coding.proofs.count_numbers.Kinds as count_numbers
use Rattle.coding.proofs.count_numbers.Reads as count_numbers_reads
use Rattle.coding.proofs.store_numbers.Kinds as store_numbers
use Rattle.coding.proofs.store_numbers.Reads as store_numbers_reads
use Rattle.coding.proofs.size_of_all.Kinds as size_of_all
use Rattle.coding.proofs.size_of_all.Reads as size_of_all_reads
use Rattle.coding.proofs.read_checked.Kinds as read_checked
use Rattle.coding.proofs.read_checked.Reads as read_checked_reads
use Rattle.coding.proofs.write_checked.Kinds as write_checked
use Rattle.coding.proofs.write_checked.Reads as write_checked_reads

module _ (κs : Lfts 0) where
  pub number_of_unique : (r t : ℕ) (a : Dens κs number_of.ps) (e f : AtExit (ended_of 0 number_of.ps number_of.r) κs) →
      number_of_reads.Post κs a r e → number_of_reads.Post κs a t f → r ≡ t
  number_of_unique r t a e f = one_answer

  pub at_unique : (r t : Refusal) (a : Dens κs at.ps) (e f : AtExit (ended_of 0 at.ps at.r) κs) →
      at_reads.Post κs a r e → at_reads.Post κs a t f → r ≡ t
  at_unique r t a e f = one_answer

  pub size_of_unique : (r t : ℕ) (a : Dens κs size_of.ps) (e f : AtExit (ended_of 0 size_of.ps size_of.r) κs) →
      size_of_reads.Post κs a r e → size_of_reads.Post κs a t f → r ≡ t
  size_of_unique r t a e f = one_answer

module _ (κs : Lfts 1) where
  pub read_number_unique : (r t : NumberRead) (a : Dens κs read_number.ps) (e f : AtExit (ended_of 1 read_number.ps read_number.r) κs) →
      read_number_reads.Post κs a r e → read_number_reads.Post κs a t f → r ≡ t
  read_number_unique r t a e f = one_answer

  pub block_at_unique : (r t : BlockAt) (a : Dens κs block_at.ps) (e f : AtExit (ended_of 1 block_at.ps block_at.r) κs) →
      block_at_reads.Post κs a r e → block_at_reads.Post κs a t f → r ≡ t
  block_at_unique r t a e f = one_answer

  pub byte_number_at_unique : (r t : NumberRead) (a : Dens κs byte_number_at.ps) (e f : AtExit (ended_of 1 byte_number_at.ps byte_number_at.r) κs) →
      byte_number_at_reads.Post κs a r e → byte_number_at_reads.Post κs a t f → r ≡ t
  byte_number_at_unique r t a e f = one_answer

  pub byte_size_unique : (r t : ℕ) (a : Dens κs byte_size.ps) (e f : AtExit (ended_of 1 byte_size.ps byte_size.r) κs) →
      byte_size_reads.Post κs a r e → byte_size_reads.Post κs a t f → r ≡ t
  byte_size_unique r t a e f = one_answer

  pub number_at_unique : (r t : NumberRead) (a : Dens κs number_at.ps) (e f : AtExit (ended_of 1 number_at.ps number_at.r) κs) →
      number_at_reads.Post κs a r e → number_at_reads.Post κs a t f → r ≡ t
  number_at_unique r t a e f = one_answer

  pub size_unique : (r t : ℕ) (a : Dens κs size.ps) (e f : AtExit (ended_of 1 size.ps size.r) κs) →
      size_reads.Post κs a r e → size_reads.Post κs a t f → r ≡ t
  size_unique r t a e f = one_answer

  pub write_number_unique : (r t : Answer) (a : Dens κs write_number.ps) (e f : AtExit (ended_of 1 write_number.ps write_number.r) κs) →
      write_number_reads.Post κs a r e → write_number_reads.Post κs a t f → (r ≡ t) × (e.1.0.now ≡ f.1.0.now)
  write_number_unique r t a e f = one_storing _ _

  pub count_numbers_unique : (r t : ℕ) (a : Dens κs count_numbers.ps) (e f : AtExit (ended_of 1 count_numbers.ps count_numbers.r) κs) →
      count_numbers_reads.Post κs a r e → count_numbers_reads.Post κs a t f → r ≡ t
  count_numbers_unique r t a e f = one_answer

  pub size_of_all_unique : (r t : ℕ) (a : Dens κs size_of_all.ps) (e f : AtExit (ended_of 1 size_of_all.ps size_of_all.r) κs) →
      size_of_all_reads.Post κs a r e → size_of_all_reads.Post κs a t f → r ≡ t
  size_of_all_unique r t a e f = one_answer

module _ (κs : Lfts 2) where
  pub store_numbers_unique : (r t : Unit {0}) (a : Dens κs store_numbers.ps) (e f : AtExit (ended_of 2 store_numbers.ps store_numbers.r) κs) →
      store_numbers_reads.Post κs a r e → store_numbers_reads.Post κs a t f → e.1.0.now ≡ f.1.0.now
  store_numbers_unique r t a e f = one_answer

  pub read_checked_unique : (r t : Answer) (a : Dens κs read_checked.ps) (e f : AtExit (ended_of 2 read_checked.ps read_checked.r) κs) →
      read_checked_reads.Post κs a r e → read_checked_reads.Post κs a t f → (r ≡ t) × (e.1.1.0.now ≡ f.1.1.0.now)
  read_checked_unique r t a e f = one_storing _ _

  pub write_checked_unique : (r t : Answer) (a : Dens κs write_checked.ps) (e f : AtExit (ended_of 2 write_checked.ps write_checked.r) κs) →
      write_checked_reads.Post κs a r e → write_checked_reads.Post κs a t f → (r ≡ t) × (e.1.1.0.now ≡ f.1.1.0.now)
  write_checked_unique r t a e f = one_storing _ _

module _ (T : RattleType) (L : Laws T) (C : IsCopy T) (K : Ghosts T.Denot) (D : Dict) (κs : Lfts 2) where
  pub set_at_unique : (r t : Unit {0}) (a : Dens κs (set_at.ps T L C)) (e f : AtExit (ended_of 2 (set_at.ps T L C) (set_at.r T L C)) κs) →
      set_at_reads.Post T L C K D κs a r e → set_at_reads.Post T L C K D κs a t f → e.0.now ≡ f.0.now
  set_at_unique r t a e f p q = p ∙ sym q
