-- The promises of the C functions leave no choice: two answers, and what two calls leave in a lent buffer, are equal where they satisfy one.
-- Each is said of the function's own promise, `Post`.
-- Assumes nothing.
use mathlib.Core.Path.{◌≡◌, sym, ap, ◌∙◌}
use lib.ListN.{length}
use contract.Lifetimes.{Lfts}
use borrow.Fn.Kinds.{Dens, ended_of}
use denote.Triple.Clauses.{AtExit}
use Rattle.coding.specs.declared.Told.{Told}
use Rattle.lasso.specs.Bytes.{trace_of}
use Rattle.judge.specs.Judging.{checks_of, judged_told}
use Rattle.judge.proofs.Unique.{one_judging}
use Rattle.interface.specs.Calls.{kind_of}
use Rattle.interface.proofs.scancheck_judge.Kinds as judge
use Rattle.interface.proofs.scancheck_judge.Reads as judge_reads
use Rattle.interface.proofs.scancheck_read_number.Kinds as read_number
use Rattle.interface.proofs.scancheck_read_number.Reads as read_number_reads
use Rattle.interface.proofs.scancheck_write_number.Kinds as write_number
use Rattle.interface.proofs.scancheck_write_number.Reads as write_number_reads
use Rattle.interface.proofs.scancheck_check_requirement.Kinds as check_requirement
use Rattle.interface.proofs.scancheck_check_requirement.Reads as check_requirement_reads
use Rattle.interface.proofs.scancheck_read_requirement.Kinds as read_requirement
use Rattle.interface.proofs.scancheck_read_requirement.Reads as read_requirement_reads
use Rattle.interface.proofs.scancheck_write_requirement.Kinds as write_requirement
use Rattle.interface.proofs.scancheck_write_requirement.Reads as write_requirement_reads
use Rattle.interface.proofs.scancheck_read_table.Kinds as read_table
use Rattle.interface.proofs.scancheck_read_table.Reads as read_table_reads
use Rattle.interface.proofs.scancheck_write_table.Kinds as write_table
use Rattle.interface.proofs.scancheck_write_table.Reads as write_table_reads
use Rattle.interface.proofs.scancheck_read_inputs.Kinds as read_inputs
use Rattle.interface.proofs.scancheck_read_inputs.Reads as read_inputs_reads
use Rattle.interface.proofs.scancheck_write_inputs.Kinds as write_inputs
use Rattle.interface.proofs.scancheck_write_inputs.Reads as write_inputs_reads
use Rattle.interface.proofs.scancheck_run.Kinds as run
use Rattle.interface.proofs.scancheck_run.Reads as run_reads
use Rattle.interface.proofs.scancheck_translate.Kinds as translate
use Rattle.interface.proofs.scancheck_translate.Reads as translate_reads
use Rattle.interface.proofs.scancheck_find.Kinds as find
use Rattle.interface.proofs.scancheck_find.Reads as find_reads

module _ (κs : Lfts 1) (r t : Told) where
  pub read_number_unique : (a : Dens κs read_number.ps) (e f : AtExit (ended_of 1 read_number.ps read_number.r) κs) →
      read_number_reads.Post κs a r e → read_number_reads.Post κs a t f → r ≡ t
  read_number_unique a e f p q = p ∙ sym q

  pub write_number_unique : (a : Dens κs write_number.ps) (e f : AtExit (ended_of 1 write_number.ps write_number.r) κs) →
      write_number_reads.Post κs a r e → write_number_reads.Post κs a t f → (r ≡ t) × (e.1.0.now ≡ f.1.0.now)
  write_number_unique a e f p q = (p.0 ∙ sym q.0, p.1 ∙ sym q.1)

  pub check_requirement_unique : (a : Dens κs check_requirement.ps) (e f : AtExit (ended_of 1 check_requirement.ps check_requirement.r) κs) →
      check_requirement_reads.Post κs a r e → check_requirement_reads.Post κs a t f → r ≡ t
  check_requirement_unique a e f p q = p ∙ sym q

module _ (κs : Lfts 2) (r t : Told) where
  pub read_requirement_unique : (a : Dens κs read_requirement.ps) (e f : AtExit (ended_of 2 read_requirement.ps read_requirement.r) κs) →
      read_requirement_reads.Post κs a r e → read_requirement_reads.Post κs a t f → (r ≡ t) × (e.1.1.0.now ≡ f.1.1.0.now)
  read_requirement_unique a e f p q = (p.0 ∙ sym q.0, p.1 ∙ sym q.1)

  pub write_requirement_unique : (a : Dens κs write_requirement.ps) (e f : AtExit (ended_of 2 write_requirement.ps write_requirement.r) κs) →
      write_requirement_reads.Post κs a r e → write_requirement_reads.Post κs a t f → (r ≡ t) × (e.1.1.0.now ≡ f.1.1.0.now)
  write_requirement_unique a e f p q = (p.0 ∙ sym q.0, p.1 ∙ sym q.1)

  pub read_table_unique : (a : Dens κs read_table.ps) (e f : AtExit (ended_of 2 read_table.ps read_table.r) κs) →
      read_table_reads.Post κs a r e → read_table_reads.Post κs a t f → (r ≡ t) × (e.1.0.now ≡ f.1.0.now)
  read_table_unique a e f p q = (p.0 ∙ sym q.0, p.1 ∙ sym q.1)

  pub write_table_unique : (a : Dens κs write_table.ps) (e f : AtExit (ended_of 2 write_table.ps write_table.r) κs) →
      write_table_reads.Post κs a r e → write_table_reads.Post κs a t f → (r ≡ t) × (e.1.0.now ≡ f.1.0.now)
  write_table_unique a e f p q = (p.0 ∙ sym q.0, p.1 ∙ sym q.1)

  pub read_inputs_unique : (a : Dens κs read_inputs.ps) (e f : AtExit (ended_of 2 read_inputs.ps read_inputs.r) κs) →
      read_inputs_reads.Post κs a r e → read_inputs_reads.Post κs a t f → (r ≡ t) × (e.1.1.0.now ≡ f.1.1.0.now)
  read_inputs_unique a e f p q = (p.0 ∙ sym q.0, p.1 ∙ sym q.1)

  pub write_inputs_unique : (a : Dens κs write_inputs.ps) (e f : AtExit (ended_of 2 write_inputs.ps write_inputs.r) κs) →
      write_inputs_reads.Post κs a r e → write_inputs_reads.Post κs a t f → (r ≡ t) × (e.1.1.0.now ≡ f.1.1.0.now)
  write_inputs_unique a e f p q = (p.0 ∙ sym q.0, p.1 ∙ sym q.1)

  pub translate_unique : (a : Dens κs translate.ps) (e f : AtExit (ended_of 2 translate.ps translate.r) κs) →
      translate_reads.Post κs a r e → translate_reads.Post κs a t f → (r ≡ t) × (e.1.0.now ≡ f.1.0.now)
  translate_unique a e f p q = (p.0 ∙ sym q.0, p.1 ∙ sym q.1)

  pub find_unique : (a : Dens κs find.ps) (e f : AtExit (ended_of 2 find.ps find.r) κs) →
      find_reads.Post κs a r e → find_reads.Post κs a t f → r ≡ t
  find_unique a e f p q = p ∙ sym q

module _ (κs : Lfts 3) (r t : Told) where
  pub run_unique : (a : Dens κs run.ps) (e f : AtExit (ended_of 3 run.ps run.r) κs) →
      run_reads.Post κs a r e → run_reads.Post κs a t f → (r ≡ t) × (e.1.1.0.now ≡ f.1.1.0.now)
  run_unique a e f p q = (p.0 ∙ sym q.0, p.1 ∙ sym q.1)

module _ (κs : Lfts 4) (r t : Told) where
  pub judge_unique : (a : Dens κs judge.ps) (e f : AtExit (ended_of 4 judge.ps judge.r) κs) →
      judge_reads.Post κs a r e → judge_reads.Post κs a t f →
      (r ≡ t) × (e.1.1.1.1.0.now ≡ f.1.1.1.1.0.now) × (e.1.1.1.1.1.0.now ≡ f.1.1.1.1.1.0.now)
  judge_unique a e f p q =
      let trace = a.1.1.0.now in
      let start = a.1.1.1.0 in
      let work = a.1.1.1.1.0.now in
      let list = a.1.1.1.1.1.0.now in
      let u =
      one_judging (trace_of trace start) work list _ _ _ _ (checks_of (kind_of a.0) a.1.0.now trace start (length work) (length list)) p.0 q.0
      p.2 q.2 in
      (p.1 ∙ ap judged_told u.0 ∙ sym q.1, u.1, u.2)
