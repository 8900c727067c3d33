-- The promises leave no choice: two results that satisfy one are equal. Each is said of the function's own promise, `Post`.
-- Assumes nothing.
use mathlib.Core.Path.{◌≡◌, sym, ◌∙◌}
use mathlib.Core.Bool.{Bool}
use contract.Lifetimes.{Lfts}
use borrow.Fn.Kinds.{Dens, ended_of}
use denote.Triple.Clauses.{AtExit}
use Rattle.ranges.specs.declared.Step.{Step}
use Rattle.ranges.proofs.allowed.between.Kinds as between
use Rattle.ranges.proofs.allowed.between.Reads as between_reads
use Rattle.ranges.proofs.allowed.total_ok.Kinds as total_ok
use Rattle.ranges.proofs.allowed.total_ok.Reads as total_ok_reads
use Rattle.ranges.proofs.allowed.is_internal.Kinds as is_internal_lem
use Rattle.ranges.proofs.allowed.is_internal.Reads as is_internal_reads
use Rattle.ranges.proofs.allowed.is_variable.Kinds as is_variable_lem
use Rattle.ranges.proofs.allowed.is_variable.Reads as is_variable_reads
use Rattle.ranges.proofs.allowed.test_a_ok.Kinds as test_a_ok
use Rattle.ranges.proofs.allowed.test_a_ok.Reads as test_a_ok_reads
use Rattle.ranges.proofs.allowed.op_ok.Kinds as op_ok
use Rattle.ranges.proofs.allowed.op_ok.Reads as op_ok_reads
use Rattle.ranges.proofs.allowed.x_ok.Kinds as x_ok
use Rattle.ranges.proofs.allowed.x_ok.Reads as x_ok_reads
use Rattle.ranges.proofs.allowed.y_ok.Kinds as y_ok
use Rattle.ranges.proofs.allowed.y_ok.Reads as y_ok_reads
use Rattle.ranges.proofs.allowed.uses_nexts.Kinds as uses_nexts
use Rattle.ranges.proofs.allowed.uses_nexts.Reads as uses_nexts_reads
use Rattle.ranges.proofs.allowed.guard_ok.Kinds as guard_ok
use Rattle.ranges.proofs.allowed.guard_ok.Reads as guard_ok_reads
use Rattle.ranges.proofs.allowed.uses_else.Kinds as uses_else
use Rattle.ranges.proofs.allowed.uses_else.Reads as uses_else_reads
use Rattle.ranges.proofs.allowed.next_ok.Kinds as next_ok
use Rattle.ranges.proofs.allowed.next_ok.Reads as next_ok_reads
use Rattle.ranges.proofs.advance.Kinds as advance
use Rattle.ranges.proofs.advance.Reads as advance_reads

module _ (κs : Lfts 0) where
  pub between_unique : (r t : Bool) (a : Dens κs between.ps) (e f : AtExit (ended_of 0 between.ps between.r) κs) →
      between_reads.Post κs a r e → between_reads.Post κs a t f → r ≡ t
  between_unique r t a e f p q = p ∙ sym q

  pub total_ok_unique : (r t : Bool) (a : Dens κs total_ok.ps) (e f : AtExit (ended_of 0 total_ok.ps total_ok.r) κs) →
      total_ok_reads.Post κs a r e → total_ok_reads.Post κs a t f → r ≡ t
  total_ok_unique r t a e f p q = p ∙ sym q

  pub is_internal_unique : (r t : Bool) (a : Dens κs is_internal_lem.ps) (e f : AtExit (ended_of 0 is_internal_lem.ps is_internal_lem.r) κs) →
      is_internal_reads.Post κs a r e → is_internal_reads.Post κs a t f → r ≡ t
  is_internal_unique r t a e f p q = p ∙ sym q

  pub is_variable_unique : (r t : Bool) (a : Dens κs is_variable_lem.ps) (e f : AtExit (ended_of 0 is_variable_lem.ps is_variable_lem.r) κs) →
      is_variable_reads.Post κs a r e → is_variable_reads.Post κs a t f → r ≡ t
  is_variable_unique r t a e f p q = p ∙ sym q

  pub test_a_ok_unique : (r t : Bool) (a : Dens κs test_a_ok.ps) (e f : AtExit (ended_of 0 test_a_ok.ps test_a_ok.r) κs) →
      test_a_ok_reads.Post κs a r e → test_a_ok_reads.Post κs a t f → r ≡ t
  test_a_ok_unique r t a e f p q = p ∙ sym q

  pub op_ok_unique : (r t : Bool) (a : Dens κs op_ok.ps) (e f : AtExit (ended_of 0 op_ok.ps op_ok.r) κs) →
      op_ok_reads.Post κs a r e → op_ok_reads.Post κs a t f → r ≡ t
  op_ok_unique r t a e f p q = p ∙ sym q

  pub x_ok_unique : (r t : Bool) (a : Dens κs x_ok.ps) (e f : AtExit (ended_of 0 x_ok.ps x_ok.r) κs) →
      x_ok_reads.Post κs a r e → x_ok_reads.Post κs a t f → r ≡ t
  x_ok_unique r t a e f p q = p ∙ sym q

  pub y_ok_unique : (r t : Bool) (a : Dens κs y_ok.ps) (e f : AtExit (ended_of 0 y_ok.ps y_ok.r) κs) →
      y_ok_reads.Post κs a r e → y_ok_reads.Post κs a t f → r ≡ t
  y_ok_unique r t a e f p q = p ∙ sym q

  pub uses_nexts_unique : (r t : Bool) (a : Dens κs uses_nexts.ps) (e f : AtExit (ended_of 0 uses_nexts.ps uses_nexts.r) κs) →
      uses_nexts_reads.Post κs a r e → uses_nexts_reads.Post κs a t f → r ≡ t
  uses_nexts_unique r t a e f p q = p ∙ sym q

  pub guard_ok_unique : (r t : Bool) (a : Dens κs guard_ok.ps) (e f : AtExit (ended_of 0 guard_ok.ps guard_ok.r) κs) →
      guard_ok_reads.Post κs a r e → guard_ok_reads.Post κs a t f → r ≡ t
  guard_ok_unique r t a e f p q = p ∙ sym q

  pub uses_else_unique : (r t : Bool) (a : Dens κs uses_else.ps) (e f : AtExit (ended_of 0 uses_else.ps uses_else.r) κs) →
      uses_else_reads.Post κs a r e → uses_else_reads.Post κs a t f → r ≡ t
  uses_else_unique r t a e f p q = p ∙ sym q

  pub next_ok_unique : (r t : Bool) (a : Dens κs next_ok.ps) (e f : AtExit (ended_of 0 next_ok.ps next_ok.r) κs) →
      next_ok_reads.Post κs a r e → next_ok_reads.Post κs a t f → r ≡ t
  next_ok_unique r t a e f p q = p ∙ sym q

  pub advance_unique : (r t : Step) (a : Dens κs advance.ps) (e f : AtExit (ended_of 0 advance.ps advance.r) κs) →
      advance_reads.Post κs a r e → advance_reads.Post κs a t f → r ≡ t
  advance_unique r t a e f p q = p ∙ sym q
