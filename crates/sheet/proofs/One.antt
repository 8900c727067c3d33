-- The promises of the lookups leave no choice: two answers that satisfy one are equal. Each is said of the function's own promise, `Post`.
-- Assumes nothing.
use mathlib.Core.Path.{◌≡◌, sym, ◌∙◌}
use Prim.Native.Nat.{ℕ}
use mathlib.Core.List.{List}
use contract.Lifetimes.{Lfts}
use borrow.Fn.Kinds.{Dens, ended_of}
use denote.Ref.{Bor}
use denote.Triple.Clauses.{AtExit}
use Rattle.sheet.specs.Sheet.{Lookup}
use Rattle.sheet.proofs.find.Kinds as find
use Rattle.sheet.proofs.find.Reads as find_reads
use Rattle.sheet.proofs.body.Kinds as body
use Rattle.sheet.proofs.body.Reads as body_reads

module _ (κs : Lfts 2) where
  pub one_found : (r t : Lookup) (a : Dens κs find.ps) (e f : AtExit (ended_of 2 find.ps find.r) κs) → find_reads.Post κs a r e → find_reads.Post κs a t f → r ≡ t
  one_found r t a e f p q = p ∙ sym q

  -- the bytes, and where in memory they stand
  pub one_body : (r t : Bor (List ℕ)) (a : Dens κs body.ps) (e f : AtExit (ended_of 2 body.ps body.r) κs) → body_reads.Post κs a r e → body_reads.Post κs a t f →
      (r.now ≡ t.now) × (r.ref_ptr ≡ t.ref_ptr)
  one_body r t a e f p q = (p.0 ∙ sym q.0, λ i. ((p.1.0 ∙ sym q.1.0) i, (p.1.1 ∙ sym q.1.1) i))
