-- The promise of a run leaves no choice: two answers and trace buffers that satisfy it are equal. So it is with the
-- refusal that a stop is told as.
-- Assumes nothing.
use mathlib.Core.Path.{◌≡◌, sym, ◌∙◌}
use contract.Lifetimes.{Lfts}
use borrow.Fn.Kinds.{Dens, ended_of}
use denote.Triple.Clauses.{AtExit}
use Rattle.run.specs.Running.{Ran}
use Rattle.run.proofs.run.Kinds as run
use Rattle.run.proofs.run.Reads as run_reads
use Rattle.run.proofs.Stop.told.Kinds as told
use Rattle.run.proofs.Stop.told.Reads as told_reads
use Rattle.coding.specs.declared.Refusal.{Refusal}

pub run_unique : (κs : Lfts 3) (r t : Ran) (a : Dens κs run.ps) (e f : AtExit (ended_of 3 run.ps run.r) κs) →
    run_reads.Post κs a r e → run_reads.Post κs a t f → (r ≡ t) × (e.1.1.0.now ≡ f.1.1.0.now)
run_unique κs r t a e f h k = let same : r ≡ t = h.0 ∙ sym k.0 in (same, h.1 ∙ rw same (sym k.1))

pub told_unique : (κs : Lfts 0) (r t : Refusal) (a : Dens κs told.ps) (e f : AtExit (ended_of 0 told.ps told.r) κs) →
    told_reads.Post κs a r e → told_reads.Post κs a t f → r ≡ t
told_unique κs r t a e f p q = p ∙ sym q
