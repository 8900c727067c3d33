-- The promise of translating leaves no choice: two answers and buffers that satisfy it are equal.
-- Assumes nothing.
use mathlib.Core.Path.{◌≡◌}
use contract.Lifetimes.{Lfts}
use borrow.Fn.Kinds.{Dens, ended_of}
use denote.Triple.Clauses.{AtExit}
use Rattle.coding.specs.Refusal.{Answer}
use Rattle.coding.proofs.Unique.{one_storing}
use Rattle.translate.proofs.translate.Kinds as translate
use Rattle.translate.proofs.translate.Reads as translate_reads

pub translate_unique : (κs : Lfts 2) (r t : Answer) (a : Dens κs translate.ps) (e f : AtExit (ended_of 2 translate.ps translate.r) κs) →
    translate_reads.Post κs a r e → translate_reads.Post κs a t f → (r ≡ t) × (e.1.0.now ≡ f.1.0.now)
translate_unique κs r t a e f = one_storing _ _
