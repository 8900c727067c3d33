-- The promises of the functions leave no choice: two results that satisfy one are equal, and so are two traces. Each is said of the function's own promise, `Post`.
-- Assumes nothing.
use Prim.Native.Nat.{ℕ}
use mathlib.Core.Path.{◌≡◌, sym, ◌∙◌}
use contract.Lifetimes.{Lfts}
use borrow.Fn.Kinds.{Dens, ended_of}
use denote.Triple.Clauses.{AtExit}
use Rattle.controller.specs.declared.Controller.{Controller}
use Rattle.scan.proofs.next_of.Kinds as next_of
use Rattle.scan.proofs.next_of.Reads as next_of_reads
use Rattle.scan.proofs.read.Kinds as read
use Rattle.scan.proofs.read.Reads as read_reads
use Rattle.scan.proofs.write.Kinds as write
use Rattle.scan.proofs.write.Reads as write_reads
use Rattle.scan.proofs.put_position.Kinds as put_position
use Rattle.scan.proofs.put_position.Reads as put_position_reads

pub next_of_unique : (κs : Lfts 1) (r t : ℕ) (a : Dens κs next_of.ps) (e f : AtExit (ended_of 1 next_of.ps next_of.r) κs) →
    next_of_reads.Post κs a r e → next_of_reads.Post κs a t f → r ≡ t
next_of_unique κs r t a e f p q = p ∙ sym q

pub read_unique : (κs : Lfts 2) (r t : Controller) (a : Dens κs read.ps) (e f : AtExit (ended_of 2 read.ps read.r) κs) →
    read_reads.Post κs a r e → read_reads.Post κs a t f → r ≡ t
read_unique κs r t a e f p q = p ∙ sym q

pub write_unique : (κs : Lfts 1) (r t : Controller) (a : Dens κs write.ps) (e f : AtExit (ended_of 1 write.ps write.r) κs) →
    write_reads.Post κs a r e → write_reads.Post κs a t f → r ≡ t
write_unique κs r t a e f p q = p ∙ sym q

pub put_position_unique : (κs : Lfts 1) (r t : Unit {0}) (a : Dens κs put_position.ps) (e f : AtExit (ended_of 1 put_position.ps put_position.r) κs) →
    put_position_reads.Post κs a r e → put_position_reads.Post κs a t f → e.1.1.1.0.now ≡ f.1.1.1.0.now
put_position_unique κs r t a e f p q = p ∙ sym q
