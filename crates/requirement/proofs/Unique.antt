-- The promises leave no choice: two answers that satisfy one are equal, and so are two buffers. Each is said of the function's own promise, `Post`.
-- Assumes nothing.
use Prim.Native.Nat.{ℕ}
use mathlib.Core.Path.{◌≡◌}
use contract.Lifetimes.{Lfts}
use borrow.Fn.Kinds.{Dens, ended_of}
use denote.Triple.Clauses.{AtExit}
use denote.RattleType.{RattleType}
use denote.Param.Laws.{Laws, IsCopy}
use mir.Syntax.{Dict}
use Rattle.coding.specs.declared.source.Source.{Ghosts}
use Rattle.std.specs.declared.clone.Clone.{Ghosts as CloneGhosts}
use Rattle.std.specs.Prelude.{Option}
use Rattle.requirement.specs.Reading.{NodeAt, Check}
use Rattle.coding.specs.Refusal.{Answer}
use Rattle.coding.proofs.Unique.{one_answer, one_storing}
use Rattle.requirement.specs.declared.Tag.{Tag}
use Rattle.requirement.proofs.tag_of.Kinds as tag_of
use Rattle.requirement.proofs.tag_of.Reads as tag_of_reads
use Rattle.requirement.proofs.node_limit.Kinds as node_limit
use Rattle.requirement.proofs.node_limit.Reads as node_limit_reads
use Rattle.requirement.proofs.depth_limit.Kinds as depth_limit
use Rattle.requirement.proofs.depth_limit.Reads as depth_limit_reads
use Rattle.requirement.proofs.highest_tag.Kinds as highest_tag
use Rattle.requirement.proofs.highest_tag.Reads as highest_tag_reads
use Rattle.requirement.proofs.tag_in.Kinds as tag_in
use Rattle.requirement.proofs.tag_in.Reads as tag_in_reads
use Rattle.requirement.proofs.read_node.Kinds as read_node
use Rattle.requirement.proofs.read_node.Reads as read_node_reads
use Rattle.requirement.proofs.check.Kinds as check
use Rattle.requirement.proofs.check.Reads as check_reads
use Rattle.requirement.proofs.read.Kinds as read
use Rattle.requirement.proofs.read.Reads as read_reads
use Rattle.requirement.proofs.write.Kinds as write
use Rattle.requirement.proofs.write.Reads as write_reads

module _ (κs : Lfts 0) where
  pub tag_of_unique : (r t : Option Tag) (a : Dens κs tag_of.ps) (e f : AtExit (ended_of 0 tag_of.ps tag_of.r) κs) →
      tag_of_reads.Post κs a r e → tag_of_reads.Post κs a t f → r ≡ t
  tag_of_unique r t a e f = one_answer

  pub node_limit_unique : (r t : ℕ) (a : Dens κs node_limit.ps) (e f : AtExit (ended_of 0 node_limit.ps node_limit.r) κs) →
      node_limit_reads.Post κs a r e → node_limit_reads.Post κs a t f → r ≡ t
  node_limit_unique r t a e f = one_answer

  pub depth_limit_unique : (r t : ℕ) (a : Dens κs depth_limit.ps) (e f : AtExit (ended_of 0 depth_limit.ps depth_limit.r) κs) →
      depth_limit_reads.Post κs a r e → depth_limit_reads.Post κs a t f → r ≡ t
  depth_limit_unique r t a e f = one_answer

  pub highest_tag_unique : (r t : ℕ) (a : Dens κs highest_tag.ps) (e f : AtExit (ended_of 0 highest_tag.ps highest_tag.r) κs) →
      highest_tag_reads.Post κs a r e → highest_tag_reads.Post κs a t f → r ≡ t
  highest_tag_unique r t a e f = one_answer

  pub tag_in_unique : (r t : Option Tag) (a : Dens κs tag_in.ps) (e f : AtExit (ended_of 0 tag_in.ps tag_in.r) κs) →
      tag_in_reads.Post κs a r e → tag_in_reads.Post κs a t f → r ≡ t
  tag_in_unique r t a e f = one_answer

module _ (κs : Lfts 1) (r t : NodeAt) where
  pub read_node_unique : (a : Dens κs read_node.ps) (e f : AtExit (ended_of 1 read_node.ps read_node.r) κs) →
      read_node_reads.Post κs a r e → read_node_reads.Post κs a t f → r ≡ t
  read_node_unique a e f = one_answer

-- whatever the type of the source, and whatever its places
module _ (S : RattleType) (laws : Laws S) (copy : IsCopy S) (source : Ghosts S.Denot) (dict : Dict) (clone : CloneGhosts S.Denot) (clone_dict : Dict) (κs : Lfts 1) (r t : Check) where
  pub check_unique : (a : Dens κs (check.ps S laws copy)) (e f : AtExit (ended_of 1 (check.ps S laws copy) (check.r S laws copy)) κs) →
      check_reads.Post S laws copy source dict clone clone_dict κs a r e → check_reads.Post S laws copy source dict clone clone_dict κs a t f → r ≡ t
  check_unique a e f = one_answer

module _ (κs : Lfts 2) where
  pub read_unique : (r t : Answer) (a : Dens κs read.ps) (e f : AtExit (ended_of 2 read.ps read.r) κs) →
      read_reads.Post κs a r e → read_reads.Post κs a t f → (r ≡ t) × (e.1.1.0.now ≡ f.1.1.0.now)
  read_unique r t a e f = one_storing _ _

  pub write_unique : (r t : Answer) (a : Dens κs write.ps) (e f : AtExit (ended_of 2 write.ps write.r) κs) →
      write_reads.Post κs a r e → write_reads.Post κs a t f → (r ≡ t) × (e.1.1.0.now ≡ f.1.1.0.now)
  write_unique r t a e f = one_storing _ _
