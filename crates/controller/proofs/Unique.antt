-- The promises of the functions leave no choice: two results that satisfy one are equal. Each is said of the function's own promise, `Post`.
-- Assumes nothing.
use Prim.Native.Nat.{ℕ}
use mathlib.Core.Path.{◌≡◌, sym, ◌∙◌}
use mathlib.Core.Bool.{Bool}
use mathlib.Core.List.{List}
use contract.Lifetimes.{Lfts}
use borrow.Fn.Kinds.{Dens, ended_of}
use denote.Triple.Clauses.{AtExit}
use Rattle.controller.specs.declared.Process.{Process}
use Rattle.controller.specs.declared.Controller.{Controller}
use Rattle.controller.specs.declared.Action.{Action}
use Rattle.controller.specs.declared.Acted.{Acted}
use Rattle.controller.proofs.Controller.act.Kinds as act
use Rattle.controller.proofs.Controller.act.Reads as act_reads
use Rattle.controller.proofs.Controller.process.Kinds as process
use Rattle.controller.proofs.Controller.process.Reads as process_reads
use Rattle.controller.proofs.Controller.raise_timers.Kinds as raise_timers
use Rattle.controller.proofs.Controller.raise_timers.Reads as raise_timers_reads
use Rattle.controller.proofs.Controller.states.Kinds as states
use Rattle.controller.proofs.Controller.states.Reads as states_reads
use Rattle.controller.proofs.Controller.with_counter.Kinds as with_counter
use Rattle.controller.proofs.Controller.with_counter.Reads as with_counter_reads
use Rattle.controller.proofs.Controller.same_as.Kinds as same_as
use Rattle.controller.proofs.Controller.seen_as.Kinds as seen_as
use Rattle.controller.proofs.Controller.same_as.Reads as same_as_reads
use Rattle.controller.proofs.Controller.seen_as.Reads as seen_as_reads
use Rattle.controller.proofs.at_start.Kinds as at_start
use Rattle.controller.proofs.at_start.Reads as at_start_reads
use Rattle.controller.proofs.action_of.Kinds as action_of
use Rattle.controller.proofs.action_of.Reads as action_of_reads
use Rattle.controller.proofs.value_at.Kinds as value_at
use Rattle.controller.proofs.value_at.Reads as value_at_reads
use Rattle.controller.proofs.tests.compares.Kinds as compares
use Rattle.controller.proofs.tests.holds.Kinds as holds
use Rattle.controller.proofs.tests.compares.Reads as compares_reads
use Rattle.controller.proofs.tests.holds.Reads as holds_reads

module _ (κs : Lfts 0) where
  pub act_unique : (r t : Acted) (a : Dens κs act.ps) (e f : AtExit (ended_of 0 act.ps act.r) κs) →
      act_reads.Post κs a r e → act_reads.Post κs a t f → r ≡ t
  act_unique r t a e f p q = p ∙ sym q

  pub process_unique : (r t : Process) (a : Dens κs process.ps) (e f : AtExit (ended_of 0 process.ps process.r) κs) →
      process_reads.Post κs a r e → process_reads.Post κs a t f → r ≡ t
  process_unique r t a e f p q = p ∙ sym q

  pub raise_timers_unique : (r t : Controller) (a : Dens κs raise_timers.ps) (e f : AtExit (ended_of 0 raise_timers.ps raise_timers.r) κs) →
      raise_timers_reads.Post κs a r e → raise_timers_reads.Post κs a t f → r ≡ t
  raise_timers_unique r t a e f p q = p ∙ sym q

  pub states_unique : (r t : List ℕ) (a : Dens κs states.ps) (e f : AtExit (ended_of 0 states.ps states.r) κs) →
      states_reads.Post κs a r e → states_reads.Post κs a t f → r ≡ t
  states_unique r t a e f p q = p ∙ sym q

  pub with_counter_unique : (r t : Controller) (a : Dens κs with_counter.ps) (e f : AtExit (ended_of 0 with_counter.ps with_counter.r) κs) →
      with_counter_reads.Post κs a r e → with_counter_reads.Post κs a t f → r ≡ t
  with_counter_unique r t a e f p q = p ∙ sym q

  pub same_as_unique : (r t : Bool) (a : Dens κs same_as.ps) (e f : AtExit (ended_of 0 same_as.ps same_as.r) κs) →
      same_as_reads.Post κs a r e → same_as_reads.Post κs a t f → r ≡ t
  same_as_unique r t a e f p q = p ∙ sym q

  pub seen_as_unique : (r t : Bool) (a : Dens κs seen_as.ps) (e f : AtExit (ended_of 0 seen_as.ps seen_as.r) κs) →
      seen_as_reads.Post κs a r e → seen_as_reads.Post κs a t f → r ≡ t
  seen_as_unique r t a e f p q = p ∙ sym q

  pub at_start_unique : (r t : Controller) (a : Dens κs at_start.ps) (e f : AtExit (ended_of 0 at_start.ps at_start.r) κs) →
      at_start_reads.Post κs a r e → at_start_reads.Post κs a t f → r ≡ t
  at_start_unique r t a e f p q = p ∙ sym q

  pub action_of_unique : (r t : Action) (a : Dens κs action_of.ps) (e f : AtExit (ended_of 0 action_of.ps action_of.r) κs) →
      action_of_reads.Post κs a r e → action_of_reads.Post κs a t f → r ≡ t
  action_of_unique r t a e f p q = p ∙ sym q

  pub compares_unique : (r t : Bool) (a : Dens κs compares.ps) (e f : AtExit (ended_of 0 compares.ps compares.r) κs) →
      compares_reads.Post κs a r e → compares_reads.Post κs a t f → r ≡ t
  compares_unique r t a e f p q = p ∙ sym q

  pub holds_unique : (r t : Bool) (a : Dens κs holds.ps) (e f : AtExit (ended_of 0 holds.ps holds.r) κs) →
      holds_reads.Post κs a r e → holds_reads.Post κs a t f → r ≡ t
  holds_unique r t a e f p q = p ∙ sym q

pub value_at_unique : (κs : Lfts 1) (r t : ℕ) (a : Dens κs value_at.ps) (e f : AtExit (ended_of 1 value_at.ps value_at.r) κs) →
    value_at_reads.Post κs a r e → value_at_reads.Post κs a t f → r ≡ t
value_at_unique κs r t a e f p q = p ∙ sym q
