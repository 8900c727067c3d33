-- A state that the table allows stays one: by a step, by the read and by the write; and the start is one.
-- Assumes nothing.
use Prim.Native.Nat.{ℕ, ◌-◌, ◌≤◌, ◌<◌}
use mathlib.Core.Path.{◌≡◌, refl}
use mathlib.Core.Bool.{Bool, true, false}
use mathlib.Core.List.{List, []}
use native.Mathlib.Omega.{arith}
use native.Mathlib.Decide.{ℕ_discrete}
use lib.ListN.{length, length-map, length-set, get_or-map}
use lib.Seq.{get_or-set_same, get_or-set_other}
use lib.Dec.{ltb, eqb}
use borrow.Author.Tests.{lt-ltb}
use Rattle.ranges.specs.Values.{pick}
use Rattle.lookups.specs.Structure.{Table}
use Rattle.structure.specs.Allowed.{OneOf}
use Rattle.controller.specs.State.{none, up, goes, timed, entering, stopped, record_at, with_record, raised, all_raised}
use Rattle.controller.specs.Rules.{updated, elapsed, waited, restarted}
use Rattle.controller.specs.declared.Process.{Process}
use Rattle.controller.specs.declared.Controller.{Controller}
use Rattle.controller.specs.declared.Action.{Action}
use Rattle.controller.specs.declared.Action.TheVariants.{Skip, End, Updates, Tout, Reset, StartP, StopP, Start, Set}
use Rattle.controller.specs.declared.Action.TheVariants.{Next, Stop, Err}
use Rattle.scan.specs.Scanning.{read_of, write_of}
use Rattle.invariants.specs.TableRows.{states_for, actions_for, test_for, row_at, There}
use Rattle.invariants.specs.Allows.{RecordAllowed, StateAllowed, RecordAllowed.stopped as is_stopped}
use Rattle.invariants.specs.Allows.{RecordAllowed.failed, RecordAllowed.active as is_active}
use Rattle.invariants.proofs.Acting.{Sent, nobody, sends, sent_of, send, own_of, of_timer, of_reset, Naming}
use Rattle.invariants.proofs.Acting.{none_named, start_named, stop_named, naming}
use Rattle.invariants.specs.Due.{guard_by, next_by, coded_by}
use Rattle.invariants.proofs.Stepping.{Plan, in_table, plan_by, step_by, step_is}
use Rattle.invariants.proofs.Sound.{Fine, Sound}
use Rattle.invariants.proofs.Planning.{Case, skipping, ending, acting, plan_case}

pub raised_length : (ps : List Process) → length (all_raised ps) ≡ length ps
unfolding all_raised
raised_length ps = length-map ps raised

raised_at : (ps : List Process) (p : ℕ) → record_at (all_raised ps) p ≡ raised (record_at ps p)
unfolding record_at all_raised raised entering
raised_at ps p = get_or-map raised ps (p - 1) stopped

module _ (t : Table) (s : Sound t) where
  -- ---- the own record after an action
  module _ (i : ℕ) (b : OneOf i (length t.processes)) (p : Process) where
    module _ (d : OneOf p.state (length (states_for t i))) where
      at_one : 1 ≤ length (actions_for t i p.state)
      at_one = s.bodies i p.state b d

      timer_allowed : (b₁ b₂ b₃ : Bool) (k : ℕ) → k ≤ length (actions_for t i p.state) → RecordAllowed t i p →
          RecordAllowed t i (of_timer b₁ b₂ b₃ p k [] stopped).own
      unfolding goes timed
      timer_allowed true b₂ b₃ k e h = is_active d at_one
      timer_allowed false true b₃ k e h = is_active d at_one
      timer_allowed false false true k e h = is_active d e
      timer_allowed false false false k e h = h

      reset_allowed : (b₁ : Bool) → RecordAllowed t i p → RecordAllowed t i (of_reset b₁ p [] stopped).own
      unfolding goes timed
      reset_allowed true h = h
      reset_allowed false h = is_active d at_one

      entered : (j : ℕ) → OneOf j (length (states_for t i)) → RecordAllowed t i (entering j 1)
      unfolding entering
      entered j e = is_active e (s.bodies i j b e)

      up_one : p.state < length (states_for t i) → OneOf (up p.state) (length (states_for t i))
      unfolding up
      up_one e = let m = s.states i b in rw (lt-ltb p.state 65535 (omega arith)) (omega arith)

      own_allowed : (a : Action) (k : ℕ) → Fine t i p.state a → k ≤ length (actions_for t i p.state) →
          RecordAllowed t i p → RecordAllowed t i (own_of a k p)
      unfolding own_of goes entering updated waited restarted
      own_allowed Skip k f e h = h
      own_allowed End k f e h = is_active d at_one
      own_allowed (Updates x u) k f e h = is_active d e
      own_allowed (Tout bound) k f e h =
          timer_allowed (eqb p.timer none) (ltb p.timer bound) (elapsed p.timer bound) k e h
      own_allowed Reset k f e h = reset_allowed (eqb p.timer none) h
      own_allowed (StartP x) k f e h = is_active d e
      own_allowed (StopP x) k f e h = is_active d e
      own_allowed Start k f e h = let m = s.states i b in entered 1 (omega arith)
      own_allowed (Set j) k f e h = entered j f
      own_allowed Next k f e h = entered (up p.state) (up_one f)
      own_allowed Stop k f e h = is_stopped refl
      own_allowed Err k f e h = failed refl

    next_allowed : (c : Controller) → There t i p.state p.action →
        next_by (test_for t) c (row_at t i p) ≤ length (actions_for t i p.state)
    unfolding next_by
    next_allowed c w = go (guard_by (test_for t) c.variables _ (row_at t i p).guard)
      where
        go : (x : Bool) →
            pick x (row_at t i p).next_if (row_at t i p).next_else ≤ length (actions_for t i p.state)
        go true = s.taken i p.state p.action w
        go false = s.other i p.state p.action w

    own_planned : (c : Controller) (x : Plan) → Case t i b p (next_by (test_for t) c) x → RecordAllowed t i p →
        RecordAllowed t i (own_of x.action x.next p)
    unfolding own_of goes
    own_planned c _ (skipping z) h = h
    own_planned c _ (ending d z) h = is_active d (s.bodies i p.state b d)
    own_planned c _ (acting w) h =
        let fine = s.fine i p.state p.action w in
        own_allowed w.state (coded_by (row_at t i p)) (next_by (test_for t) c (row_at t i p)) fine (next_allowed c w) h

  -- ---- the record of another process
  abbrev SentAllowed : Sent → Type 0
  SentAllowed nobody = Unit {0}
  SentAllowed (sends x r) = OneOf x (length t.processes) × RecordAllowed t x r

  pub first_allowed : (x : ℕ) → OneOf x (length t.processes) → RecordAllowed t x (entering 1 1)
  unfolding entering
  first_allowed x b =
      let m = s.states x b in let d : OneOf 1 (length (states_for t x)) = omega arith in is_active d (s.bodies x 1 b d)

  pub stopped_allowed : (x : ℕ) → RecordAllowed t x stopped
  unfolding entering
  stopped_allowed x = is_stopped refl

  sent_allowed : (p f : ℕ) (a : Action) → Naming a → Fine t p f a → SentAllowed (sent_of a)
  sent_allowed p f a (none_named e g k) h = rw e tt
  sent_allowed p f _ (start_named x) h = (h, first_allowed x h)
  sent_allowed p f _ (stop_named x) h = (h, stopped_allowed x)

  sent_planned : (c : Controller) (i : ℕ) (b : OneOf i (length t.processes)) (p : Process) (x : Plan) →
      Case t i b p (next_by (test_for t) c) x → SentAllowed (sent_of x.action)
  sent_planned c i b p _ (skipping z) = tt
  sent_planned c i b p _ (ending d z) = tt
  sent_planned c i b p _ (acting w) =
      let a = coded_by (row_at t i p) in
      sent_allowed i p.state a (naming a) (s.fine i p.state p.action w)

  -- ---- the whole state
  record RecordsAllowed (ps : List Process) : Type 0 where
    room : length t.processes ≤ length ps
    records : (p : ℕ) → OneOf p (length t.processes) → RecordAllowed t p (record_at ps p)

  store_fits : (ps : List Process) (x : ℕ) (r : Process) → RecordsAllowed ps → OneOf x (length t.processes) →
      RecordAllowed t x r → RecordsAllowed (with_record ps x r)
  unfolding record_at with_record
  store_fits ps x r h b k =
      record { room = rw (length-set ps (x - 1) r) h.room; records = λ p d. go p d (ℕ_discrete p x) }
    where
      go : (p : ℕ) → OneOf p (length t.processes) → Dec (p ≡ x) → RecordAllowed t p (record_at (with_record ps x r) p)
      go p d (yes e) = let room = h.room in rw (e, get_or-set_same ps (x - 1) r (entering 0 0) (omega arith)) k
      go p d (no n) = rw (get_or-set_other ps (x - 1) (p - 1) r (entering 0 0) (λ e. n (omega arith))) (h.records p d)

  send_fits : (w : Sent) (ps : List Process) → RecordsAllowed ps → SentAllowed w → RecordsAllowed (send w ps)
  unfolding send
  send_fits nobody ps h k = h
  send_fits (sends x r) ps h k = store_fits ps x r h k.0 k.1

  pub step_kept : (i : ℕ) (c : Controller) → OneOf i (length t.processes) → StateAllowed t c →
      StateAllowed t (step_by (in_table t) i c).state
  step_kept i c b h =
      let p = record_at c.processes i in
      let x = plan_by (in_table t) i c in
      let w = plan_case t i b p (next_by (test_for t) c) (h.records i b) in
      let f : RecordsAllowed c.processes = record { room = h.room; records = h.records } in
      let g = store_fits (send (sent_of x.action) c.processes) i (own_of x.action x.next p)
      (send_fits (sent_of x.action) c.processes f (sent_planned c i b p x w)) b (own_planned i b p c x w (h.records i b)) in
      rw (step_is (in_table t) i c) (record { room = g.room; records = g.records })

  raised_allowed : (p : ℕ) (r : Process) → RecordAllowed t p r → RecordAllowed t p (raised r)
  unfolding raised timed
  raised_allowed p r h = go (eqb r.timer none) h
    where
      go : (x : Bool) → RecordAllowed t p r → RecordAllowed t p (pick x r (timed r (up r.timer)))
      go true k = k
      go false (is_stopped e) = is_stopped e
      go false (failed e) = failed e
      go false (is_active d e) = is_active d e

  pub read_kept : (T I : List ℕ) (done : ℕ) (c : Controller) → StateAllowed t c → StateAllowed t (read_of T I done c)
  unfolding read_of
  read_kept T I done c h =
      record {
        room = rw (raised_length c.processes) h.room;
        records = λ p b. rw (raised_at c.processes p) (raised_allowed p (record_at c.processes p) (h.records p b));
      }

  pub write_kept : (T : List ℕ) (c : Controller) → StateAllowed t c → StateAllowed t (write_of T c)
  unfolding write_of
  write_kept T c h = record { room = h.room; records = h.records }
