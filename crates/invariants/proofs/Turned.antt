-- Every scan of a run is a read, a turn of each process in ascending order, of at most 64 actions, and a write.
-- Assumes nothing.
use Prim.Native.Nat.{ℕ, zero, suc, ◌+◌, ◌-◌, ◌<◌, ◌≤◌}
use native.Mathlib.Omega.{arith}
use native.Mathlib.Nat.{eq-or-lt_of_le}
use native.Mathlib.Decide.{dec_lt}
use mathlib.Core.Path.{◌≡◌, refl, ◌∙◌}
use mathlib.Core.Logic.{⊎_elim}
use mathlib.Core.List.{List}
use Rattle.std.specs.Prelude.{None}
use Rattle.requirement.specs.declared.Phase.{Phase}
use Rattle.requirement.specs.declared.Phase.TheVariants.{Input, Exe, Output}
use Rattle.lookups.specs.Places.{processes_of}
use Rattle.structure.specs.Allowed.{OneOf}
use Rattle.controller.specs.declared.Outcome.TheVariants.{Stays, Passes}
use Rattle.run.specs.Limits.{longest_turn}
use Rattle.run.specs.declared.Machine.{Machine}
use Rattle.endless.proofs.Phases.{Fit}
use Rattle.invariants.specs.Runs.{RunOf, move_at}
use Rattle.invariants.specs.Turns.{turn_at, outcome_at, Turn, Turns, none_left, turn, WithinScan, ScanOf}
use Rattle.invariants.proofs.Phased.{fits_always}
use Rattle.invariants.proofs.NextState.{exe_or_output, input_or_output, Stayed, Passed, acted_at, read_at}
use Rattle.invariants.proofs.NextState.{written_at, same_scan_at}

-- ---- what is left of a turn in which u actions are done
record Rest (T : List ℕ) (state : ℕ → Machine) (p u from to : ℕ) : Type 0 where
  some : from < to
  few : u + to ≤ from + longest_turn
  whose : (k : ℕ) → from ≤ k → k < to → turn_at state k ≡ p
  keeps : (k : ℕ) → from ≤ k → k + 1 < to → outcome_at T state k ≡ Stays
  passes : (k : ℕ) → k + 1 ≡ to → outcome_at T state k ≡ Passes
  counted : (k : ℕ) → from ≤ k → k < to → (state k).used ≡ u + (k - from)

whole_turn : {T : List ℕ} {state : ℕ → Machine} {p from to : ℕ} → Rest T state p 0 from to → Turn T state p from to
whole_turn r =
    let few = r.few in
    record {
      some = r.some;
      few = omega arith;
      whose = r.whose;
      keeps = r.keeps;
      passes = r.passes;
      counted = λ k a b. let c = r.counted k a b in omega arith;
    }

-- Something of each state from k on, if it is so of k and of each from the next on.
first_or_later : (P : ℕ → Type 0) (k i : ℕ) → k ≤ i → P k → (suc k ≤ i → P i) → P i
first_or_later P k i h one more = ⊎_elim (λ (e : k ≡ i). rw (← e) one) (λ (l : k < i). more l) (eq-or-lt_of_le h)

module _ (T : List ℕ) (state : ℕ → Machine) (p u k : ℕ) (whose : turn_at state k ≡ p) (used : (state k).used ≡ u) where
  -- The last action, and one before the rest.
  only_passes : u < longest_turn → outcome_at T state k ≡ Passes → Rest T state p u k (suc k)
  only_passes l e = record {
    some = omega arith;
    few = omega arith;
    whose = λ i a b. first_or_later (λ j. turn_at state j ≡ p) k i a whose (λ c. absurd (omega arith));
    keeps = λ i a b. absurd (omega arith);
    passes = λ i a. let q : i ≡ k = omega arith in rw q e;
    counted =
        λ i a b. first_or_later (λ j. (state j).used ≡ u + (j - k)) k i a (omega arith) (λ c. absurd (omega arith));
  }

  first_stays : (to : ℕ) → outcome_at T state k ≡ Stays → Rest T state p (u + 1) (suc k) to → Rest T state p u k to
  first_stays to e r =
      let some = r.some in
      let few = r.few in
      record {
        some = omega arith;
        few = omega arith;
        whose = λ i a b. first_or_later (λ j. turn_at state j ≡ p) k i a whose (λ c. r.whose i c b);
        keeps = λ i a b. first_or_later (λ j. outcome_at T state j ≡ Stays) k i a e (λ c. r.keeps i c b);
        passes = r.passes;
        counted =
            λ i a b. first_or_later (λ j. (state j).used ≡ u + (j - k)) k i a (omega arith) (λ c. let x = r.counted i c b in omega arith);
      }

-- ---- phases
-- A counter above 1 is of an Exe state, and an Output's counter is 0.
above_one : (p : Phase) (c u : ℕ) → Fit p c u → 1 < c → p ≡ Exe
above_one Input c u f h = absurd (omega arith)
above_one Exe c u f h = refl
above_one Output c u f h = absurd (omega arith)

at_output : (p : Phase) (c u : ℕ) → Fit p c u → p ≡ Output → c ≡ 0
at_output Input c u f e = absurd (input_or_output refl e)
at_output Exe c u f e = absurd (exe_or_output refl e)
at_output Output c u f e = f.0

-- One state further within the scan.
within_next : (state : ℕ → Machine) (read k : ℕ) → WithinScan state read k → ¬ ((state (suc k)).phase ≡ Output) →
    WithinScan state read (suc k)
within_next state read k w n j a b =
    ⊎_elim (λ (e : j ≡ suc k). rw e n) (λ (l : j < suc k). w j a (omega arith)) (eq-or-lt_of_le b)

module _ {T I : List ℕ} {taking : ℕ → ℕ} {state : ℕ → Machine} (r : RunOf T I taking state)
    (some : 1 ≤ processes_of T) (few : processes_of T < 65535) (read : ℕ)
    (on : (k : ℕ) → read ≤ k → WithinScan state read k → (move_at T I taking state k).stopped ≡ None) where
  -- ---- a turn, from a state in it on
  record TurnDone (p u k : ℕ) : Type 0 where
    next : ℕ
    rest : Rest T state p u k next
    within : WithinScan state read next
    counter : turn_at state next ≡ p + 1
    used : (state next).used ≡ 0

  turn_from : (left p u k : ℕ) → u + left ≡ longest_turn → read < k → WithinScan state read k → turn_at state k ≡ p →
      OneOf p (processes_of T) → (state k).used ≡ u → TurnDone p u k
  turn_from zero p u k e a w c o v =
      ⊎_elim
      (λ (s : Stayed T (state k) (state (suc k))). absurd (omega (arith, s.within)))
      (λ (s : Passed T (state k) (state (suc k))). absurd (omega (arith, s.within)))
      (acted_at r k few (rw c o) (on k (omega arith) w))
  turn_from (suc left) p u k e a w c o v =
      ⊎_elim
      (λ (s : Stayed T (state k) (state (suc k))).
      let x = within_next state read k w (exe_or_output s.phase) in
      let r = turn_from left p (u + 1) (suc k) (omega arith) (omega arith) x (s.counter ∙ c) o (omega (arith, s.used)) in
      record {
        next = r.next;
        rest = first_stays T state p u k c v r.next s.outcome r.rest;
        within = r.within;
        counter = r.counter;
        used = r.used;
      })
      (λ (s : Passed T (state k) (state (suc k))).
      record {
        next = suc k;
        rest = only_passes T state p u k c v (omega (arith, s.within)) s.outcome;
        within = within_next state read k w (exe_or_output s.phase);
        counter = omega (arith, s.counter);
        used = s.used;
      })
      (acted_at r k few (rw c o) (on k (omega arith) w))

  -- ---- the turns from process p on
  record TurnsDone (p k : ℕ) : Type 0 where
    write : ℕ
    turns : Turns T state p k write
    after : read < write
    within : WithinScan state read write
    counter : turn_at state write ≡ processes_of T + 1

  one_more : (p k : ℕ) → p ≤ processes_of T → (r : TurnDone p 0 k) → TurnsDone (p + 1) r.next → TurnsDone p k
  one_more p k h r s =
      record {
        write = s.write;
        turns = turn {p = p} {to = s.write} h (whole_turn r.rest) s.turns;
        after = s.after;
        within = s.within;
        counter = s.counter;
      }

  turns_from : (left p k : ℕ) → p + left ≡ processes_of T + 1 → 1 ≤ p → read < k → WithinScan state read k →
      turn_at state k ≡ p → (state k).used ≡ 0 → TurnsDone p k
  turns_from zero p k e o a w c v =
      record { write = k; turns = none_left {p = p} (omega arith); after = a; within = w; counter = omega arith }
  turns_from (suc left) p k e o a w c v =
      let r = turn_from longest_turn p 0 k (omega arith) a w c (o, omega arith) v in
      let one = r.rest.some in
      one_more p k (omega arith) r (turns_from left (p + 1) r.next (omega arith) (omega arith) (omega arith) r.within r.counter r.used)

  -- ---- the scans done
  same_along : (d : ℕ) → WithinScan state read (read + d) → (state (read + d)).scan ≡ (state read).scan
  same_along zero w = let e : read + 0 ≡ read = omega arith in rw e refl
  same_along (suc d) w =
      let e : read + suc d ≡ suc (read + d) = omega arith in
      rw e (same_scan_at r (read + d) (w (suc (read + d)) (omega arith) (omega arith)) ∙ same_along d (λ j a b. w j a (omega arith)))

  same_scan : (k : ℕ) → read ≤ k → WithinScan state read k → (state k).scan ≡ (state read).scan
  same_scan k a w =
      let e : read + (k - read) ≡ k = omega arith in rw e at (same_along (k - read) (λ j b c. w j b (omega arith)))

  -- From a state that is just after a write, or the start: if the moves go on as long as no other such state has come,
  -- they are a scan.
  pub scan_turns : (state read).phase ≡ Output → (write : ℕ) × ScanOf T state read write
  scan_turns out =
      let m = state read in
      let zero_there : turn_at state read ≡ 0 = at_output m.phase m.state.counter m.used (fits_always r read).fit out in
      let s = read_at r read zero_there in
      let first = within_next state read read (λ j a b. absurd (omega arith)) (input_or_output s.phase) in
      let d = turns_from (processes_of T) 1 (suc read) (omega arith) (omega arith) (omega arith) first s.counter s.used in
      let k = d.write in
      let there = d.counter in
      let w = written_at r k (omega arith) in
      let l = state k in (
        k,
        record {
          reads = record { phase = out; counter = zero_there; phase_after = s.phase; next_counter = s.counter };
          turns = d.turns;
          writes = record {
            phase = above_one l.phase l.state.counter l.used (fits_always r k).fit (omega arith);
            counter = there;
            phase_after = w.phase;
            next_counter = w.counter;
            one_more = w.scan;
          };
          within = d.within;
          one_scan = λ i a b. same_scan i a (λ j e f. d.within j e (omega arith));
        },
      )

pub turns_ordered : {T : List ℕ} {state : ℕ → Machine} {p from to : ℕ} → Turns T state p from to → from ≤ to
turns_ordered (none_left e) = omega arith
turns_ordered (turn h t ts) = let a = t.some in let b = turns_ordered ts in omega arith

-- So the moves between two such states, with none between, are a scan, if they go on.
pub between_outputs : {T I : List ℕ} {taking : ℕ → ℕ} {state : ℕ → Machine} (r : RunOf T I taking state) →
    1 ≤ processes_of T → processes_of T < 65535 →
    (read end : ℕ) → read < end → ((k : ℕ) → read ≤ k → k < end → (move_at T I taking state k).stopped ≡ None) →
    (state read).phase ≡ Output → (state end).phase ≡ Output →
    ((k : ℕ) → read < k → k < end → ¬ ((state k).phase ≡ Output)) →
    (write : ℕ) × ScanOf T state read write × (end ≡ suc write)
between_outputs {T} {I} {taking} {state} r some few read end l on out last between =
    let (write, scan) = scan_turns r some few read (λ k a w. on k a (before k a w (dec_lt k end))) out in
    (write, scan, there write scan (dec_lt write end) (dec_lt (suc write) end))
  where
    before : (k : ℕ) → read ≤ k → WithinScan state read k → Dec (k < end) → k < end
    before k a w (yes h) = h
    before k a w (no h) = absurd (w end l (omega arith) last)

    there : (write : ℕ) → ScanOf T state read write → Dec (write < end) → Dec (suc write < end) → end ≡ suc write
    there write s (no h) d = absurd (s.within end l (omega arith) last)
    there write s (yes h) (no d) = omega arith
    there write s (yes h) (yes d) =
        absurd (between (suc write) (omega (arith, turns_ordered s.turns)) d s.writes.phase_after)
