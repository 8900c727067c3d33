-- "Inputs are never unset once read", said of bytes that are accepted; and that a run with an input variable never
-- comes back to the start.
-- Assumes nothing.
use Prim.Native.Nat.{ℕ, zero, suc, ◌+◌, ◌<◌, ◌≤◌}
use native.Mathlib.Omega.{arith}
use native.Mathlib.Decide.{dec_lt}
use mathlib.Core.Path.{◌≡◌, refl, ap}
use mathlib.Core.List.{List, [], ◌∷◌}
use lib.ListN.{length, drop, get_or}
use lib.Seq.{get_or-drop}
use Rattle.run.specs.Running.{closes_at}
use Rattle.std.specs.Prelude.{Ok}
use Rattle.coding.specs.Number.{Begin, number, none as no_number, first}
use Rattle.coding.specs.Code.{item_or, code_from, code_at, values}
use Rattle.coding.proofs.Trip.{Begins, written_read}
use Rattle.ranges.specs.Limits.{most_processes}
use Rattle.table.specs.Table.{table_grammar}
use Rattle.lookups.specs.Places.{inputs_of, reading_of, return_of}
use Rattle.structure.proofs.Whole.{accepted_is_allowed}
use Rattle.controller.specs.State.{none, value_at, start as start_of}
use Rattle.controller.specs.declared.Controller.{Controller}
use Rattle.run.specs.Trace.{numbers_in, run_of}
use Rattle.run.specs.declared.Machine.{Machine}
use Rattle.endless.specs.Recorded.{state_at}
use Rattle.endless.proofs.Ended.{Ended, ended}
use Rattle.endless.proofs.Along.{start_below}
use Rattle.invariants.specs.Accepting.{Bytes}
use Rattle.invariants.specs.Runs.{RunOf}
use Rattle.invariants.specs.Reading.{Holding, InputsSet}
use Rattle.invariants.proofs.Running.{recorded_is_run}
use Rattle.invariants.proofs.Answered.{run_exactly}
use Rattle.invariants.proofs.Inputs.{inputs_held}

-- ---- "A number is 0 to 65,535": what bytes code
small_from : (f p : ℕ) (s : List ℕ) → Bytes s → (i : ℕ) → get_or (values (code_from f p s)) i 0 < none
small_from zero p s small i = omega arith
small_from (suc f) p [] small i = omega arith
small_from (suc f) p (b ∷ s) small i =
    go (first (b ∷ s)) (written_read (b ∷ s) small) i (λ k j. small_from f (p + k) (drop k (b ∷ s)) (λ l. rw get_or-drop (small (k + l))) j)
  where
    go : (m : Begin) → Begins (b ∷ s) m → (i : ℕ) →
        ((k j : ℕ) → get_or (values (code_from f (p + k) (drop k (b ∷ s)))) j 0 < none) →
        get_or (values (item_or p m (λ k. code_from f (p + k) (drop k (b ∷ s))))) i 0 < none
    go (number v k) g zero rest = g.0
    go (number v k) g (suc i) rest = rest k i
    go (no_number cause) g i rest = omega arith

numbers_small : (s : List ℕ) → Bytes s → (i : ℕ) → get_or (numbers_in s) i 0 < none
unfolding code_at
numbers_small s small = small_from (length s) 0 s small

holding_set : {T I v : List ℕ} {d : ℕ} → ((i : ℕ) → get_or I i 0 < none) → Holding T I d v → InputsSet T v
unfolding reading_of
holding_set {T} {I} {v} {d} small h k b = rw (h.values k b) (small _)

-- In every state after the first read, of the recorded run and of the endless run alike.
pub never_unset : (table inputs : List ℕ) (n : ℕ) → table_grammar most_processes (code_at table 0) ≡ Ok n →
    Bytes inputs →
    {taking : ℕ → ℕ} {state : ℕ → Machine} → RunOf (numbers_in table) (numbers_in inputs) taking state →
    (j : ℕ) → 1 ≤ j → InputsSet (numbers_in table) (state j).state.variables
never_unset table inputs n accepted bytes r j h =
    let (t, same, allowed, _, _) = accepted_is_allowed most_processes (omega arith) (code_at table 0) n accepted in
    rw same (holding_set (numbers_small inputs bytes) (inputs_held t allowed (rw same at r) j h))

-- ---- "b = 0: the start"
-- "A variable starts unset."
starts_unset : (T I : List ℕ) → value_at (state_at T I 0).state.variables 0 ≡ none
unfolding state_at start_of value_at
starts_unset T I = refl

at_start : {T I : List ℕ} {n start : ℕ} → Ended T I n start → return_of I ≡ 0 → start ≡ 0
at_start {start = start} h e = go (dec_lt 0 start)
  where
    go : Dec (0 < start) → start ≡ 0
    go (yes l) = absurd (omega (arith, h.back.before 0 (omega arith) l))
    go (no l) = omega arith

-- With an input variable, a run whose return scan is 0 never closes.
pub never_from_start : (room : ℕ) (table inputs : List ℕ) → Bytes inputs → 1 ≤ inputs_of (numbers_in table) →
    return_of (numbers_in inputs) ≡ 0 →
    (n start : ℕ) → ¬ (run_of room table inputs ≡ closes_at n start)
never_from_start room table inputs bytes some back n start e =
    let T = numbers_in table in
    let I = numbers_in inputs in
    let h = ended room n start table inputs e in
    let zero = at_start h back in
    let ok = ((run_exactly room table inputs (closes_at n start) tt).0 e).0 in
    let later : 1 ≤ n = omega (arith, start_below h) in
    let set = never_unset table inputs ok.table_numbers ok.table_read bytes (recorded_is_run T I) n later 0 some in
    let same : (state_at T I n).state ≡ (state_at T I 0).state = rw zero at h.same in
    omega (arith, set, ap (λ (c : Controller). value_at c.variables 0) same, starts_unset T I)
