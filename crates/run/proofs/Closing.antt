-- The two parts of a run, to the return scan and to the last, put together: its answer and its trace.
-- Assumes nothing.
use Prim.Native.Nat.{ℕ, ◌+◌, ◌-◌, ◌*◌, ◌≤◌, ◌<◌}
use mathlib.Core.Path.{◌≡◌, refl, ap, ◌∙◌}
use mathlib.Core.Bool.{Bool, true, false}
use mathlib.Core.List.{List, ◌++◌}
use native.Mathlib.Omega.{arith}
use lib.ListN.{length}
use Rattle.run.specs.declared.Stop.TheVariants.{Halted, Refused}
use Rattle.std.specs.Prelude.{None, Some, Ok, Err}
use Rattle.coding.specs.Room.{over}
use Rattle.coding.specs.declared.Cause.{Cause}
use Rattle.coding.specs.declared.Cause.TheVariants.{NotClosed}
use Rattle.coding.proofs.Bytes.{over_append, over_length}
use Rattle.ranges.specs.Limits.{most_processes}
use Rattle.ranges.specs.Values.{pick}
use Rattle.lookups.specs.Places.{scans_of, return_of}
use Rattle.controller.specs.Same.{same_state}
use Rattle.run.specs.Limits.{last_state, trace_room}
use Rattle.run.specs.Moves.{begun}
use Rattle.run.specs.Running.{to_return, to_end, halted, closing, ran_of, Ran, closes_at}
use Rattle.run.specs.Trace.{path, trace_bytes, left_in}
use Rattle.run.specs.Working.Walking.{Walked, Small, cleared_by}
use Rattle.run.specs.declared.Machine.{Machine}
use Rattle.run.specs.declared.Reached.{Reached}
use Rattle.run.proofs.Onward.{Came, Below, below, number_up, path_length, path_join}
use Rattle.run.proofs.Clearing.{clear_whole, clear_behind}

-- A run that stops has scans left, so the scan that it is in has a number of 16 bits.
pub in_scan : (T I : List ℕ) (k from : ℕ) (m : Machine) (d : List ℕ) (r : Reached) (e : List ℕ) → Came T I k from m d r e →
    (cause : Cause) → r.stopped ≡ Some cause → k < 65536 → r.machine.scan < 65535
in_scan T I k from m d r e came cause g small =
    let h : Below T I k (Some cause) r.machine = rw (← came.0, g) at (below T I k (last_state - from) from m) in
    omega arith

-- ---- the closing, by what the comparison of the two states tells
module _ (q : ℕ) (back last : Reached) (same : Bool) (told : same ≡ same_state last.machine.state back.machine.state) where
  pub alike : same ≡ true → closes_at last.number back.number ≡ closing q back last
  unfolding closing
  alike e = rw (← told, e)

  pub differs : same ≡ false → Err (Halted NotClosed q 0) ≡ closing q back last
  unfolding closing
  differs e = rw (← told, e)

-- ---- the answer
-- by what the two parts came to
abbrev ran_by : List ℕ → Reached → Reached → Ran
ran_by I back last =
    elim back.stopped [
      | Some cause ↦ halted cause back.machine
      | None ↦ elim last.stopped [ Some cause ↦ halted cause last.machine | None ↦ closing (scans_of I) back last ]
    ]

module _ (T I : List ℕ) (back last : Reached) (is_back : back ≡ to_return T I) where
  ran_is : last ≡ to_end T I → ran_by I back last ≡ ran_of T I
  unfolding ran_of
  ran_is is_last = ap (λ (r : Reached). ran_by I r last) is_back ∙ ap (λ (r : Reached). ran_by I (to_return T I) r) is_last

  stops_first : (cause : Cause) → back.stopped ≡ Some cause → last ≡ to_end T I → halted cause back.machine ≡ ran_of T I
  stops_first cause g is_last = rw g at (ran_is is_last)

  module _ (is_last : last ≡ to_end T I) (on : back.stopped ≡ None) where
    stops_later : (cause : Cause) → last.stopped ≡ Some cause → halted cause last.machine ≡ ran_of T I
    stops_later cause g = rw (on, g) at (ran_is is_last)

    goes_round : last.stopped ≡ None → closing (scans_of I) back last ≡ ran_of T I
    unfolding closing
    goes_round g = rw (on, g) at (ran_is is_last)

-- ---- the trace: bytes behind bytes
join_over : (d e f p q : List ℕ) (at : ℕ) → e ≡ over d 0 p → f ≡ over e at q → at ≡ length p → f ≡ over d 0 (p ++ q)
join_over d e f p q at first second here =
    let z : at ≡ 0 + length p = omega arith in
    second ∙ rw (z, first) (over_append d 0 p q)

module _ (T I : List ℕ) (b : ℕ) (m : Machine) (d : List ℕ) (back : Reached) (e : List ℕ) (came : Came T I b 0 m d back e) where
  is_return : b ≡ return_of I → m ≡ begun most_processes → back ≡ to_return T I
  unfolding to_return
  is_return s t = came.0 ∙ rw (s, t)

  same_size : length e ≡ length d
  same_size = rw came.2 (over_length d 0 (path T I (back.number - 0) m))

  -- where it stops before the return scan is done
  pub halts_first : b ≡ return_of I → m ≡ begun most_processes → (cause : Cause) → back.stopped ≡ Some cause →
      (halted cause back.machine ≡ ran_of T I) × (length e ≡ length d)
  halts_first s t cause g = (stops_first T I back (to_end T I) (is_return s t) cause g refl, same_size)

  module _ (q : ℕ) (last : Reached) (f : List ℕ) (came_on : Came T I q back.number back.machine e last f) where
    is_end : q ≡ scans_of I → back ≡ to_return T I → last ≡ to_end T I
    unfolding to_end
    is_end s t = came_on.0 ∙ rw (s, t)

    all_same_size : length f ≡ length d
    all_same_size = rw (came_on.2, over_length e (back.number * 5) (path T I (last.number - back.number) back.machine)) same_size

    whole_path : path T I last.number m ≡ path T I (back.number - 0) m ++ path T I (last.number - back.number) back.machine
    whole_path =
        let up : back.number ≤ last.number = rw (← came_on.0) at (number_up T I q (last_state - back.number) back.number back.machine).0 in
        let z : last.number - 0 ≡ last.number = omega arith in
        rw (← came.0, z) at (path_join T I b last.number (last_state - 0) 0 m) up

    whole_trace : f ≡ over d 0 (path T I last.number m)
    whole_trace =
        rw whole_path
        (join_over d e f (path T I (back.number - 0) m) (path T I (last.number - back.number) back.machine) (back.number * 5) came.2 came_on.2
        (omega (arith, path_length T I (back.number - 0) m)))

    closes : m ≡ begun most_processes → (t : Bool) → Walked (pick t (closes_at last.number back.number) (Err (Halted NotClosed q 0))) T I d f
    closes s true = (came_on.1, rw s at whole_trace)
    closes s false = all_same_size

    module _ (is_b : b ≡ return_of I) (is_m : m ≡ begun most_processes) (is_q : q ≡ scans_of I) (on : back.stopped ≡ None) where
      -- where it stops after that
      pub halts_later : (cause : Cause) → last.stopped ≡ Some cause → (halted cause last.machine ≡ ran_of T I) × (length f ≡ length d)
      halts_later cause g = (stops_later T I back last (is_return is_b is_m) (is_end is_q (is_return is_b is_m)) on cause g, all_same_size)

      -- where it does not stop
      pub goes_through : last.stopped ≡ None → (closing q back last ≡ ran_of T I) × Walked (closing q back last) T I d f
      unfolding closing
      goes_through g =
          (rw is_q (goes_round T I back last (is_return is_b is_m) (is_end is_q (is_return is_b is_m)) on g), closes is_m (same_state last.machine.state back.machine.state))

-- ---- what is left once the rest is cleared
module _ (T I d e : List ℕ) where
  pub small : (r : Ran) → Walked r T I d e → Small r
  small (Ok closed) w = w.0
  small (Err (Halted cause scan process)) w = omega arith
  small (Err (Refused why)) w = omega arith

  pub left_over : (r : Ran) (f : List ℕ) → trace_room ≤ length d → Walked r T I d e → f ≡ cleared_by r e → f ≡ left_in r T I d
  left_over (Ok closed) f room w c =
      c ∙ rw w.1 (clear_behind d (trace_bytes T I closed.positions) (closed.positions * 5) (path_length T I closed.positions (begun most_processes)) (omega (arith, w.0)))
  left_over (Err (Halted cause scan process)) f room w c = c ∙ rw (clear_whole e, w)
  left_over (Err (Refused why)) f room w c = c ∙ w
