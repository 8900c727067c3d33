-- How long the trace of a closed run is, and where it stands in the lent buffer.
-- Assumes nothing.
use Prim.Native.Nat.{ℕ, ◌+◌, ◌*◌, ◌≤◌}
use native.Mathlib.Omega.{arith}
use mathlib.Core.Path.{◌≡◌, refl}
use mathlib.Core.Bool.{Bool, true, false}
use mathlib.Core.List.{List}
use lib.ListN.{length, length-replicate, replicate, take, drop}
use lib.Seq.{take-append_seam}
use lib.Dec.{ltb}
use borrow.Author.Tests.{ltb-false}
use Rattle.run.specs.Running.{closes_at}
use Rattle.std.specs.Prelude.{Ok}
use Rattle.coding.proofs.Bytes.{over_eq}
use Rattle.ranges.specs.Limits.{most_processes}
use Rattle.lasso.specs.Checking.{check_trace}
use Rattle.run.specs.Limits.{trace_room}
use Rattle.run.specs.Moves.{begun}
use Rattle.run.specs.Trace.{trace_bytes, numbers_in, run_of, left_in}
use Rattle.run.proofs.Onward.{path_length}
use Rattle.endless.proofs.Ended.{ended, not_refused}
use Rattle.endless.proofs.Closed.{run_is_lasso}

pub trace_length : (T I : List ℕ) (n : ℕ) → length (trace_bytes T I n) ≡ n * 5
trace_length T I n = path_length T I n (begun most_processes)

module _ (room n start : ℕ) (table inputs : List ℕ) (e : run_of room table inputs ≡ closes_at n start) where
  pub closed_small : n ≤ 4096
  closed_small = (ended room n start table inputs e).most

  enough : trace_room ≤ room
  unfolding run_of
  enough = go (ltb room trace_room) refl
    where
      go : (b : Bool) → ltb room trace_room ≡ b → trace_room ≤ room
      go true f = absurd (not_refused (rw f at e))
      go false f = ltb-false room trace_room f

  -- The first bytes of the lent buffer, 5 for each position, are the trace, and lasso accepts them.
  pub in_front : (trace : List ℕ) → length trace ≡ room →
      take (n * 5) (left_in (closes_at n start) (numbers_in table) (numbers_in inputs) trace) ≡ trace_bytes (numbers_in table) (numbers_in inputs) n
  in_front trace l =
      let bytes = trace_bytes (numbers_in table) (numbers_in inputs) n in
      let blank : List ℕ = replicate (length trace) 0 in
      let size = trace_length (numbers_in table) (numbers_in inputs) n in
      let blank_length = length-replicate {A = ℕ} (length trace) 0 in
      let fits : 0 + length bytes ≤ length blank = omega (arith, size, blank_length, l, closed_small, enough) in
      rw (← size, over_eq blank 0 bytes fits) (take-append_seam bytes (drop (0 + length bytes) blank))

  pub front_accepted : (trace : List ℕ) → length trace ≡ room →
      check_trace (take (n * 5) (left_in (closes_at n start) (numbers_in table) (numbers_in inputs) trace)) start ≡ Ok n
  front_accepted trace l = rw (in_front trace l) (run_is_lasso room n start table inputs e)
