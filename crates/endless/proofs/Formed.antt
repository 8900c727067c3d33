-- The trace of a run that closed is a well-formed lasso, and is accepted as one.
-- Assumes nothing.
use Prim.Native.Nat.{ℕ, suc, ◌*◌, ◌%◌, ◌<◌, ◌≤◌}
use native.Mathlib.Omega.{arith}
use native.Mathlib.Nat.{eq-or-lt_of_le}
use mathlib.Core.Path.{◌≡◌, ap, ◌∙◌}
use mathlib.Core.Logic.{⊎_elim}
use mathlib.Core.Bool.{true}
use mathlib.Core.List.{List}
use lib.ListN.{length}
use borrow.Author.Tests.{lt-ltb, le-ltb, eq-eqb, ne_eqb}
use Rattle.std.specs.Prelude.{Ok}
use Rattle.requirement.specs.declared.Phase.TheVariants.{Output}
use Rattle.meaning.specs.Trace.{Trace, after, Follows, WellFormed}
use Rattle.lasso.specs.Bytes.{positions, phase_from, phase_byte, trace_of}
use Rattle.lasso.specs.Checking.{length_ok, check_trace}
use Rattle.lasso.proofs.WellFormed.{well_formed_is_accepted}
use Rattle.run.specs.Trace.{trace_bytes}
use Rattle.endless.specs.Recorded.{state_at}
use Rattle.endless.proofs.Ended.{Ended}
use Rattle.endless.proofs.Along.{follows_at, start_ends, start_below, last_ends}
use Rattle.endless.proofs.Stored.{phase_back, phase_small, trace_size, positions_is, trace_phase}

-- So many positions of 5 bytes.
length_fine : (n : ℕ) → 0 < n → n ≤ 4096 → length_ok (n * 5) ≡ true
unfolding length_ok
length_fine n h k =
    let z : n * 5 % 5 ≡ 0 = omega arith in
    rw (ne_eqb (n * 5) 0 (omega arith), le-ltb 20480 (n * 5) (omega arith)) (eq-eqb (n * 5 % 5) 0 z)

module _ (t : Trace) (i : ℕ) where
  after_inside : suc i < t.len → after t i ≡ suc i
  after_inside h = rw (lt-ltb (suc i) t.len h)

  after_last : suc i ≡ t.len → after t i ≡ t.loop
  after_last e = rw (le-ltb (suc i) t.len (omega arith))

module _ {T I : List ℕ} {n start : ℕ} (h : Ended T I n start) where
  abbrev pub lasso_of : Trace
  lasso_of = trace_of (trace_bytes T I n) start

  pub phase_is : (p : ℕ) → p < n → lasso_of.phase_at p ≡ (state_at T I p).phase
  phase_is p l = ap phase_from (trace_phase T I n p l) ∙ phase_back (state_at T I p).phase

  pub lasso_inside : start < positions (trace_bytes T I n)
  lasso_inside = rw (positions_is T I n) (start_below h)

  steps : (i : ℕ) → i < n → Follows (lasso_of.phase_at i) (lasso_of.phase_at (after lasso_of i)) ≡ true
  steps i l = ⊎_elim join inside (eq-or-lt_of_le l)
    where
      inside : suc i < n → Follows (lasso_of.phase_at i) (lasso_of.phase_at (after lasso_of i)) ≡ true
      inside k = rw (after_inside lasso_of i (omega (arith, positions_is T I n)), phase_is i l, phase_is (suc i) k) (follows_at h i l)

      join : suc i ≡ n → Follows (lasso_of.phase_at i) (lasso_of.phase_at (after lasso_of i)) ≡ true
      join e =
          let end : (state_at T I (suc i)).phase ≡ Output = rw e (last_ends h).0 in
          rw (after_last lasso_of i (omega (arith, positions_is T I n)), phase_is i l, phase_is start (start_below h), (start_ends h).0, ← end) (follows_at h i l)

  pub formed : WellFormed lasso_of
  formed = record {
    inside = lasso_inside;
    steps = λ i l. steps i (rw (positions_is T I n) at l);
    written = (start, omega arith, lasso_inside, phase_is start (start_below h) ∙ (start_ends h).0);
  }

  pub is_lasso : check_trace (trace_bytes T I n) start ≡ Ok n
  is_lasso =
      let below = start_below h in
      let len = positions_is T I n in
      let ok : length_ok (length (trace_bytes T I n)) ≡ true = rw (trace_size T I n) (length_fine n (omega arith) h.most) in
      let small : (p : ℕ) → p < positions (trace_bytes T I n) → phase_byte (trace_bytes T I n) p ≤ 2 =
      λ p l. rw (trace_phase T I n p (rw len at l)) (phase_small (state_at T I p).phase) in
      well_formed_is_accepted (trace_bytes T I n) start ok small formed ∙ ap Ok len
