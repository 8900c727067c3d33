-- Each moment of a closed run's lasso and the endless run of the rules: phase, atoms, and that the next move goes on.
-- Assumes nothing.
use Prim.Native.Nat.{ℕ, ◌<◌, ◌≤◌}
use native.Mathlib.Omega.{arith}
use native.Mathlib.Decide.{dec_lt}
use mathlib.Core.Path.{◌≡◌, sym, ap, ◌∙◌}
use mathlib.Core.List.{List}
use borrow.Author.Tests.{le-ltb}
use Rattle.std.specs.Prelude.{None}
use Rattle.meaning.specs.Trace.{position, endless}
use Rattle.lookups.specs.Places.{tests_of}
use Rattle.lasso.proofs.Looking.{atom_within, above}
use Rattle.controller.specs.State.{states_of}
use Rattle.scan.specs.Guards.{atom_of}
use Rattle.run.specs.Trace.{trace_bytes}
use Rattle.run.specs.declared.Machine.{Machine}
use Rattle.endless.specs.Unrolled.{endless_state, rules_run}
use Rattle.endless.proofs.Ended.{Ended}
use Rattle.endless.proofs.Stored.{trace_atom}
use Rattle.endless.proofs.Formed.{lasso_of, phase_is}
use Rattle.endless.proofs.Agreement.{endless_move, position_inside, agreeing_goes_on, agrees}

module _ {T I : List ℕ} {n start : ℕ} (h : Ended T I n start) (m : ℕ) where
  pub phase_then : (endless (lasso_of h)).phase m ≡ (endless_state T I m).phase
  phase_then = phase_is h (position (lasso_of h) m) (position_inside h m) ∙ ap (λ (x : Machine). x.phase) (sym (agrees h m).same)

  atoms_below : (k : ℕ) → k < 32 → (endless (lasso_of h)).says m k ≡ (rules_run T I).says m k
  atoms_below k l =
      atom_within (trace_bytes T I n) (position (lasso_of h) m) k l
      ∙ trace_atom T I n (position (lasso_of h) m) k (position_inside h m) l
      ∙ ap (λ (x : Machine). atom_of T x.state.variables (states_of x.state.processes) k) (sym (agrees h m).same)

  -- no test has a number above 31, and no atom of a trace
  atoms_above : (k : ℕ) → 32 ≤ k → (endless (lasso_of h)).says m k ≡ (rules_run T I).says m k
  unfolding atom_of
  atoms_above k l =
      sym (above (trace_bytes T I n) (position (lasso_of h) m) k l) ∙ rw (le-ltb k (tests_of T) (omega (arith, h.tests)))

  pub atoms_then : (k : ℕ) → (endless (lasso_of h)).says m k ≡ (rules_run T I).says m k
  atoms_then k = go (dec_lt k 32)
    where
      go : Dec (k < 32) → (endless (lasso_of h)).says m k ≡ (rules_run T I).says m k
      go (yes l) = atoms_below k l
      go (no l) = atoms_above k (omega arith)

  pub on_then : (endless_move T I (endless_state T I m)).stopped ≡ None
  on_then = agreeing_goes_on h (position_inside h m) (agrees h m)

-- The lasso's endless run is the endless run of the rules.
pub same_run : {T I : List ℕ} {n start : ℕ} (h : Ended T I n start) → endless (lasso_of h) ≡ rules_run T I
same_run h = λ i. record { phase = λ m. phase_then h m i; says = λ m k. atoms_then h m k i }
