-- The actions used in a turn, as a machine counts them, are the actions since the turn began. So a 65th, which is
-- refusal 6, is the 65th of the turn.
-- Assumes nothing.
use Prim.Native.Nat.{ℕ, zero, suc, ◌+◌, ◌<◌}
use native.Mathlib.Omega.{arith}
use native.Mathlib.Nat.{eq-or-lt_of_le}
use native.Mathlib.Decide.{dec_lt, ℕ_discrete}
use mathlib.Core.Path.{◌≡◌, refl, sym, ◌∙◌}
use mathlib.Core.Logic.{⊎_elim}
use mathlib.Core.List.{List}
use Rattle.std.specs.Prelude.{None}
use Rattle.lookups.specs.Places.{processes_of}
use Rattle.run.specs.declared.Machine.{Machine}
use Rattle.invariants.specs.Runs.{RunOf, move_at}
use Rattle.invariants.specs.Refusals.{Acts}
use Rattle.invariants.specs.Turns.{turn_at, DoneSoFar}
use Rattle.invariants.proofs.Phased.{starts_reading}
use Rattle.invariants.proofs.NextState.{Stayed, Passed, acted_at, read_at, written_at}

module _ {T I : List ℕ} {taking : ℕ → ℕ} {state : ℕ → Machine} (r : RunOf T I taking state) (few : processes_of T < 65535) where
  -- A turn that begins at the next state, and one action more of a turn.
  begins_next : (k : ℕ) → turn_at state (suc k) ≡ turn_at state k + 1 → (state (suc k)).used ≡ 0 →
      DoneSoFar T state (suc k)
  begins_next k e u = record {
    from = suc k;
    count = omega arith;
    few = omega arith;
    whose = λ j a b. let q : j ≡ suc k = omega arith in rw q refl;
    keeps = λ j a b. absurd (omega arith);
    before = k;
    begins = (refl, sym e);
  }

  one_action_more : (k : ℕ) → Stayed T (state k) (state (suc k)) → DoneSoFar T state k → DoneSoFar T state (suc k)
  one_action_more k s d =
      let used = s.used in
      let same = s.counter in
      let count = d.count in
      let within = s.within in
      record {
        from = d.from;
        count = omega arith;
        few = omega arith;
        whose = λ j a b. ⊎_elim (λ (e : j ≡ suc k). rw e refl) (λ (l : j < suc k). d.whose j a (omega arith) ∙ sym same) (eq-or-lt_of_le b);
        keeps = λ j a b. ⊎_elim (λ (e : j ≡ k). rw e s.outcome) (λ (l : j < k). d.keeps j a l) (eq-or-lt_of_le {n = j} {m = k} (omega arith));
        before = d.before;
        begins = (d.begins.0, d.begins.1 ∙ sym same);
      }

  next_counted : (k : ℕ) → Acts T (state (suc k)) → (move_at T I taking state k).stopped ≡ None →
      (Acts T (state k) → DoneSoFar T state k) → DoneSoFar T state (suc k)
  next_counted k a on before = go (ℕ_discrete (turn_at state k) 0) (dec_lt (processes_of T) (turn_at state k))
    where
      go : Dec (turn_at state k ≡ 0) → Dec (processes_of T < turn_at state k) → DoneSoFar T state (suc k)
      go (yes e) d = let w = read_at r k e in begins_next k (omega (arith, w.counter)) w.used
      go (no e) (yes l) = absurd (omega (arith, (written_at r k l).counter))
      go (no e) (no l) =
          ⊎_elim
          (λ (s : Stayed T (state k) (state (suc k))). one_action_more k s (before (omega arith)))
          (λ (s : Passed T (state k) (state (suc k))). begins_next k s.counter s.used)
          (acted_at r k few (omega arith) on)

  -- At every state to which the moves go on.
  pub counted : (k : ℕ) → ((j : ℕ) → j < k → (move_at T I taking state j).stopped ≡ None) → Acts T (state k) →
      DoneSoFar T state k
  counted zero on a = absurd (omega (arith, starts_reading r))
  counted (suc k) on a = next_counted k a (on k (omega arith)) (λ b. counted k (λ j l. on j (omega arith)) b)
