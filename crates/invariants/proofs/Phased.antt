-- Phase and counter fit together in every state of a run, whether or not its moves go on.
-- Assumes nothing.
use Prim.Native.Nat.{ℕ, zero, suc}
use mathlib.Core.Path.{◌≡◌, refl}
use mathlib.Core.List.{List}
use Rattle.controller.specs.State.{start}
use Rattle.run.specs.Moves.{move_of}
use Rattle.run.specs.declared.Machine.{Machine}
use Rattle.endless.proofs.Moves.{by_move}
use Rattle.endless.proofs.Phases.{Fits}
use Rattle.invariants.specs.Runs.{RunOf}

move_fits : (T I : List ℕ) (d : ℕ) (m : Machine) → Fits m → Fits (move_of T I d m).machine
move_fits T I d m f =
    by_move (λ x y. Fits x.machine) T I d m 0
    (λ h c k. record { fit = (k, refl) })
    (λ h c k. record { fit = (k, refl) })
    (λ h c k. record { fit = k })
    (λ h c k. record { fit = k })
    (λ cause. f)

pub fits_always : {T I : List ℕ} {taking : ℕ → ℕ} {state : ℕ → Machine} → RunOf T I taking state → (j : ℕ) →
    Fits (state j)
unfolding start
fits_always r zero = rw r.first (record { fit = (refl, refl) })
fits_always {T} {I} {taking} {state} r (suc j) =
    rw (r.next j) (move_fits T I (taking (state j).scan) (state j) (fits_always r j))

-- "counter 0": the first move is a read.
pub starts_reading : {T I : List ℕ} {taking : ℕ → ℕ} {state : ℕ → Machine} → RunOf T I taking state →
    (state 0).state.counter ≡ 0
unfolding start
starts_reading r = rw r.first refl
