-- Phases follow one another as they may in every run whose moves go on: a phase is known by the counter.
-- Assumes nothing.
use Prim.Native.Nat.{ℕ, ◌+◌, ◌<◌, ◌≤◌}
use native.Mathlib.Omega.{arith}
use mathlib.Core.Path.{◌≡◌, refl}
use mathlib.Core.Logic.{◌⊎◌, inl, inr}
use mathlib.Core.Bool.{true}
use mathlib.Core.List.{List}
use Rattle.std.specs.Prelude.{None}
use Rattle.requirement.specs.declared.Phase.{Phase}
use Rattle.requirement.specs.declared.Phase.TheVariants.{Input, Exe, Output}
use Rattle.meaning.specs.Trace.{Follows}
use Rattle.lookups.specs.Places.{processes_of}
use Rattle.run.specs.Moves.{move_of}
use Rattle.run.specs.declared.Machine.{Machine}
use Rattle.run.specs.declared.Moved.{Moved}
use Rattle.endless.proofs.Moves.{by_move}
use Rattle.endless.proofs.States.{never}

-- A phase, the counter and the actions used in the turn: the read is next, or process 1 with its first action, or some process or the write.
abbrev pub Fit : Phase → ℕ → ℕ → Type 0
Fit Output counter used = (counter ≡ 0) × (used ≡ 0)
Fit Input counter used = (counter ≡ 1) × (used ≡ 0)
Fit Exe counter used = 0 < counter

pub record Fits (m : Machine) : Type 0 where
  pub fit : Fit m.phase m.state.counter m.used

-- What a move that goes on makes of a machine that fits: one that fits and may follow, and a scan is done just where a write is.
pub record Goes (m : Machine) (x : Moved) : Type 0 where
  pub fits : Fits x.machine
  pub follows : Follows m.phase x.machine.phase ≡ true
  pub scans : (x.machine.scan ≡ m.scan) ⊎ ((x.machine.scan ≡ m.scan + 1) × (x.machine.phase ≡ Output))

reads : (p : Phase) (c u : ℕ) → Fit p c u → c ≡ 0 → Follows p Input ≡ true
reads Input c u f e = absurd (omega arith)
reads Exe c u f e = absurd (omega arith)
reads Output c u f e = refl

writes : (p : Phase) (c u : ℕ) → Fit p c u → 1 < c → Follows p Output ≡ true
writes Input c u f h = absurd (omega arith)
writes Exe c u f h = refl
writes Output c u f h = absurd (omega arith)

acts : (p : Phase) (c u : ℕ) → Fit p c u → 0 < c → Follows p Exe ≡ true
acts Input c u f h = refl
acts Exe c u f h = refl
acts Output c u f h = absurd (omega arith)

pub goes : (T I : List ℕ) (d : ℕ) (m : Machine) → 1 ≤ processes_of T → Fits m → (move_of T I d m).stopped ≡ None → Goes m (move_of T I d m)
goes T I d m some f =
    by_move (λ x y. x.stopped ≡ None → Goes m x) T I d m m.scan
    (λ h c k e. record { fits = record { fit = (k, refl) }; follows = reads m.phase m.state.counter m.used f.fit h; scans = inl refl })
    (λ h c k e. record {
      fits = record { fit = (k, refl) };
      follows = writes m.phase m.state.counter m.used f.fit (omega arith);
      scans = inr (refl, refl);
    })
    (λ h c k e. record { fits = record { fit = k }; follows = acts m.phase m.state.counter m.used f.fit h; scans = inl refl })
    (λ h c k e. record { fits = record { fit = k }; follows = acts m.phase m.state.counter m.used f.fit h; scans = inl refl })
    (λ cause e. absurd (never e))
