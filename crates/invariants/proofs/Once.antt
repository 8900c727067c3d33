-- In a scan each process passes its turn exactly once.
-- Assumes nothing.
use Prim.Native.Nat.{ℕ, suc, ◌+◌, ◌-◌, ◌<◌, ◌≤◌}
use native.Mathlib.Omega.{arith}
use native.Mathlib.Nat.{eq-or-lt_of_le}
use native.Mathlib.Decide.{dec_lt}
use mathlib.Core.Path.{◌≡◌}
use mathlib.Core.Logic.{⊎_elim}
use mathlib.Core.List.{List}
use Rattle.lookups.specs.Places.{processes_of}
use Rattle.structure.specs.Allowed.{OneOf}
use Rattle.controller.specs.declared.Outcome.{Outcome}
use Rattle.controller.specs.declared.Outcome.TheVariants.{Stays, Passes}
use Rattle.run.specs.declared.Machine.{Machine}
use Rattle.invariants.specs.Turns.{turn_at, Turn, Turns, none_left, turn, ScanOf, PassesAt, Once}
use Rattle.invariants.proofs.Turned.{turns_ordered}

stays_or_passes : {o : Outcome} → o ≡ Stays → o ≡ Passes → ⊥
stays_or_passes e f = let z : ◌≡◌ {A = ℕ} 0 1 = cc in omega arith

module _ {T : List ℕ} {state : ℕ → Machine} where
  -- The turns from process q on are of no process before.
  no_sooner : {q from to : ℕ} → Turns T state q from to → (i : ℕ) → from ≤ i → i < to → q ≤ turn_at state i
  no_sooner (none_left e) i a b = absurd (omega arith)
  no_sooner {q} (turn {next = next} h t ts) i a b = go (λ c. no_sooner ts i c b) (dec_lt i next)
    where
      go : (next ≤ i → q + 1 ≤ turn_at state i) → Dec (i < next) → q ≤ turn_at state i
      go later (yes c) = omega (arith, t.whose i a c)
      go later (no c) = omega (arith, later (omega arith))

  -- A turn is passed at its last action and nowhere else.
  at_last : {p from to : ℕ} → Turn T state p from to → (i : ℕ) → from ≤ i → i < to → PassesAt T state p i → i + 1 ≡ to
  at_last {p} {from} {to} t i a b c =
      ⊎_elim
      (λ (e : suc i ≡ to). omega arith)
      (λ (l : suc i < to). absurd (stays_or_passes (t.keeps i a (omega arith)) c.passes))
      (eq-or-lt_of_le b)

  once_first : {p from next to : ℕ} → Turn T state p from next → Turns T state (p + 1) next to → Once T state p from to
  once_first {p} {from} {next} {to} t ts =
      let some = t.some in
      let later = turns_ordered ts in
      record {
        at = next - 1;
        among = (omega arith, omega arith);
        passes =
            record { whose = t.whose (next - 1) (omega arith) (omega arith); passes = t.passes (next - 1) (omega arith) };
        only = λ i a b c. go i a b c (dec_lt i next);
      }
    where
      go : (i : ℕ) → from ≤ i → i < to → PassesAt T state p i → Dec (i < next) → i ≡ next - 1
      go i a b c (yes l) = omega (arith, at_last t i a l c)
      go i a b c (no l) = absurd (omega (arith, no_sooner ts i (omega arith) b, c.whose))

  once_later : {p q from next to : ℕ} → q < p → Turn T state q from next → Once T state p next to →
      Once T state p from to
  once_later {p} {q} {from} {next} {to} h t o =
      let some = t.some in
      let there = o.among in
      record { at = o.at; among = (omega arith, there.1); passes = o.passes; only = λ i a b c. go i a b c (dec_lt i next) }
    where
      go : (i : ℕ) → from ≤ i → i < to → PassesAt T state p i → Dec (i < next) → i ≡ o.at
      go i a b c (yes l) = absurd (omega (arith, t.whose i a l, c.whose))
      go i a b c (no l) = o.only i (omega arith) b c

  once_among : {p q from to : ℕ} → Turns T state q from to → q ≤ p → p ≤ processes_of T → Once T state p from to
  once_among (none_left e) a b = absurd (omega arith)
  once_among {p} {q} {from} {to} (turn {next = next} h t ts) a b =
      ⊎_elim (λ (e : q ≡ p). same e t ts) (λ (l : q < p). once_later l t (once_among ts (omega arith) b)) (eq-or-lt_of_le a)
    where
      same : q ≡ p → Turn T state q from next → Turns T state (q + 1) next to → Once T state p from to
      same e t ts = rw (← e) (once_first t ts)

  -- "Each process passes its turn exactly once a scan"
  pub passes_once : {read write : ℕ} → ScanOf T state read write → (p : ℕ) → OneOf p (processes_of T) →
      Once T state p (suc read) write
  passes_once s p b = once_among s.turns b.0 b.1
