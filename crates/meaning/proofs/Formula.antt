-- Where the endless run is at a moment, as a formula. Assumes nothing.
use Prim.Native.Nat.{ℕ, suc, zero, ◌≤◌, ◌<◌, ◌+◌, ◌-◌, ◌%◌}
use native.Mathlib.Omega.{arith}
use native.Mathlib.Nat.{eq-or-lt_of_le, suc-mod, mod-lt, mod_self, mod-eq_of_lt, zero-mod}
use mathlib.Core.Path.{◌≡◌, ap, ◌∙◌}
use mathlib.Core.Logic.{⊎_elim}
use Rattle.meaning.specs.Trace.{Trace, position, WellFormed}
use Rattle.meaning.proofs.Walk.{step_inside, step_join}
use Rattle.meaning.proofs.Judged.{stored}

module _ {t : Trace} (w : WellFormed t) where
  round : (d : ℕ) → position t (t.loop + d) ≡ t.loop + d % (t.len - t.loop)
  round zero =
      let h : t.loop < t.len = w.inside in
      let e : t.loop + 0 ≡ t.loop = omega arith in
      rw (e, stored w t.loop h, zero-mod) (omega arith)
  round (suc d) =
      let h : t.loop < t.len = w.inside in
      let i : position t (t.loop + d) ≡ t.loop + d % (t.len - t.loop) = round d in
      let l : d % (t.len - t.loop) < t.len - t.loop = mod-lt d (omega arith) in
      let e : t.loop + suc d ≡ suc (t.loop + d) = omega arith in
      rw (e, suc-mod)
      (⊎_elim
      (λ (q : suc (d % (t.len - t.loop)) ≡ t.len - t.loop).
      step_join t h (t.loop + d) (omega arith) ∙ rw (q, mod_self) (omega arith))
      (λ (q : suc (d % (t.len - t.loop)) < t.len - t.loop).
      step_inside t h (t.loop + d) (omega arith) ∙ rw (mod-eq_of_lt q) (omega arith))
      (eq-or-lt_of_le l))

  -- Position n for n below the length, and beyond it round the loop: moment n is at `stored` or at this.
  pub beyond : (n : ℕ) → t.loop ≤ n → position t n ≡ t.loop + (n - t.loop) % (t.len - t.loop)
  beyond n h = let e : n ≡ t.loop + (n - t.loop) = omega arith in ap (position t) e ∙ round (n - t.loop)
