-- The recorded scan that gives the inputs, one scan later.
-- Assumes nothing.
use Prim.Native.Nat.{ℕ, suc, ◌+◌, ◌-◌, ◌%◌, ◌<◌, ◌≤◌}
use native.Mathlib.Omega.{arith}
use native.Mathlib.Nat.{suc-mod, mod_self, mod-eq_of_lt}
use native.Mathlib.Decide.{dec_lt}
use mathlib.Core.Path.{◌≡◌, sym, ap, ◌∙◌}
use borrow.Author.Tests.{lt-ltb, le-ltb}
use Rattle.endless.specs.Unrolled.{recorded_scan}

module _ (q b : ℕ) (h : b < q) where
  -- Below q a scan is its own; from there on they go round.
  pub recorded : (d : ℕ) → d < q → recorded_scan q b d ≡ d
  unfolding recorded_scan
  recorded d l = rw (lt-ltb d q l)

  beyond : (d : ℕ) → q ≤ d → recorded_scan q b d ≡ b + (d - b) % (q - b)
  unfolding recorded_scan
  beyond d l = rw (le-ltb d q l)

  -- One more than a rest, at most the divisor.
  rest_more : (x r : ℕ) → x % (q - b) ≡ r → suc r < q - b → suc x % (q - b) ≡ suc r
  rest_more x r e l = suc-mod x (q - b) ∙ rw e (mod-eq_of_lt l)

  rest_full : (x r : ℕ) → x % (q - b) ≡ r → suc r ≡ q - b → suc x % (q - b) ≡ 0
  rest_full x r e f = suc-mod x (q - b) ∙ rw (e, f) (mod_self (q - b))

  pub recorded_next : (d s : ℕ) → recorded_scan q b d ≡ s → s + 1 < q → recorded_scan q b (d + 1) ≡ s + 1
  recorded_next d s e l = go (dec_lt d q)
    where
      go : Dec (d < q) → recorded_scan q b (d + 1) ≡ s + 1
      go (yes k) =
          let same : d ≡ s = sym (recorded d k) ∙ e in
          recorded (d + 1) (omega arith) ∙ ap (λ (x : ℕ). x + 1) same
      go (no k) =
          let r : b + (d - b) % (q - b) ≡ s = sym (beyond d (omega arith)) ∙ e in
          let x : d + 1 - b ≡ suc (d - b) = omega arith in
          let y : suc (d - b) % (q - b) ≡ suc (s - b) = rest_more (d - b) (s - b) (omega arith) (omega arith) in
          beyond (d + 1) (omega arith) ∙ rw (x, y) (omega arith)

  pub recorded_join : (d s : ℕ) → recorded_scan q b d ≡ s → s + 1 ≡ q → recorded_scan q b (d + 1) ≡ b
  recorded_join d s e l = go (dec_lt d q)
    where
      go : Dec (d < q) → recorded_scan q b (d + 1) ≡ b
      go (yes k) =
          let same : d ≡ s = sym (recorded d k) ∙ e in
          let x : d + 1 - b ≡ q - b = omega arith in
          beyond (d + 1) (omega arith) ∙ rw (x, mod_self (q - b)) (omega arith)
      go (no k) =
          let r : b + (d - b) % (q - b) ≡ s = sym (beyond d (omega arith)) ∙ e in
          let x : d + 1 - b ≡ suc (d - b) = omega arith in
          let y : suc (d - b) % (q - b) ≡ 0 = rest_full (d - b) (s - b) (omega arith) (omega arith) in
          beyond (d + 1) (omega arith) ∙ rw (x, y) (omega arith)
