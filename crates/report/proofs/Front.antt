-- One byte more than an input may have is enough to know what is printed: a longer input is refused whatever comes
-- behind.
-- Assumes nothing.
use Prim.Native.Nat.{ℕ, ◌≤◌, ◌<◌}
use native.Mathlib.Omega.{arith}
use mathlib.Core.Path.{◌≡◌, refl, sym, ◌∙◌}
use mathlib.Core.Logic.Iff
use mathlib.Core.Logic.{◌↔◌}
use mathlib.Core.List.{List}
use mathlib.Core.Bool.{Bool, true, false}
use lib.ListN.{length, take}
use lib.Dec.{ltb}
use lib.Seq.{take_all, length-take-le}
use borrow.Author.Tests.{ltb-true, ltb-false}
use Rattle.report.specs.Framing.{framing_of}
use Rattle.report.specs.Reporting.{Reports}
use Rattle.report.proofs.Splitting.{long_input}

module _ (s : List ℕ) where
  same_of_short : length s ≤ 60000 → take 60001 s ≡ s
  same_of_short h = take_all 60001 s (omega arith)

  module _ (h : 60000 < length s) where
    front_too_long : 60000 < length (take 60001 s)
    front_too_long = rw (length-take-le 60001 s h) (omega arith)

  pub front_framing : framing_of (take 60001 s) ≡ framing_of s
  front_framing = go (ltb 60000 (length s)) refl
    where
      go : (t : Bool) → ltb 60000 (length s) ≡ t → framing_of (take 60001 s) ≡ framing_of s
      go true e =
          let h : 60000 < length s = ltb-true _ _ e in
          sym (long_input (take 60001 s) (front_too_long h)) ∙ long_input s h
      go false e = rw (same_of_short (ltb-false _ _ e))

  -- The report of the first 60,001 bytes is the report of the whole input.
  pub front_reports : (text : List ℕ) →
      Reports s (framing_of s) text ↔ Reports (take 60001 s) (framing_of (take 60001 s)) text
  front_reports text = go (ltb 60000 (length s)) refl
    where
      go : (t : Bool) → ltb 60000 (length s) ≡ t →
          Reports s (framing_of s) text ↔ Reports (take 60001 s) (framing_of (take 60001 s)) text
      go true e =
          let h : 60000 < length s = ltb-true _ _ e in
          rw (← long_input (take 60001 s) (front_too_long h), ← long_input s h) Iff.rfl
      go false e = rw (same_of_short (ltb-false _ _ e)) Iff.rfl
