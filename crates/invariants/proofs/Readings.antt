-- "Inputs: scans q .., return scan b .., then one number per input variable per scan": an accepted record has just so
-- many numbers, so that what is read in each of its scans is one of them.
-- Assumes nothing.
use Prim.Native.Nat.{ℕ, suc, ◌+◌, ◌-◌, ◌*◌, ◌%◌, ◌≤◌, ◌<◌}
use native.Mathlib.Omega.{arith}
use native.Mathlib.Nat.{suc-mul, mul_comm, mul-le-mul, mod-lt}
use mathlib.Core.Path.{◌≡◌, refl, sym, ◌∙◌}
use mathlib.Core.Bool.{Bool, true, false}
use lib.ListN.{length}
use lib.Dec.{ltb, leb, eqb}
use borrow.Author.Tests.{ltb-true, leb-true, leb-false, eqb-true, eqb-false}
use Rattle.coding.specs.Refusal.{Answer, refused_at}
use Rattle.std.specs.Prelude.{Ok, Err}
use Rattle.coding.specs.Code.{Code, item, end, broken, values}
use Rattle.coding.specs.declared.Cause.TheVariants.{NotAllowed}
use Rattle.ranges.specs.Limits.{most_variables, most_scans}
use Rattle.ranges.specs.Values.{pick, within}
use Rattle.ranges.specs.Order.{allowed}
use Rattle.ranges.specs.declared.Want.TheVariants.{Scans, Return, Reading}
use Rattle.ranges.specs.declared.Step.{Step}
use Rattle.ranges.specs.declared.Step.TheVariants.{More, Last, NotAllowed as Bad}
use Rattle.table.specs.Table.{ended, check, inputs_grammar}
use Rattle.table.proofs.Steps.{checks}
use Rattle.table.proofs.Fair.{fair_inputs}
use Rattle.lookups.specs.Places.{scans_of}
use Rattle.endless.specs.Unrolled.{recorded_scan}

-- What is accepted has so many numbers.
abbrev Just : ℕ → Answer → Type 0
Just size (Ok n) = n ≡ size
Just size (Err why) = Unit {0}

ended_just : (size n : ℕ) (c : Code) → n ≡ size → Just size (ended n c)
ended_just size n (item p v c) h = tt
ended_just size n (end p) h = h
ended_just size n (broken cause p) h = tt

-- by a test's answer
by : (P : Step → Type 0) (t : Bool) (x y : Step) → (t ≡ true → P x) → (t ≡ false → P y) → P (pick t x y)
by P true x y h k = h refl
by P false x y h k = k refl

reading_just : (size : ℕ) (c : Code) (left n : ℕ) → 1 ≤ left → n + left ≡ size → Just size (check 0 (Reading left) n c)
unfolding check
reading_just size (end p) left n some h = tt
reading_just size (broken cause p) left n some h = tt
reading_just size (item p v c) left n some h =
    by (λ s. Just size (checks 0 n p c s)) (leb left 1) Last (More (Reading (left - 1)))
    (λ e. let one = leb-true left 1 e in ended_just size (n + 1) c (omega arith))
    (λ e. let more = leb-false left 1 e in reading_just size c (left - 1) (n + 1) (omega arith) (omega arith))

return_just : (size : ℕ) (c : Code) (inputs scans n : ℕ) → n + 1 + scans * inputs ≡ size →
    Just size (check 0 (Return inputs scans) n c)
unfolding check
return_just size (end p) inputs scans n h = tt
return_just size (broken cause p) inputs scans n h = tt
return_just size (item p v c) inputs scans n h =
    by (λ s. Just size (checks 0 n p c s)) (leb scans v) Bad (pick (eqb (scans * inputs) 0) Last (More (Reading (scans * inputs))))
    (λ e. tt)
    (λ e. last (scans * inputs) h)
  where
    some : (k : ℕ) → (k ≡ 0 → ⊥) → 1 ≤ k
    some k h = omega arith

    last : (k : ℕ) → n + 1 + k ≡ size → Just size (checks 0 n p c (pick (eqb k 0) Last (More (Reading k))))
    last k h =
        by (λ s. Just size (checks 0 n p c s)) (eqb k 0) Last (More (Reading k))
        (λ e. let none = eqb-true k 0 e in ended_just size (n + 1) c (omega arith))
        (λ e. reading_just size c k (n + 1) (some k (eqb-false k 0 e)) (omega arith))

scans_just : (inputs : ℕ) (c : Code) → Just (2 + scans_of (values c) * inputs) (check 0 (Scans inputs) 0 c)
unfolding check allowed
scans_just inputs (end p) = tt
scans_just inputs (broken cause p) = tt
scans_just inputs (item p v c) =
    by (λ s. Just (2 + v * inputs) (checks 0 0 p c s)) (within 1 v most_scans) (More (Return inputs v)) Bad
    (λ e. return_just (2 + v * inputs) c inputs v 1 refl)
    (λ e. tt)

inputs_just : (inputs : ℕ) (c : Code) → Just (2 + scans_of (values c) * inputs) (inputs_grammar inputs c)
unfolding inputs_grammar
inputs_just inputs c = go (ltb most_variables inputs)
  where
    go : (t : Bool) →
        Just (2 + scans_of (values c) * inputs) (pick t (refused_at NotAllowed 0) (check 0 (Scans inputs) 0 c))
    go true = tt
    go false = scans_just inputs c

pub inputs_length : (inputs : ℕ) (c : Code) (n : ℕ) → inputs_grammar inputs c ≡ Ok n →
    length (values c) ≡ 2 + scans_of (values c) * inputs
inputs_length inputs c n e =
    let h : Just (2 + scans_of (values c) * inputs) (Ok n) = rw e at (inputs_just inputs c) in
    sym ((fair_inputs inputs).counts c n e) ∙ h

-- So the place at which `reading_of` looks, in each of the scans, is one of the record.
pub reading_there : (inputs : ℕ) (c : Code) (n : ℕ) → inputs_grammar inputs c ≡ Ok n → (done k : ℕ) →
    done < scans_of (values c) → k < inputs →
    2 + inputs * done + k < length (values c)
reading_there inputs c n e done k h l =
    let size = inputs_length inputs c n e in
    let q = scans_of (values c) in
    let all = mul-le-mul {n₁ = suc done} {m₁ = inputs} {n₂ = q} {m₂ = inputs} h (omega arith) in
    omega (arith, size, all, suc-mul done inputs, mul_comm done inputs)

-- The endless run, too, reads a recorded scan.
pub scan_recorded : (q b done : ℕ) → b < q → recorded_scan q b done < q
unfolding recorded_scan
scan_recorded q b done h = go (ltb done q) refl
  where
    go : (t : Bool) → ltb done q ≡ t → pick t done (b + (done - b) % (q - b)) < q
    go true e = ltb-true done q e
    go false e = omega (arith, mod-lt (done - b) {m = q - b} (omega arith))
