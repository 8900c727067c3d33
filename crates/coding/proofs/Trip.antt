-- The round trip of one number: reading what was written gives the number back, and writing what was read gives the bytes back.
-- Assumes nothing.
use Prim.Native.Nat.{ℕ, suc, ◌+◌, ◌-◌, ◌*◌, ◌/◌, ◌%◌, ◌≤◌, ◌<◌}
use native.Mathlib.Omega.{arith}
use mathlib.Core.Path.{◌≡◌, refl}
use mathlib.Core.List.{List, [], ◌∷◌, ◌++◌}
use mathlib.Core.Bool.{Bool, true, false}
use lib.ListN.{length, drop, get_or}
use lib.Dec.{ltb, eqb}
use borrow.Author.Tests.{lt-ltb, le-ltb, ne_eqb, ltb-true, ltb-false, eqb-false}
use Rattle.coding.specs.Number.{bytes_of, first, second, third, pick, Begin, number, none}
use Rattle.coding.proofs.Bytes.{bytes₁, bytes₂, bytes₃}

pub read_written : (v : ℕ) (rest : List ℕ) → v < 65536 → first (bytes_of v ++ rest) ≡ number v (length (bytes_of v))
read_written v rest small = go (ltb v 128) (ltb v 16384) refl refl
  where
    go : (p q : Bool) → ltb v 128 ≡ p → ltb v 16384 ≡ q → first (bytes_of v ++ rest) ≡ number v (length (bytes_of v))
    go true q e f = rw (bytes₁ v (ltb-true _ _ e), e)
    go false true e f =
        let h : 128 ≤ v = ltb-false _ _ e in
        let g : v < 16384 = ltb-true _ _ f in
        let n : v / 128 ≡ 0 → ⊥ = omega arith in
        let m : v / 128 < 128 = omega arith in
        let hi : 128 ≤ v % 128 + 128 = omega arith in
        let back : v % 128 + 128 - 128 + v / 128 * 128 ≡ v = omega arith in
        rw (bytes₂ v h g, le-ltb _ _ hi, ne_eqb _ _ n, lt-ltb _ _ m, back)
    go false false e f =
        let g : 16384 ≤ v = ltb-false _ _ f in
        let hi : 128 ≤ v % 128 + 128 = omega arith in
        let hi₁ : 128 ≤ v / 128 % 128 + 128 = omega arith in
        let n₁ : v / 128 % 128 + 128 ≡ 0 → ⊥ = omega arith in
        let n₂ : v / 16384 ≡ 0 → ⊥ = omega arith in
        let m₂ : v / 16384 ≤ 3 = omega arith in
        let back : v % 128 + 128 - 128 + (v / 128 % 128 + 128 - 128) * 128 + v / 16384 * 16384 ≡ v = omega arith in
        rw (bytes₃ v g, le-ltb _ _ hi, ne_eqb _ _ n₁, le-ltb _ _ hi₁, ne_eqb _ _ n₂, le-ltb _ _ m₂, back)

-- what is said of a number that s begins with: it is small, and s begins with its bytes
abbrev pub Begins : List ℕ → Begin → Type 0
Begins s (number v k) = (v < 65536) × (s ≡ bytes_of v ++ drop k s)
Begins s (none cause) = Unit {0}

by_test : (s : List ℕ) (p : Bool) (x y : Begin) → (p ≡ true → Begins s x) → (p ≡ false → Begins s y) → Begins s (pick p x y)
by_test s true x y f g = f refl
by_test s false x y f g = g refl

digit₀ : (x y z : ℕ) → x < 128 → (x + y * 128 + z * 16384) % 128 ≡ x
digit₀ x y z h = omega arith

digit₁ : (x y z : ℕ) → x < 128 → y < 128 → (x + y * 128 + z * 16384) / 128 % 128 ≡ y
digit₁ x y z h g = let d : (x + y * 128 + z * 16384) / 128 ≡ y + z * 128 = omega arith in rw d (omega arith)

pub written_read : (s : List ℕ) → ((i : ℕ) → get_or s i 0 < 256) → Begins s (first s)
written_read [] small = tt
written_read (a ∷ s) small =
    by_test _ (ltb a 128) _ _ (λ p. one (ltb-true _ _ p)) (λ p. two s (small 0) (ltb-false _ _ p) (λ i. small (suc i)))
  where
    one : a < 128 → Begins (a ∷ s) (number a 1)
    one h = (omega arith, rw (bytes₁ a h))

    three : (b : ℕ) (r : List ℕ) → a < 256 → 128 ≤ a → 128 ≤ b → b < 256 → Begins (a ∷ b ∷ r) (third (a - 128 + (b - 128) * 128) r)
    three b [] l h g g' = tt
    three b (c ∷ r) l h g g' =
        by_test _ (eqb c 0) _ _ (λ p. tt) (λ p. by_test _ (ltb 3 c) _ _ (λ q. tt) (λ q.
        let nz : c ≡ 0 → ⊥ = eqb-false _ _ p in
        let le : c ≤ 3 = ltb-false _ _ q in
        let big : 16384 ≤ a - 128 + (b - 128) * 128 + c * 16384 = omega arith in
        let e₀ : (a - 128 + (b - 128) * 128 + c * 16384) % 128 + 128 ≡ a = omega (arith, digit₀ (a - 128) (b - 128) c (omega arith)) in
        let e₁ : (a - 128 + (b - 128) * 128 + c * 16384) / 128 % 128 + 128 ≡ b = omega (arith, digit₁ (a - 128) (b - 128) c (omega arith) (omega arith)) in
        let e₂ : (a - 128 + (b - 128) * 128 + c * 16384) / 16384 ≡ c = omega arith in
        (omega arith, rw (bytes₃ _ big, e₀, e₁, e₂))))

    two : (r : List ℕ) → a < 256 → 128 ≤ a → ((i : ℕ) → get_or r i 0 < 256) → Begins (a ∷ r) (second (a - 128) r)
    two [] l h sm = tt
    two (b ∷ r) l h sm =
        by_test _ (eqb b 0) _ _ (λ p. tt) (λ p. by_test _ (ltb b 128) _ _ (λ q.
        let nz : b ≡ 0 → ⊥ = eqb-false _ _ p in
        let lo : b < 128 = ltb-true _ _ q in
        let big : 128 ≤ a - 128 + b * 128 = omega arith in
        let less : a - 128 + b * 128 < 16384 = omega arith in
        let e₀ : (a - 128 + b * 128) % 128 + 128 ≡ a = omega arith in
        let e₁ : (a - 128 + b * 128) / 128 ≡ b = omega arith in
        (omega arith, rw (bytes₂ _ big less, e₀, e₁)))
        (λ q. three b r l h (ltb-false _ _ q) (sm 0)))
