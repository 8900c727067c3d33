-- "Two results that satisfy it are proved equal" (document 01, How tight the promises are): a promise that is an equation with a definition
-- leaves no choice, and neither does one that fixes an answer and, by the answer, the buffer.
-- Assumes nothing.
use Prim.Native.Nat.{ℕ}
use mathlib.Core.Path.{◌≡◌, sym, ◌∙◌}
use mathlib.Core.List.{List}
use Rattle.coding.specs.Refusal.{Answer}
use Rattle.coding.specs.Room.{stored}

pub one_answer : {A : Type 0} {wanted r s : A} → r ≡ wanted → s ≡ wanted → r ≡ s
one_answer p q = p ∙ sym q

-- d is the buffer before, and d₁ and d₂ are what two calls left
pub one_storing : {wanted r s : Answer} {d₁ d₂ : List ℕ} (d xs : List ℕ) → (r ≡ wanted) × (d₁ ≡ stored r d xs) → (s ≡ wanted) × (d₂ ≡ stored s d xs) →
    (r ≡ s) × (d₁ ≡ d₂)
one_storing d xs p q = let e = one_answer p.0 q.0 in (e, p.1 ∙ rw e (sym q.1))
