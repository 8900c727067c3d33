-- Arrays: what owning a struct's array of structs tells of its length, and that a place inside a list is read with any default.
-- Assumes nothing.
use Prim.Native.Nat.{ℕ, zero, suc, ◌<◌}
use mathlib.Core.Path.{◌≡◌, refl, sym, ◌∙◌}
use mathlib.Core.List.{List, [], ◌∷◌, map}
use native.Mathlib.Omega.{arith}
use lib.ListN.{length, length-map, get_or}

pub mapped : (X Y : Type 0) (f : X → Y) (l : List X) (n : ℕ) → length (map f l) ≡ n → length l ≡ n
mapped X Y f l n e = sym (length-map l f) ∙ e

found : {A : Type 0} (l : List A) (i : ℕ) (a b : A) → i < length l → get_or l i a ≡ get_or l i b
found [] i a b h = absurd (omega arith)
found (x ∷ l) zero a b h = refl
found (x ∷ l) (suc i) a b h = found l i a b (omega arith)

pub inside : {A : Type 0} (l : List A) (i : ℕ) (a b : A) (n : ℕ) → length l ≡ n → i < n → get_or l i a ≡ get_or l i b
inside l i a b n e h = found l i a b (omega (arith, e, h))
