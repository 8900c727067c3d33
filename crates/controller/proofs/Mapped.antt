-- An array's `map`, by a function that gives h of what it is called at: the elements are h of those of the array, in their order.
-- Assumes nothing.
use Prim.Native.Nat.{ℕ, suc, ◌<◌}
use mathlib.Core.Path.{◌≡◌, refl}
use mathlib.Core.List.{List, [], ◌∷◌, map}
use native.Mathlib.Omega.{arith}
use lib.ListN.{length, get_or}
use denote.Param.Members.{Called, Mut}
use Rattle.std.specs.Array.{IsMapOf}

each_made : {A B : Type 0} (h : A → B) (xs : List A) (ys : List B) → length ys ≡ length xs →
    ((i : ℕ) (d : A) (e : B) → i < length xs → get_or ys i e ≡ h (get_or xs i d)) → ys ≡ map h xs
each_made h [] [] n at = refl
each_made h [] (y ∷ ys) n at = absurd (omega arith)
each_made h (x ∷ xs) [] n at = absurd (omega arith)
each_made h (x ∷ xs) (y ∷ ys) n at =
    let first : y ≡ h x = at 0 x y (omega arith) in
    let behind = each_made h xs ys (omega arith) (λ i d e k. at (suc i) d e (omega arith)) in
    λ i. first i ∷ behind i

pub made_by_map : {F A B : Type 0} {g : Mut F (A × Unit {0}) B} {f : F} {xs : List A} {ys : List B} {n : ℕ} (h : A → B) →
    ((p q : F) (x : A) (y : B) → Called g p (x, tt) y q → y ≡ h x) → length xs ≡ n → IsMapOf g f xs ys n → ys ≡ map h xs
made_by_map {xs = xs} {ys = ys} h gives e w =
    each_made h xs ys (omega (arith, e, w.long)) (λ i d a k. let c = w.at i d a (omega (arith, e, k)) in gives c.0 c.1 _ _ c.2)
