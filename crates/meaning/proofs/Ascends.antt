-- A strictly ascending list is known by its members; so a requirement's findings are one list. Assumes nothing.
use Prim.Native.Nat.{ℕ, suc, ◌≤◌}
use native.Mathlib.Omega.{arith}
use mathlib.Core.Path.{◌≡◌, refl, sym}
use mathlib.Core.Logic.Iff
use mathlib.Core.Logic.{◌↔◌, ⊎_elim}
use mathlib.Core.List.Memᴰ
use mathlib.Core.List.{List, [], ◌∷◌, Memᴰ}
use Rattle.requirement.specs.Requirement.{Requirement}
use Rattle.meaning.specs.Trace.{Trace}
use Rattle.meaning.specs.Findings.{Ascending, Findings}

low : (n : ℕ) (xs : List ℕ) {i : ℕ} → Ascending n xs → Memᴰ i xs → n ≤ i
low n [] a m = elim m [ ]
low n (x ∷ xs) a (Memᴰ.head e) = omega arith
low n (x ∷ xs) a (Memᴰ.tail m) = omega (arith, low (suc x) xs a.1 m)

-- The tail's members are among the other list's, less its head.
drop_head : {n : ℕ} (x y : ℕ) (xs ys : List ℕ) → x ≡ y → Ascending n (x ∷ xs)
    → ((i : ℕ) → Memᴰ i (x ∷ xs) → Memᴰ i (y ∷ ys)) → (i : ℕ) → Memᴰ i xs → Memᴰ i ys
drop_head x y xs ys e a h i m =
    ⊎_elim (λ (q : i ≡ y). absurd (omega (arith, low (suc x) xs a.1 m))) (λ z. z) (Memᴰ.cases_cons (h i (Memᴰ.tail m)))

pub known : (n : ℕ) (xs ys : List ℕ) → Ascending n xs → Ascending n ys → ((i : ℕ) → Memᴰ i xs ↔ Memᴰ i ys) → xs ≡ ys
known n [] [] a b h = refl
known n [] (y ∷ ys) a b h = absurd (Memᴰ.not-nil ((h y).1 (Memᴰ.head refl)))
known n (x ∷ xs) [] a b h = absurd (Memᴰ.not-nil ((h x).0 (Memᴰ.head refl)))
known n (x ∷ xs) (y ∷ ys) a b h =
    let p : y ≤ x = low y (y ∷ ys) (omega arith, b.1) ((h x).0 (Memᴰ.head refl)) in
    let q : x ≤ y = low x (x ∷ xs) (omega arith, a.1) ((h y).1 (Memᴰ.head refl)) in
    let e : x ≡ y = omega arith in
    let r : xs ≡ ys =
    known (suc x) xs ys a.1 (rw e b.1)
    (λ i. (drop_head {n = n} x y xs ys e a (λ j. (h j).0) i, drop_head {n = n} y x ys xs (sym e) b (λ j. (h j).1) i)) in
    cc

pub one_list : {t : Trace} {f : Requirement} {xs ys : List ℕ} → Findings t f xs → Findings t f ys → xs ≡ ys
one_list {xs = xs} {ys = ys} a b =
    known 0 xs ys a.ascending b.ascending (λ i. Iff.trans (a.exactly i) (Iff.symm (b.exactly i)))
