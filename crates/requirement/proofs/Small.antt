-- Every number of a requirement's code is below 128. So it is one of the coding, and it is its own byte.
-- Assumes nothing.
use Prim.Native.Nat.{ℕ, zero, suc, ◌≤◌, ◌<◌}
use native.Mathlib.Omega.{arith}
use mathlib.Core.Path.{◌≡◌, refl}
use mathlib.Core.List.{List, [], ◌∷◌, ◌++◌}
use lib.ListN.{get_or}
use lib.Dec.{lit<}
use Rattle.coding.specs.Code.{bytes_of_all}
use Rattle.coding.proofs.Bytes.{bytes₁}
use Rattle.requirement.specs.Requirement.{Requirement, atom, mark, one, two}
use Rattle.requirement.specs.Tags.{code_of, mark_no, family_no, one_no, two_no}
use Rattle.requirement.specs.Limits.{Allowed}
use Rattle.requirement.specs.declared.Kind.{Kind}
use Rattle.requirement.specs.declared.Phase.{Phase}
use Rattle.requirement.specs.declared.Phase.TheVariants.{Input, Exe, Output}
use Rattle.requirement.specs.declared.End.TheVariants.{Reads, Writes}
use Rattle.requirement.specs.declared.Family.{Family}
use Rattle.requirement.specs.declared.Family.TheVariants.{Plain, Within, Each}
use Rattle.requirement.specs.declared.One.{One}
use Rattle.requirement.specs.declared.One.TheVariants.{Not, Next, Ever, Always}
use Rattle.requirement.specs.declared.Two.{Two}
use Rattle.requirement.specs.declared.Two.TheVariants.{And, Until}

abbrev Short : List ℕ → Type 0
Short xs = (i : ℕ) → get_or xs i 0 < 128

short_cons : (v : ℕ) (xs : List ℕ) → v < 128 → Short xs → Short (v ∷ xs)
short_cons v xs h s zero = h
short_cons v xs h s (suc i) = s i

short_append : (xs ys : List ℕ) → Short xs → Short ys → Short (xs ++ ys)
short_append [] ys s t i = t i
short_append (x ∷ xs) ys s t zero = s 0
short_append (x ∷ xs) ys s t (suc i) = short_append xs ys (λ j. s (suc j)) t i

family_short : (c : Family) → family_no c ≤ 20
family_short Plain = omega arith
family_short Within = omega arith
family_short (Each Reads) = omega arith
family_short (Each Writes) = omega arith

mark_short : (p : Phase) → mark_no p < 128
mark_short Input = lit< tt
mark_short Exe = lit< tt
mark_short Output = lit< tt

one_short : (o : One) → one_no o < 128
one_short Not = lit< tt
one_short (Next c) = omega (arith, family_short c)
one_short (Ever c) = omega (arith, family_short c)
one_short (Always c) = omega (arith, family_short c)

two_short : (o : Two) → two_no o < 128
two_short And = lit< tt
two_short (Until c) = omega (arith, family_short c)

short : (kind : Kind) (f : Requirement) → Allowed kind f → Short (code_of f)
unfolding code_of Allowed
short kind (atom k) a = short_cons 0 (k ∷ []) (lit< tt) (short_cons k [] (omega arith) (λ i. lit< tt))
short kind (mark p) a = short_cons (mark_no p) [] (mark_short p) (λ i. lit< tt)
short kind (one o f) a = short_cons (one_no o) (code_of f) (one_short o) (short kind f a.1)
short kind (two o f g) a =
    short_cons (two_no o) (code_of f ++ code_of g) (two_short o)
    (short_append (code_of f) (code_of g) (short kind f a.1) (short kind g a.2))

pub small : (kind : Kind) (f : Requirement) → Allowed kind f → (i : ℕ) → get_or (code_of f) i 0 < 65536
small kind f a i = omega (arith, short kind f a i)

-- numbers below 128 are their own bytes
as_bytes : (xs : List ℕ) → Short xs → bytes_of_all xs ≡ xs
as_bytes [] s = refl
as_bytes (x ∷ xs) s = rw (bytes₁ x (s 0), as_bytes xs (λ i. s (suc i)))

pub own_bytes : (kind : Kind) (f : Requirement) → Allowed kind f → bytes_of_all (code_of f) ≡ code_of f
own_bytes kind f a = as_bytes (code_of f) (short kind f a)
