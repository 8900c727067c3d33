-- The bytes of a sheet fix its entries: two lists of entries with the same bytes are the same, whether they are
-- allowed or not.
-- Assumes nothing.
use Prim.Native.Nat.{ℕ, ◌+◌, ◌-◌, ◌*◌, ◌/◌, ◌%◌, ◌≤◌, ◌<◌}
use native.Mathlib.Omega.{arith}
use mathlib.Core.Path.{◌≡◌, refl, sym, ◌∙◌, ap}
use mathlib.Core.List.{List, [], ◌∷◌, ◌++◌, append_assoc}
use mathlib.Core.Bool.{Bool, true, false}
use lib.ListN.{length, get_or}
use lib.Seq.{take-append_seam, drop-append_seam}
use lib.Dec.{ltb}
use borrow.Author.Tests.{lt-ltb, le-ltb, ltb-true, ltb-false}
use Rattle.coding.specs.Number.{pick, bytes_of}
use Rattle.coding.proofs.Bytes.{bytes₁, bytes₂, bytes₃}
use Rattle.sheet.specs.MadeUp.{NamedBody, entry_bytes, entries_bytes, sheet_bytes}

-- the number that bytes begin with, of any size: the coding's own reader refuses what is above 65,535
abbrev lead : List ℕ → ℕ
lead s =
    pick (ltb (get_or s 0 0) 128) (get_or s 0 0)
    (pick (ltb (get_or s 1 0) 128) (get_or s 0 0 - 128 + get_or s 1 0 * 128)
    (get_or s 0 0 - 128 + (get_or s 1 0 - 128) * 128 + get_or s 2 0 * 16384))

lead_is : (v : ℕ) (rest : List ℕ) → lead (bytes_of v ++ rest) ≡ v
lead_is v rest = go (ltb v 128) (ltb v 16384) refl refl
  where
    go : (p q : Bool) → ltb v 128 ≡ p → ltb v 16384 ≡ q → lead (bytes_of v ++ rest) ≡ v
    go true q e f = rw (bytes₁ v (ltb-true _ _ e), e)
    go false true e f =
        let h : 128 ≤ v = ltb-false _ _ e in
        let g : v < 16384 = ltb-true _ _ f in
        let m : v / 128 < 128 = omega arith in
        let hi : 128 ≤ v % 128 + 128 = omega arith in
        let back : v % 128 + 128 - 128 + v / 128 * 128 ≡ v = omega arith in
        rw (bytes₂ v h g, le-ltb _ _ hi, lt-ltb _ _ m, back)
    go false false e f =
        let g : 16384 ≤ v = ltb-false _ _ f in
        let hi : 128 ≤ v % 128 + 128 = omega arith in
        let hi₁ : 128 ≤ v / 128 % 128 + 128 = omega arith in
        let back : v % 128 + 128 - 128 + (v / 128 % 128 + 128 - 128) * 128 + v / 16384 * 16384 ≡ v = omega arith in
        rw (bytes₃ v g, le-ltb _ _ hi, le-ltb _ _ hi₁, back)

-- parts of one length in front of a rest
same_part : (t u r q : List ℕ) → length t ≡ length u → t ++ r ≡ u ++ q → (t ≡ u) × (r ≡ q)
same_part t u r q l e = (
  sym (take-append_seam t r) ∙ rw (l, e) (take-append_seam u q),
  sym (drop-append_seam t r) ∙ rw (l, e) (drop-append_seam u q),
)

same_number : (v w : ℕ) (r q : List ℕ) → bytes_of v ++ r ≡ bytes_of w ++ q → (v ≡ w) × (r ≡ q)
same_number v w r q e =
    let same : v ≡ w = sym (lead_is v r) ∙ ap (λ (s : List ℕ). lead s) e ∙ lead_is w q in
    (same, (same_part (bytes_of v) (bytes_of w) r q (ap (λ (n : ℕ). length (bytes_of n)) same) e).1)

same_text : (t u r q : List ℕ) → bytes_of (length t) ++ (t ++ r) ≡ bytes_of (length u) ++ (u ++ q) → (t ≡ u) × (r ≡ q)
same_text t u r q e = let n = same_number (length t) (length u) (t ++ r) (u ++ q) e in same_part t u r q n.0 n.1

same_entry : (e f : NamedBody) (r q : List ℕ) → entry_bytes e ++ r ≡ entry_bytes f ++ q → (e ≡ f) × (r ≡ q)
unfolding entry_bytes
same_entry e f r q h =
    let n = same_text e.name f.name (bytes_of (length e.body) ++ (e.body ++ r))
    (bytes_of (length f.body) ++ (f.body ++ q)) (simp append_assoc at h) in
    let b = same_text e.body f.body r q n.1 in
    (λ i. record { name = n.0 i; body = b.0 i }, b.1)

same_entries : (es fs : List NamedBody) → length es ≡ length fs → entries_bytes es ≡ entries_bytes fs → es ≡ fs
unfolding entries_bytes
same_entries [] [] l e = refl
same_entries [] (f ∷ fs) l e = absurd (omega arith)
same_entries (e ∷ es) [] l h = absurd (omega arith)
same_entries (e ∷ es) (f ∷ fs) l h =
    let s = same_entry e f (entries_bytes es) (entries_bytes fs) h in
    rw (s.0, same_entries es fs (omega arith) s.1)

pub one_sheet : (es fs : List NamedBody) → sheet_bytes es ≡ sheet_bytes fs → es ≡ fs
unfolding sheet_bytes
one_sheet es fs e =
    let n = same_number (length es) (length fs) (entries_bytes es) (entries_bytes fs) e in
    same_entries es fs n.0 n.1
