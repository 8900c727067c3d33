-- Bytes put into a buffer one after another are their row put there; where the room runs out, the rest is dropped.
-- Assumes nothing.
use Prim.Native.Nat.{ℕ, ◌+◌, ◌≤◌, ◌<◌, min}
use native.Mathlib.Omega.{arith}
use mathlib.Core.Path.{◌≡◌, refl, sym, ◌∙◌, ap}
use mathlib.Core.Bool.{Bool, true, false}
use mathlib.Core.List.{List, [], ◌∷◌, ◌++◌}
use lib.ListN.{length, set, length-append}
use lib.Dec.{ltb}
use borrow.Author.Tests.{ltb-true, ltb-false}
use Rattle.coding.specs.Room.{over}
use Rattle.coding.proofs.Bytes.{store₁, over_nil, over_length, over_append, over_full}
use Rattle.translate.specs.Writing.{Put, Puts}
use Rattle.translate.specs.declared.writing.Writing.{Writing}

-- the buffer keeps its length, and the place stays within it
pub put_length : {d e xs : List ℕ} {at r : ℕ} → Put d at xs e r → (length e ≡ length d) × (r ≤ length d)
put_length {d} {e} {xs} {at} p = (ap length p.holds ∙ over_length d at xs, omega (arith, p.after))

-- ---- one byte, and none
module _ (d : List ℕ) (at : ℕ) where
  pub put_there : (b : ℕ) → at < length d → Put d at (b ∷ []) (set d at b) (at + 1)
  put_there b h = record { holds = store₁ d at b; after = omega arith }

  pub put_dropped : (b : ℕ) → at ≤ length d → length d ≤ at → Put d at (b ∷ []) d at
  put_dropped b h l = record { holds = sym (over_full d at (b ∷ []) l); after = omega arith }

  pub put_none : at ≤ length d → Put d at [] d at
  put_none h = record { holds = sym (over_nil d at); after = omega arith }

-- ---- rows
at_most : (e : List ℕ) (n : ℕ) (ys : List ℕ) → over e (min (length e) n) ys ≡ over e n ys
at_most e n ys = go (ltb (length e) n) refl
  where
    go : (b : Bool) → ltb (length e) n ≡ b → over e (min (length e) n) ys ≡ over e n ys
    go true t =
        let h : length e ≤ n = omega (arith, ltb-true (length e) n t) in
        over_full e (min (length e) n) ys (omega arith) ∙ sym (over_full e n ys h)
    go false t = let q : min (length e) n ≡ n = omega (arith, ltb-false (length e) n t) in rw q

pub joined : {d d₁ d₂ xs ys : List ℕ} {at r₁ r₂ : ℕ} → Put d at xs d₁ r₁ → Put d₁ r₁ ys d₂ r₂ → Put d at (xs ++ ys) d₂ r₂
joined {d} {d₁} {d₂} {xs} {ys} {at} {r₁} {r₂} p q =
    let l : length d₁ ≡ length d = (put_length p).0 in
    let r : r₁ ≡ min (length d₁) (at + length xs) = p.after ∙ rw l in
    record {
      holds = q.holds ∙ rw (r, at_most d₁ (at + length xs) ys, p.holds) (over_append d at xs ys);
      after = omega (arith, p.after, q.after, length-append xs ys);
    }

-- ---- the same of the buffer with its place
pub puts_none : (a : Writing) → Puts [] a a
puts_none a = record { put = put_none a.out.now a.place a.within; same = refl }

pub puts_both : {xs ys : List ℕ} {a b c : Writing} → Puts xs a b → Puts ys b c → Puts (xs ++ ys) a c
puts_both p q = record { put = joined p.put q.put; same = q.same ∙ p.same }
