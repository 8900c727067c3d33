-- The round trip of a row of numbers: its bytes read as that row, and a code that is all numbers is the bytes of its numbers.
-- Assumes nothing.
use Prim.Native.Nat.{ℕ, zero, suc, ◌+◌, ◌≤◌, ◌<◌}
use native.Mathlib.Omega.{arith}
use mathlib.Core.Path.{◌≡◌, refl, sym, ap}
use mathlib.Core.List.{List, [], ◌∷◌, ◌++◌}
use lib.ListN.{length, drop, get_or, length-append, length-drop}
use lib.Seq.{drop-append_seam, get_or-drop}
use Rattle.coding.specs.Number.{bytes_of, first, Begin, number, none}
use Rattle.coding.specs.Code.{Code, item, end, broken, item_or, first_item, code_from, code_at, values, bytes_of_all}
use Rattle.coding.proofs.Trip.{read_written, written_read, Begins}
use Rattle.coding.specs.Working.Rows.{Taken, taken}
use Rattle.coding.proofs.Bytes.{one≤}

-- a code that is all numbers
abbrev pub Clean : Code → Type 0
Clean (item p v c) = Clean c
Clean (end p) = Unit {0}
Clean (broken cause p) = ⊥

first_item_num : (p : ℕ) (s : List ℕ) (rest : ℕ → Code) (v k : ℕ) → first s ≡ number v k → first_item p s rest ≡ item p v (rest k)
first_item_num p [] rest v k e = let z : ◌≡◌ {A = ℕ} 0 1 = cc in absurd (omega arith)
first_item_num p (b ∷ s) rest v k e = rw e

abbrev Reads : Code → List ℕ → Type 0
Reads c xs = (values c ≡ xs) × Clean c

reads : (xs : List ℕ) (f p : ℕ) → ((i : ℕ) → get_or xs i 0 < 65536) → length (bytes_of_all xs) ≤ f → Reads (code_from f p (bytes_of_all xs)) xs
reads [] zero p small h = (refl, tt)
reads [] (suc f) p small h = (refl, tt)
reads (v ∷ vs) zero p small h = absurd (omega (arith, length-append (bytes_of v) (bytes_of_all vs), one≤ v))
reads (v ∷ vs) (suc f) p small h =
    let room : length (bytes_of_all vs) ≤ f = omega (arith, length-append (bytes_of v) (bytes_of_all vs), one≤ v) in
    let r = reads vs f (p + length (bytes_of v)) (λ i. small (suc i)) room in
    rw (first_item_num p (bytes_of v ++ bytes_of_all vs) (λ k. code_from f (p + k) (drop k (bytes_of v ++ bytes_of_all vs))) v (length (bytes_of v)) (read_written v (bytes_of_all vs) (small 0)), drop-append_seam)
    (ap (◌∷◌ v) r.0, r.1)

-- reading what was written gives the numbers back
pub read_back : (xs : List ℕ) → ((i : ℕ) → get_or xs i 0 < 65536) → (values (code_at (bytes_of_all xs) 0) ≡ xs) × Clean (code_at (bytes_of_all xs) 0)
unfolding code_at
read_back xs small = reads xs (length (bytes_of_all xs)) 0 small (omega arith)

writes : (f p : ℕ) (s : List ℕ) → ((i : ℕ) → get_or s i 0 < 256) → length s ≤ f → Clean (code_from f p s) → bytes_of_all (values (code_from f p s)) ≡ s
writes zero p [] small h c = refl
writes zero p (b ∷ s) small h c = absurd (omega arith)
writes (suc f) p [] small h c = refl
writes (suc f) p (b ∷ s) small h c =
    go (first (b ∷ s)) (written_read (b ∷ s) small) (taken (b ∷ s)) (λ k l. writes f (p + k) (drop k (b ∷ s)) (λ i. rw get_or-drop (small (k + i))) l) c
  where
    go : (m : Begin) → Begins (b ∷ s) m → Taken (length (b ∷ s)) m →
        ((k : ℕ) → length (drop k (b ∷ s)) ≤ f → Clean (code_from f (p + k) (drop k (b ∷ s))) → bytes_of_all (values (code_from f (p + k) (drop k (b ∷ s)))) ≡ drop k (b ∷ s)) →
        Clean (item_or p m (λ k. code_from f (p + k) (drop k (b ∷ s)))) → bytes_of_all (values (item_or p m (λ k. code_from f (p + k) (drop k (b ∷ s))))) ≡ b ∷ s
    go (number v k) g t ih c = rw (ih k (simp length-drop (omega arith)) c) (sym g.1)
    go (none cause) g t ih c = absurd c

-- writing what was read gives the bytes back
pub write_back : (s : List ℕ) → ((i : ℕ) → get_or s i 0 < 256) → Clean (code_at s 0) → bytes_of_all (values (code_at s 0)) ≡ s
unfolding code_at
write_back s small c = writes (length s) 0 s small (omega arith) c
