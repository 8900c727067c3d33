-- "Reading and writing undo each other" (document 01, Coding), for every grammar that is fair: that answers by the numbers alone.
-- Assumes nothing.
use Prim.Native.Nat.{ℕ, ◌+◌, ◌≤◌, ◌<◌}
use native.Mathlib.Omega.{arith}
use mathlib.Core.Path.{◌≡◌, refl, sym, ◌∙◌, ap}
use mathlib.Core.Bool.{Bool, true, false}
use mathlib.Core.List.{List, [], ◌∷◌}
use lib.ListN.{length, take, drop, get_or}
use lib.Seq.{take-append_seam}
use lib.Dec.{leb}
use borrow.Author.Tests.{le-leb, leb-true}
use Rattle.std.specs.Prelude.{Ok, Err}
use Rattle.coding.specs.Refusal.{refused_at, Answer}
use Rattle.coding.specs.Number.{pick}
use Rattle.coding.specs.Code.{Code, code_at, numbered, values, bytes_of_all}
use Rattle.coding.specs.Room.{over, settled, resized, read_by, write_by}
use Rattle.coding.specs.declared.Cause.TheVariants.{ShortBuffer}
use Rattle.coding.proofs.Bytes.{over_eq}
use Rattle.coding.proofs.Trips.{Clean, read_back, write_back}

-- What is accepted is all numbers, as many as were counted; and a row of the same numbers is accepted wherever they stand.
pub record Fair (grammar : Code → Answer) : Type 0 where
  pub counts : (c : Code) (n : ℕ) → grammar c ≡ Ok n → n ≡ length (values c)
  pub clean : (c : Code) (n : ℕ) → grammar c ≡ Ok n → Clean c
  pub alike : (c d : Code) (n : ℕ) → values c ≡ values d → Clean d → grammar c ≡ Ok n → grammar d ≡ Ok n

-- the row of numbers that are handed over
pub numbered_is : (i : ℕ) (xs : List ℕ) → (values (numbered i xs) ≡ xs) × Clean (numbered i xs)
numbered_is i [] = (refl, tt)
numbered_is i (v ∷ xs) = let r = numbered_is (i + 1) xs in (ap (◌∷◌ v) r.0, r.1)

-- what lies at the front of a buffer
pub front : (d xs : List ℕ) → length xs ≤ length d → take (length xs) (over d 0 xs) ≡ xs
front d xs h = let g : 0 + length xs ≤ length d = omega arith in rw (over_eq d 0 xs g) (take-append_seam xs (drop (0 + length xs) d))

-- an answer that found room
abbrev Room : ℕ → Answer → Answer → Type 0
Room room checked (Ok n) = (checked ≡ Ok n) × (n ≤ room)
Room room checked (Err why) = Unit {0}

roomy : (room : ℕ) (checked : Answer) → Room room checked (settled room checked)
roomy room (Err why) = tt
roomy room (Ok n) = go (leb n room) refl
  where
    go : (b : Bool) → leb n room ≡ b → Room room (Ok n) (pick b (Ok n) (refused_at ShortBuffer n))
    go true e = (refl, leb-true _ _ e)
    go false e = tt

accepted : (room n : ℕ) (checked : Answer) → settled room checked ≡ Ok n → (checked ≡ Ok n) × (n ≤ room)
accepted room n checked e = let r : Room room checked (Ok n) = rw e at (roomy room checked) in r

-- a check whose count was changed to bytes
abbrev Sized : ℕ → Answer → Answer → Type 0
Sized m checked (Ok n) = (k : ℕ) × (checked ≡ Ok k) × (n ≡ m)
Sized m checked (Err why) = Unit {0}

sized : (m : ℕ) (checked : Answer) → Sized m checked (resized m checked)
sized m (Ok k) = (k, refl, refl)
sized m (Err why) = tt

module _ {grammar : Code → Answer} (fair : Fair grammar) where
  -- what the writer accepts is read back as the same numbers
  pub written_then_read : (xs : List ℕ) (n : ℕ) → ((i : ℕ) → get_or xs i 0 < 65536) → grammar (numbered 0 xs) ≡ Ok n →
      (grammar (code_at (bytes_of_all xs) 0) ≡ Ok n) × (values (code_at (bytes_of_all xs) 0) ≡ xs)
  written_then_read xs n small e =
      let r = read_back xs small in
      (fair.alike (numbered 0 xs) (code_at (bytes_of_all xs) 0) n ((numbered_is 0 xs).0 ∙ sym r.0) r.1 e, r.0)

  -- what the reader accepts is written back as the same bytes
  pub read_then_written : (s : List ℕ) (n : ℕ) → ((i : ℕ) → get_or s i 0 < 256) → grammar (code_at s 0) ≡ Ok n →
      (grammar (numbered 0 (values (code_at s 0))) ≡ Ok n) × (bytes_of_all (values (code_at s 0)) ≡ s)
  read_then_written s n small e =
      let k = numbered_is 0 (values (code_at s 0)) in
      (fair.alike (code_at s 0) (numbered 0 (values (code_at s 0))) n (sym k.0) k.1 e, write_back s small (fair.clean (code_at s 0) n e))

  -- The bytes that a writer left in its buffer, read with room for their numbers, are these numbers again.
  writing_undone : (xs buf out : List ℕ) (n : ℕ) → ((i : ℕ) → get_or xs i 0 < 65536) → write_by grammar xs buf ≡ Ok n → length xs ≤ length out →
      (read_by grammar (take n (over buf 0 (bytes_of_all xs))) out ≡ Ok (length xs)) × (values (code_at (take n (over buf 0 (bytes_of_all xs))) 0) ≡ xs)
  writing_undone xs buf out n small e room =
      let a = accepted (length buf) n (resized (length (bytes_of_all xs)) (grammar (numbered 0 xs))) e in
      let z : Sized (length (bytes_of_all xs)) (grammar (numbered 0 xs)) (Ok n) = rw a.0 at (sized (length (bytes_of_all xs)) (grammar (numbered 0 xs))) in
      let b : take n (over buf 0 (bytes_of_all xs)) ≡ bytes_of_all xs = rw z.2 (front buf (bytes_of_all xs) (omega arith)) in
      let k : z.0 ≡ length xs = fair.counts (numbered 0 xs) z.0 z.1 ∙ ap length (numbered_is 0 xs).0 in
      let r = written_then_read xs z.0 small z.1 in
      (rw (b, r.0, k, le-leb _ _ room), rw b r.1)

  -- The numbers that a reader left in its buffer, written with room for their bytes, are these bytes again.
  reading_undone : (s out buf : List ℕ) (n : ℕ) → ((i : ℕ) → get_or s i 0 < 256) → read_by grammar s out ≡ Ok n → length s ≤ length buf →
      (write_by grammar (take n (over out 0 (values (code_at s 0)))) buf ≡ Ok (length s)) × (bytes_of_all (take n (over out 0 (values (code_at s 0)))) ≡ s)
  reading_undone s out buf n small e room =
      let a = accepted (length out) n (grammar (code_at s 0)) e in
      let k : n ≡ length (values (code_at s 0)) = fair.counts (code_at s 0) n a.0 in
      let b : take n (over out 0 (values (code_at s 0))) ≡ values (code_at s 0) = rw k (front out (values (code_at s 0)) (omega arith)) in
      let r = read_then_written s n small a.0 in
      (rw (b, r.0, r.1, le-leb _ _ room), rw b r.1)

-- Both: what was written, read with room for it, is the numbers again; and what was read, written with room for it, the bytes.
abbrev pub Undone : (Code → Answer) → Type 0
Undone grammar =
    ((xs buf out : List ℕ) (n : ℕ) → ((i : ℕ) → get_or xs i 0 < 65536) → write_by grammar xs buf ≡ Ok n → length xs ≤ length out →
    (read_by grammar (take n (over buf 0 (bytes_of_all xs))) out ≡ Ok (length xs)) × (values (code_at (take n (over buf 0 (bytes_of_all xs))) 0) ≡ xs))
    × ((s out buf : List ℕ) (n : ℕ) → ((i : ℕ) → get_or s i 0 < 256) → read_by grammar s out ≡ Ok n → length s ≤ length buf →
    (write_by grammar (take n (over out 0 (values (code_at s 0)))) buf ≡ Ok (length s)) × (bytes_of_all (take n (over out 0 (values (code_at s 0)))) ≡ s))

pub undone : {grammar : Code → Answer} → Fair grammar → Undone grammar
undone fair = (writing_undone fair, reading_undone fair)
