-- What the definitions of a sheet say on each way through the code, and that what they name lies inside the sheet.
-- Assumes nothing.
use Prim.Native.Nat.{ℕ, zero, suc, ◌+◌, ◌-◌, ◌≤◌, ◌<◌}
use native.Mathlib.Omega.{arith}
use mathlib.Core.Path.{◌≡◌, refl, sym}
use mathlib.Core.List.{List, [], ◌∷◌}
use mathlib.Core.Bool.{Bool, true, false}
use lib.ListN.{length}
use lib.Dec.{ltb, leb, eqb}
use borrow.Author.Tests.{lt-ltb, le-ltb, eq-eqb, ne_eqb, leb-true, ltb-false, eqb-true, eqb-false}
use Rattle.coding.specs.Refusal.{NumberRead, value_then, refused_at}
use Rattle.std.specs.Prelude.{Ok, Err}
use Rattle.coding.specs.Number.{pick, number_at}
use Rattle.coding.specs.declared.Cause.TheVariants.{LeftOver, NameAbsent}
use Rattle.sheet.specs.Sheet.{eqbs, name_of, name_at, body_after, entry_of, entry_at, check_entry, check_from, seek_entry, seek_from, find_in, longest_name, most_entries, EntryAt, entry_from}
use Rattle.coding.proofs.Blocks.{block_by_number}
use Rattle.coding.specs.Block.{block_of, block_at, BlockAt, span_from}

-- a fact about a choice, from the fact about each side
pub by : {A : Type 0} (P : A → Type 0) (t : Bool) {x y : A} → (t ≡ true → P x) → (t ≡ false → P y) → P (pick t x y)
by P true f g = f refl
by P false f g = g refl

-- ---- two texts
pub eqbs_eq : (xs ys : List ℕ) → eqbs xs ys ≡ true → xs ≡ ys
eqbs_eq [] [] e = refl
eqbs_eq [] (y ∷ ys) e = cc
eqbs_eq (x ∷ xs) [] e = cc
eqbs_eq (x ∷ xs) (y ∷ ys) e = by (λ b. b ≡ true → x ∷ xs ≡ y ∷ ys) (eqb x y) (λ t h. rw (eqb-true x y t, eqbs_eq xs ys h)) (λ t h. cc) e

eqbs_refl : (xs : List ℕ) → eqbs xs xs ≡ true
eqbs_refl [] = refl
eqbs_refl (x ∷ xs) = rw (eq-eqb x x refl) (eqbs_refl xs)

pub eqbs_same : (xs ys : List ℕ) → xs ≡ ys → eqbs xs ys ≡ true
eqbs_same xs ys e = rw e (eqbs_refl ys)

pub eqbs_other : (xs ys : List ℕ) → eqbs xs ys ≡ false → xs ≡ ys → ⊥
eqbs_other xs ys n e = let y = eqbs_same xs ys e in let z : ◌≡◌ {A = ℕ} 0 1 = cc in omega arith

pub same_is : (xs ys : List ℕ) (r : Bool) → (r ≡ true → xs ≡ ys) → (xs ≡ ys → r ≡ true) → r ≡ eqbs xs ys
same_is xs ys true f g = sym (eqbs_same xs ys (f refl))
same_is xs ys false f g = go (eqbs xs ys) (λ e. g (eqbs_eq xs ys e))
  where
    go : (b : Bool) → (b ≡ true → false ≡ true) → false ≡ b
    go true h = h refl
    go false h = refl

-- ---- the ways through `name_at`
module _ (s : List ℕ) (at : ℕ) where
  module _ (n begin : ℕ) (q : value_then n begin ≡ number_at s at) where
    module _ (nz : n ≡ 0 → ⊥) where
      pub name_fits : n ≤ longest_name → block_at s at ≡ name_at s at
      unfolding name_at
      name_fits l = rw (← q, ne_eqb _ _ nz, le-ltb _ _ l)

-- ---- the ways through `entry_at`
module _ (s : List ℕ) (at : ℕ) where
  module _ (name name_end : ℕ) (q : span_from name name_end ≡ name_at s at) where
    pub entry_whole : (body body_end : ℕ) → span_from body body_end ≡ block_at s name_end → entry_from name name_end body body_end ≡ entry_at s at
    unfolding entry_at
    entry_whole body body_end r = rw (← q, ← r)

-- ---- the turns of `check_entries`
module _ (s : List ℕ) (count : ℕ) where
  pub check_end : (left at : ℕ) → left ≤ 0 → check_from s count left at ≡ pick (ltb at (length s)) (refused_at LeftOver at) (Ok count)
  unfolding check_from
  check_end zero at h = refl
  check_end (suc left) at h = absurd (omega arith)

  pub check_turn : (left at : ℕ) → 0 < left → check_from s count left at ≡ check_entry (λ next. check_from s count (left - 1) next) (entry_at s at)
  unfolding check_from
  check_turn zero at h = absurd (omega arith)
  check_turn (suc left) at h = let one : suc left - 1 ≡ left = omega arith in rw one

  module _ (left at : ℕ) where
    pub check_over : left ≤ 0 → at < length s → refused_at LeftOver at ≡ check_from s count left at
    check_over h l = rw (check_end left at h, lt-ltb _ _ l)

    pub check_done : left ≤ 0 → length s ≤ at → Ok count ≡ check_from s count left at
    check_done h l = rw (check_end left at h, le-ltb _ _ l)

-- ---- the turns of `seek`
module _ (s name : List ℕ) where
  pub seek_end : (left at : ℕ) → left ≤ 0 → refused_at NameAbsent 0 ≡ seek_from s name left at
  unfolding seek_from
  seek_end zero at h = refl
  seek_end (suc left) at h = absurd (omega arith)

  pub seek_turn : (left at : ℕ) → 0 < left → seek_from s name left at ≡ seek_entry s name (λ next. seek_from s name (left - 1) next) (entry_at s at)
  unfolding seek_from
  seek_turn zero at h = absurd (omega arith)
  seek_turn (suc left) at h = let one : suc left - 1 ≡ left = omega arith in rw one

-- ---- the ways through `find`
module _ (s name : List ℕ) where
  module _ (count start : ℕ) (q : value_then count start ≡ number_at s 0) where
    module _ (l : count ≤ most_entries) where
      pub find_sought : (n : ℕ) → Ok n ≡ check_from s count count start → seek_from s name count start ≡ find_in s name
      unfolding find_in
      find_sought n r = rw (← q, le-ltb _ _ l, ← r)

-- ---- what is named lies inside the sheet, and a name has 1 to 16 bytes
abbrev TextInside : List ℕ → BlockAt → Type 0
TextInside s (Ok span) = (span.begin ≤ span.end) × (span.end ≤ length s)
TextInside s (Err why) = Unit {0}

abbrev NameInside : List ℕ → BlockAt → Type 0
NameInside s (Ok span) = (span.begin < span.end) × (span.end ≤ span.begin + longest_name) × (span.end ≤ length s)
NameInside s (Err why) = Unit {0}

abbrev EntryInside : List ℕ → EntryAt → Type 0
EntryInside s (Ok entry) = (entry.name.begin < entry.name.end) × (entry.name.end ≤ entry.name.begin + longest_name) × (entry.name.end ≤ length s) × (entry.body.begin ≤ entry.body.end) × (entry.body.end ≤ length s)
EntryInside s (Err why) = Unit {0}

module _ (s : List ℕ) where
  text_inside : (at : ℕ) → TextInside s (block_at s at)
  unfolding block_at
  text_inside at = go (number_at s at)
    where
      go : (m : NumberRead) → TextInside s (block_of s at m)
      go (Ok num) = by (TextInside s) (leb (num.next + num.value) (length s)) (λ t. (omega arith, leb-true _ _ t)) (λ _. tt)
      go (Err why) = tt

  name_inside : (at : ℕ) → NameInside s (name_at s at)
  unfolding name_at
  name_inside at = go (number_at s at) refl
    where
      go : (m : NumberRead) → m ≡ number_at s at → NameInside s (name_of s at m)
      go (Ok num) q =
          by (NameInside s) (eqb num.value 0) (λ _. tt) (λ z.
          by (NameInside s) (ltb longest_name num.value) (λ _. tt) (λ l.
          rw (block_by_number s at num.value num.next q)
          (by (NameInside s) (leb (num.next + num.value) (length s))
          (λ t. let d = eqb-false num.value 0 z in let k = ltb-false longest_name num.value l in (omega arith, omega arith, leb-true _ _ t))
          (λ _. tt))))
      go (Err why) q = tt

  entry_inside : (at : ℕ) → EntryInside s (entry_at s at)
  unfolding entry_at
  entry_inside at = named (name_at s at) (name_inside at)
    where
      bodied : (begin end : ℕ) → NameInside s (span_from begin end) → (t : BlockAt) → TextInside s t → EntryInside s (body_after begin end t)
      bodied begin end h (Ok span) k = (h.0, h.1, h.2, k.0, k.1)
      bodied begin end h (Err why) k = tt

      named : (t : BlockAt) → NameInside s t → EntryInside s (entry_of s t)
      named (Ok span) h = bodied span.begin span.end h (block_at s span.end) (text_inside span.end)
      named (Err why) h = tt

  pub inside : (at begin end body body_end : ℕ) → entry_from begin end body body_end ≡ entry_at s at → EntryInside s (entry_from begin end body body_end)
  inside at begin end body body_end q = rw (← q) at (entry_inside at)

-- what the functions' proofs go by

pub ruleset checks = (check_end, check_turn, check_over, check_done)

pub ruleset seeks = (seek_end, seek_turn)
