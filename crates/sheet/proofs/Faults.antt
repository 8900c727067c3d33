-- No fault of a sheet's numbers, texts and entries is that a name is absent: refusal 11 is the search's alone.
-- Assumes nothing.
use Prim.Native.Nat.{ℕ, zero, suc, ◌+◌, ◌-◌}
use native.Mathlib.Omega.{arith}
use mathlib.Core.Path.{◌≡◌}
use mathlib.Core.List.{List, [], ◌∷◌}
use lib.ListN.{length, drop}
use lib.Dec.{ltb, leb, eqb}
use Rattle.coding.specs.Refusal.{NumberRead, Answer}
use Rattle.std.specs.Prelude.{Ok, Err}
use Rattle.coding.specs.Number.{Begin, number, none as no_number, first, second, third, placed, number_at}
use Rattle.coding.specs.declared.Cause.{Cause}
use Rattle.coding.specs.declared.Cause.TheVariants.{CutShort, NotShortest, TooLarge, LeftOver, NotAllowed, NameAbsent}
use Rattle.sheet.specs.Sheet.{longest_name, name_of, name_at, body_after, entry_of, entry_at, check_entry, check_from, EntryAt}
use Rattle.coding.specs.Block.{block_of, block_at, BlockAt}
use Rattle.sheet.proofs.Laws.{by}

abbrev pub NotAbsent : Cause → Type 0
NotAbsent cause = cause ≡ NameAbsent → ⊥

abbrev pub BeginFault : Begin → Type 0
BeginFault (number v k) = Unit {0}
BeginFault (no_number cause) = NotAbsent cause

cut_short : NotAbsent CutShort
cut_short e = let z : ◌≡◌ {A = ℕ} 0 1 = cc in omega arith

not_shortest : NotAbsent NotShortest
not_shortest e = let z : ◌≡◌ {A = ℕ} 0 1 = cc in omega arith

too_large : NotAbsent TooLarge
too_large e = let z : ◌≡◌ {A = ℕ} 0 1 = cc in omega arith

left_over : NotAbsent LeftOver
left_over e = let z : ◌≡◌ {A = ℕ} 0 1 = cc in omega arith

pub not_allowed : NotAbsent NotAllowed
not_allowed e = let z : ◌≡◌ {A = ℕ} 0 1 = cc in omega arith

begin_fault : (s : List ℕ) → BeginFault (first s)
begin_fault [] = cut_short
begin_fault (a ∷ s) = by BeginFault (ltb a 128) (λ t. tt) (λ t. two s)
  where
    three : (x : ℕ) (r : List ℕ) → BeginFault (third x r)
    three x [] = cut_short
    three x (c ∷ r) =
        by BeginFault (eqb c 0) (λ t. not_shortest) (λ t. by BeginFault (ltb 3 c) (λ u. too_large) (λ u. tt))

    two : (r : List ℕ) → BeginFault (second (a - 128) r)
    two [] = cut_short
    two (b ∷ r) =
        by BeginFault (eqb b 0) (λ t. not_shortest) (λ t. by BeginFault (ltb b 128) (λ u. tt) (λ u. three _ r))

module _ (s : List ℕ) where
  abbrev pub NumberFault : NumberRead → Type 0
  NumberFault (Ok num) = Unit {0}
  NumberFault (Err why) = NotAbsent why.cause

  pub number_fault : (at : ℕ) → NumberFault (number_at s at)
  unfolding number_at
  number_fault at = go (first (drop at s)) (begin_fault (drop at s))
    where
      go : (m : Begin) → BeginFault m → NumberFault (placed at m)
      go (number v k) h = tt
      go (no_number cause) h = h

  abbrev TextFault : BlockAt → Type 0
  TextFault (Ok span) = Unit {0}
  TextFault (Err why) = NotAbsent why.cause

  text_fault : (at : ℕ) → TextFault (block_at s at)
  unfolding block_at
  text_fault at = go (number_at s at) (number_fault at)
    where
      go : (m : NumberRead) → NumberFault m → TextFault (block_of s at m)
      go (Ok num) h = by TextFault (leb (num.next + num.value) (length s)) (λ t. tt) (λ t. cut_short)
      go (Err why) h = h

  name_fault : (at : ℕ) → TextFault (name_at s at)
  unfolding name_at
  name_fault at = go (number_at s at) (number_fault at)
    where
      go : (m : NumberRead) → NumberFault m → TextFault (name_of s at m)
      go (Ok num) h =
          by TextFault (eqb num.value 0) (λ t. not_allowed)
          (λ t. by TextFault (ltb longest_name num.value) (λ u. not_allowed) (λ u. text_fault at))
      go (Err why) h = h

  abbrev EntryFault : EntryAt → Type 0
  EntryFault (Ok entry) = Unit {0}
  EntryFault (Err why) = NotAbsent why.cause

  entry_fault : (at : ℕ) → EntryFault (entry_at s at)
  unfolding entry_at
  entry_fault at = named (name_at s at) (name_fault at)
    where
      bodied : (begin end : ℕ) (t : BlockAt) → TextFault t → EntryFault (body_after begin end t)
      bodied begin end (Ok span) h = tt
      bodied begin end (Err why) h = h

      named : (t : BlockAt) → TextFault t → EntryFault (entry_of s t)
      named (Ok span) h = bodied span.begin span.end (block_at s span.end) (text_fault span.end)
      named (Err why) h = h

  abbrev pub CheckFault : Answer → Type 0
  CheckFault (Ok n) = Unit {0}
  CheckFault (Err why) = NotAbsent why.cause

  pub check_fault : (count left at : ℕ) → CheckFault (check_from s count left at)
  unfolding check_from
  check_fault count zero at = by CheckFault (ltb at (length s)) (λ t. left_over) (λ t. tt)
  check_fault count (suc left) at = go (entry_at s at) (entry_fault at) (λ next. check_fault count left next)
    where
      go : (n : EntryAt) → EntryFault n → ((next : ℕ) → CheckFault (check_from s count left next)) →
          CheckFault (check_entry (λ next. check_from s count left next) n)
      go (Ok entry) h rest = rest entry.body.end
      go (Err why) h rest = h
