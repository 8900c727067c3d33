-- What a lookup finds, in the words of document 01: "of equal names the first counts"; "a name asked for with length 0 or above 16 is absent".
-- Assumes nothing.
use Prim.Native.Nat.{ℕ, zero, suc, ◌≤◌, ◌<◌}
use native.Mathlib.Omega.{arith}
use mathlib.Core.Path.{◌≡◌, refl, sym, ◌∙◌, ap}
use mathlib.Core.Logic.{◌↔◌, ◌⊎◌, ⊎_elim}
use mathlib.Core.List.{List}
use mathlib.Core.Bool.{false}
use lib.ListN.{length, length-take, length-drop}
use lib.Dec.{ltb}
use borrow.Author.Tests.{ltb-false}
use Rattle.coding.specs.Refusal.{NumberRead, Answer, value_then, refused_at}
use Rattle.std.specs.Prelude.{Ok, Err}
use Rattle.coding.specs.Number.{number_at}
use Rattle.coding.specs.declared.Cause.TheVariants.{NameAbsent}
use Rattle.sheet.specs.Sheet.{most_entries, longest_name, eqbs, part, entry_at, check_entry, check_from, seek_entry, seek_from, sought, find_after, find_in, EntryAt, Lookup, entry_from}
use Rattle.coding.specs.Block.{span_from}
use Rattle.sheet.proofs.Laws.{by, eqbs_eq, eqbs_same, eqbs_other, same_is, inside, find_sought}

-- A sheet that is accepted: a count of at most 32, so many entries from `start` on, and nothing after them.
pub record Accepted (s : List ℕ) (count start : ℕ) : Type 0 where
  pub counted : number_at s 0 ≡ value_then count start
  pub few : count ≤ most_entries
  pub whole : check_from s count count start ≡ Ok count

-- Of `left` entries from `at` on, the first with the name has the body from one place to another:
-- the entry at `at` has the name and that body, or it has another name and the first is among those after it.
pub data First (s name : List ℕ) : ℕ → ℕ → ℕ → ℕ → Type 0 where
  here : {left at begin end body body_end : ℕ} → entry_at s at ≡ entry_from begin end body body_end → part s begin end ≡ name →
      First s name (suc left) at body body_end
  later : {left at begin end body next b e : ℕ} → entry_at s at ≡ entry_from begin end body next → (part s begin end ≡ name → ⊥) →
      First s name left next b e → First s name (suc left) at b e

module _ (s name : List ℕ) where
  -- ---- the search
  abbrev Sought : ℕ → ℕ → Lookup → Type 0
  Sought left at (Ok span) = First s name left at span.begin span.end
  Sought left at (Err why) = Unit {0}

  seek_first : (left at : ℕ) → Sought left at (seek_from s name left at)
  unfolding seek_from
  seek_first zero at = tt
  seek_first (suc left) at = go (entry_at s at) refl (λ next. seek_first left next)
    where
      after : {begin end body next : ℕ} → entry_at s at ≡ entry_from begin end body next → (part s begin end ≡ name → ⊥) →
          (f : Lookup) → Sought left next f → Sought (suc left) at f
      after q d (Ok span) h = later q d h
      after q d (Err why) h = tt

      go : (n : EntryAt) → entry_at s at ≡ n → ((next : ℕ) → Sought left next (seek_from s name left next)) →
          Sought (suc left) at (seek_entry s name (λ next. seek_from s name left next) n)
      go (Ok entry) q rest =
          by (Sought (suc left) at) (eqbs (part s entry.name.begin entry.name.end) name)
          (λ t. here q (eqbs_eq _ _ t))
          (λ t. after q (eqbs_other _ _ t) (seek_from s name left entry.body.end) (rest entry.body.end))
      go (Err why) q rest = tt

  first_sought : {left at b e : ℕ} → First s name left at b e → seek_from s name left at ≡ span_from b e
  unfolding seek_from
  first_sought (here q n) = rw (q, eqbs_same _ _ n)
  first_sought (later q d f) = rw (q, ← same_is _ _ false (λ h. cc) (λ h. absurd (d h))) (first_sought f)

  none_sought : (count left at : ℕ) → check_from s count left at ≡ Ok count → ((b e : ℕ) → First s name left at b e → ⊥) →
      seek_from s name left at ≡ refused_at NameAbsent 0
  unfolding seek_from check_from
  none_sought count zero at c none = refl
  none_sought count (suc left) at c none = go (entry_at s at) refl c (λ next. none_sought count left next)
    where
      go : (n : EntryAt) → entry_at s at ≡ n → check_entry (λ next. check_from s count left next) n ≡ Ok count →
          ((next : ℕ) → check_from s count left next ≡ Ok count → ((b e : ℕ) → First s name left next b e → ⊥) →
          seek_from s name left next ≡ refused_at NameAbsent 0) →
          seek_entry s name (λ next. seek_from s name left next) n ≡ refused_at NameAbsent 0
      go (Ok entry) q c rest =
          by (λ f. f ≡ refused_at NameAbsent 0) (eqbs (part s entry.name.begin entry.name.end) name)
          (λ t. absurd (none entry.body.begin entry.body.end (here q (eqbs_eq _ _ t))))
          (λ t. rest entry.body.end c (λ b e f. none b e (later q (eqbs_other _ _ t) f)))
      go (Err why) q c rest = cc

  -- ---- the whole lookup
  abbrev pub Counts : ℕ → Answer → Type 0
  Counts count (Ok n) = n ≡ count
  Counts count (Err why) = Unit {0}

  pub check_counts : (count left at : ℕ) → Counts count (check_from s count left at)
  unfolding check_from
  check_counts count zero at = by (Counts count) (ltb at (length s)) (λ _. tt) (λ _. refl)
  check_counts count (suc left) at = go (entry_at s at) (λ next. check_counts count left next)
    where
      go : (n : EntryAt) → ((next : ℕ) → Counts count (check_from s count left next)) →
          Counts count (check_entry (λ next. check_from s count left next) n)
      go (Ok entry) rest = rest entry.body.end
      go (Err why) rest = tt

  -- the body from one place to another is that of the first entry with the name in an accepted sheet
  abbrev pub FirstIn : ℕ → ℕ → Type 0
  FirstIn b e = (count : ℕ) × (start : ℕ) × Accepted s count start × First s name count start b e

  abbrev Finds : Lookup → Type 0
  Finds (Ok span) = FirstIn span.begin span.end
  Finds (Err why) = Unit {0}

  find_first : Finds (find_in s name)
  unfolding find_in
  find_first = go (number_at s 0) refl
    where
      checked : (count start : ℕ) → number_at s 0 ≡ value_then count start → count ≤ most_entries →
          (a : Answer) → check_from s count count start ≡ a → Counts count a → (f : Lookup) → Sought count start f → Finds (sought a f)
      checked count start q l (Ok n) c m (Ok span) h = (count, start, record { counted = q; few = l; whole = rw m at c }, h)
      checked count start q l (Ok n) c m (Err why) h = tt
      checked count start q l (Err why) c m f h = tt

      go : (n : NumberRead) → number_at s 0 ≡ n → Finds (find_after s name n)
      go (Ok num) q =
          by Finds (ltb most_entries num.value) (λ _. tt)
          (λ l. checked num.value num.next q (ltb-false _ _ l) (check_from s num.value num.value num.next) refl (check_counts num.value num.value num.next)
          (seek_from s name num.value num.next) (seek_first num.value num.next))
      go (Err why) q = tt

  pub accepted_sought : {count start : ℕ} → Accepted s count start → find_in s name ≡ seek_from s name count start
  accepted_sought a = sym (find_sought s name _ _ (sym a.counted) a.few _ (sym a.whole))

  -- ---- "of equal names the first counts"
  pub first_of_equals : (b e : ℕ) → (find_in s name ≡ span_from b e) ↔ FirstIn b e
  first_of_equals b e = (λ q. rw q at find_first, λ (count, start, a, f). accepted_sought a ∙ first_sought f)

  -- ---- what is found lies inside the sheet
  first_inside : {left at b e : ℕ} → First s name left at b e → (b ≤ e) × (e ≤ length s)
  first_inside (here q n) = let h = inside s _ _ _ _ _ (sym q) in (h.3, h.4)
  first_inside (later q d f) = first_inside f

  pub found_inside : (b e : ℕ) → find_in s name ≡ span_from b e → (b ≤ e) × (e ≤ length s)
  found_inside b e q = first_inside ((first_of_equals b e).0 q).3

  -- ---- "a name asked for with length 0 or above 16 is absent": no body is found, and an accepted sheet refuses it so
  first_held : {left at b e : ℕ} → First s name left at b e → (0 < length name) × (length name ≤ longest_name)
  first_held (here q n) =
      let h = inside s _ _ _ _ _ (sym q) in
      let l = simp (length-take, length-drop) at (ap length n) in
      (omega arith, omega arith)
  first_held (later q d f) = first_held f

  pub only_held_names : (length name ≡ 0) ⊎ (longest_name < length name) →
      ((b e : ℕ) → find_in s name ≡ span_from b e → ⊥) × ((count start : ℕ) → Accepted s count start → find_in s name ≡ refused_at NameAbsent 0)
  only_held_names o = (
    λ b e q. none ((first_of_equals b e).0 q).3,
    λ count start a. accepted_sought a ∙ none_sought count count start a.whole (λ b e f. none f),
  )
    where
      none : {left at b e : ℕ} → First s name left at b e → ⊥
      none f = let h = first_held f in ⊎_elim (λ z. omega arith) (λ l. omega arith) o
