-- A sheet is accepted exactly if it is the bytes of entries that are allowed, and of one list of entries only; and
-- a lookup finds in it what these entries have.
-- Assumes nothing.
use Prim.Native.Nat.{ℕ, ◌+◌, ◌≤◌, ◌<◌}
use native.Mathlib.Omega.{arith}
use mathlib.Core.Path.{◌≡◌, refl, sym, ◌∙◌}
use mathlib.Core.Logic.{◌↔◌}
use mathlib.Core.List.{List, [], ◌∷◌}
use mathlib.Core.Bool.{Bool, true, false}
use mathlib.Core.Option.{Option, some, none}
use lib.ListN.{length, drop, get_or}
use lib.Seq.{drop-append_seam}
use lib.Dec.{ltb}
use borrow.Author.Tests.{ltb-false}
use Rattle.coding.specs.Refusal.{NumberRead, Answer, value_then, refused_at}
use Rattle.std.specs.Prelude.{Ok, Err}
use Rattle.coding.specs.Number.{pick, number_at, bytes_of}
use Rattle.coding.specs.declared.Cause.TheVariants.{NotAllowed, NameAbsent}
use Rattle.sheet.specs.Sheet.{most_entries, eqbs, check_from, seek_from, sought, find_after, find_in, Lookup}
use Rattle.sheet.specs.MadeUp.{NamedBody, entries_bytes, sheet_bytes, SheetAllowed, IsSheet, first_named, NoneNamed, found_in, Finds, Answered}
use Rattle.sheet.proofs.Laws.{by, eqbs_eq, eqbs_other}
use Rattle.sheet.proofs.Names.{Accepted, accepted_sought, Counts, check_counts}
use Rattle.sheet.proofs.Standing.{number_there, check_there, seek_there, place_there, NumberIs, number_is, Listed, listed}
use Rattle.sheet.proofs.OneSheet.{one_sheet}
use Rattle.sheet.proofs.Faults.{not_allowed, number_fault, NumberFault, check_fault, CheckFault}

-- No entry has the name exactly if none is the first with it.
pub none_named : (name : List ℕ) (es : List NamedBody) → (first_named name es ≡ none) ↔ NoneNamed name es
unfolding first_named NoneNamed
none_named name [] = (λ e. tt, λ u. refl)
none_named name (e ∷ es) =
    by (λ (o : Option (List ℕ)). (o ≡ none) ↔ ((e.name ≡ name → ⊥) × NoneNamed name es)) (eqbs e.name name)
    (λ t. (λ q. let z : ◌≡◌ {A = ℕ} 0 1 = cc in absurd (omega arith), λ (d, n). absurd (d (eqbs_eq e.name name t))))
    (λ t. (λ q. (eqbs_other e.name name t, (none_named name es).0 q), λ (d, n). (none_named name es).1 n))

-- ---- what is accepted
-- The bytes of entries that are allowed are accepted.
module _ (es : List NamedBody) (a : SheetAllowed es) where
  entries_from : drop (length (bytes_of (length es))) (sheet_bytes es) ≡ entries_bytes es
  unfolding sheet_bytes
  entries_from = drop-append_seam (bytes_of (length es)) (entries_bytes es)

  pub made_up_accepted : Accepted (sheet_bytes es) (length es) (length (bytes_of (length es)))
  unfolding sheet_bytes
  made_up_accepted =
      let few = a.few in
      let start : 0 + length (bytes_of (length es)) ≡ length (bytes_of (length es)) = omega arith in
      record {
        counted = rw start at (number_there (sheet_bytes es) 0 (length es) (entries_bytes es) (omega arith) refl);
        few = few;
        whole = check_there (sheet_bytes es) (length es) es (length (bytes_of (length es))) a.entries entries_from;
      }

  -- What is found in them is the body of the first entry so named: where it stands, and that it is that body.
  pub found_made_up : (name : List ℕ) → find_in (sheet_bytes es) name ≡ found_in name es
  unfolding found_in
  found_made_up name =
      accepted_sought (sheet_bytes es) name made_up_accepted
      ∙ place_there (sheet_bytes es) name es (length (bytes_of (length es))) a.entries entries_from

  pub finds_made_up : (name : List ℕ) → Finds (sheet_bytes es) (find_in (sheet_bytes es) name) (first_named name es)
  finds_made_up name =
      rw (accepted_sought (sheet_bytes es) name made_up_accepted)
      (seek_there (sheet_bytes es) name es (length (bytes_of (length es))) a.entries entries_from)

  -- The name is absent exactly if no entry has it.
  pub absent_made_up : (name : List ℕ) → (find_in (sheet_bytes es) name ≡ refused_at NameAbsent 0) ↔ NoneNamed name es
  absent_made_up name =
      simp (← none_named name es) (go (find_in (sheet_bytes es) name) (first_named name es) (finds_made_up name))
    where
      go : (f : Lookup) (o : Option (List ℕ)) → Finds (sheet_bytes es) f o → (f ≡ refused_at NameAbsent 0) ↔ (o ≡ none)
      go f (some body) (begin, end, q, b) = (λ e. cc, λ e. cc)
      go f none h = (λ e. refl, λ e. h)

-- What is accepted is the bytes of entries that are allowed.
module _ (s : List ℕ) (small : (i : ℕ) → get_or s i 0 < 256) where
  pub accepted_made_up : (count start : ℕ) → Accepted s count start → IsSheet s
  unfolding sheet_bytes
  accepted_made_up count start a =
      let l : Listed s count start = rw a.whole at (listed s small count count start) in
      let n : NumberIs s small 0 (value_then count start) = rw a.counted at (number_is s small 0) in
      (l.entries, record { few = rw l.as_many a.few; entries = l.allowed }, rw (l.as_many, ← l.is) n.1)

-- A lookup that is answered, whatever the name, says that the sheet is accepted.
pub answered_accepted : (s name : List ℕ) → Answered (find_in s name) →
    (count : ℕ) × (start : ℕ) × Accepted s count start
unfolding find_in
answered_accepted s name h = go (number_at s 0) refl (number_fault s 0) h
  where
    checked : (count start : ℕ) → number_at s 0 ≡ value_then count start → count ≤ most_entries →
        (a : Answer) → check_from s count count start ≡ a → Counts s name count a → CheckFault s a →
        Answered (sought a (seek_from s name count start)) →
        (n : ℕ) × (b : ℕ) × Accepted s n b
    checked count start q l (Ok n) c m f h = (count, start, record { counted = q; few = l; whole = rw m at c })
    checked count start q l (Err why) c m f h = absurd (f h)

    few : (count start : ℕ) → number_at s 0 ≡ value_then count start → (many : Bool) → ltb most_entries count ≡ many →
        Answered (pick many (refused_at NotAllowed 0)
        (sought (check_from s count count start) (seek_from s name count start))) →
        (n : ℕ) × (b : ℕ) × Accepted s n b
    few count start q true l h = absurd (not_allowed h)
    few count start q false l h =
        checked count start q (ltb-false most_entries count l) (check_from s count count start) refl
        (check_counts s name count count start) (check_fault s count count start) h

    go : (m : NumberRead) → number_at s 0 ≡ m → NumberFault s m → Answered (find_after s name m) →
        (n : ℕ) × (b : ℕ) × Accepted s n b
    go (Ok num) q f h = few num.value num.next q (ltb most_entries num.value) refl h
    go (Err why) q f h = absurd (f h)

found_answered : (s : List ℕ) (found : Lookup) (o : Option (List ℕ)) → Finds s found o → Answered found
found_answered s found (some body) (begin, end, q, b) = rw q tt
found_answered s found none h = rw h refl

-- ---- the theorems
module _ (s : List ℕ) (small : (i : ℕ) → get_or s i 0 < 256) where
  -- A sheet is accepted exactly if it is the bytes of entries that are allowed.
  pub accepted_is_sheet : ((count : ℕ) × (start : ℕ) × Accepted s count start) ↔ IsSheet s
  accepted_is_sheet = (
    λ (count, start, a). accepted_made_up s small count start a,
    λ (es, a, e). rw e (_, _, made_up_accepted es a),
  )

  -- The same of what a lookup answers, whatever the name: a body, or that the name is absent.
  pub answered_is_sheet : (name : List ℕ) → Answered (find_in s name) ↔ IsSheet s
  answered_is_sheet name = (
    λ h. accepted_is_sheet.0 (answered_accepted s name h),
    λ (es, a, e).
        rw e (found_answered (sheet_bytes es) (find_in (sheet_bytes es) name) (first_named name es) (finds_made_up es a name)),
  )

  -- It is the bytes of one list of entries only, and these are allowed.
  pub exactly_one_sheet : (count start : ℕ) → Accepted s count start →
      (es : List NamedBody) × SheetAllowed es × (s ≡ sheet_bytes es)
      × ((fs : List NamedBody) → s ≡ sheet_bytes fs → fs ≡ es)
  exactly_one_sheet count start h =
      let (es, a, e) = accepted_made_up s small count start h in
      (es, a, e, λ fs f. one_sheet fs es (sym f ∙ e))
