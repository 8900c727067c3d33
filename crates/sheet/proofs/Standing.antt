-- Entries that stand in a sheet: where their bytes stand the reader finds them, and what the reader accepts is the
-- bytes of entries that are allowed.
-- Assumes nothing.
use Prim.Native.Nat.{ℕ, zero, suc, ◌+◌, ◌-◌, ◌≤◌, ◌<◌}
use native.Mathlib.Omega.{arith}
use mathlib.Core.Path.{◌≡◌, refl, sym, ◌∙◌, ap}
use mathlib.Core.List.{List, [], ◌∷◌, ◌++◌, append_assoc}
use mathlib.Core.Bool.{Bool, true, false}
use mathlib.Core.Option.{some}
use lib.ListN.{length, take, drop, get_or, length-append, length-take, length-drop, take-append-drop, drop_of_length-le}
use lib.Seq.{drop-drop, get_or-drop, take-append_seam, drop-append_seam}
use lib.Dec.{ltb, leb, eqb}
use borrow.Author.Tests.{le-ltb, ltb-false, leb-true}
use Rattle.coding.specs.Refusal.{NumberRead, Answer, value_then}
use Rattle.std.specs.Prelude.{Ok, Err}
use Rattle.coding.specs.Number.{Begin, number, none as no_number, first, placed, pick, number_at, bytes_of}
use Rattle.coding.proofs.Bytes.{one≤}
use Rattle.coding.proofs.Trip.{Begins, read_written, written_read}
use Rattle.sheet.specs.Sheet.{longest_name, eqbs, part, name_of, name_at, body_after, entry_of, entry_at, check_entry, check_from, seek_from, body_of, EntryAt, entry_from}
use Rattle.coding.specs.Block.{block_of, block_at, BlockAt, span_from}
use Rattle.sheet.specs.MadeUp.{NamedBody, entry_bytes, body_start, entries_bytes, EntryAllowed, EntriesAllowed, first_named, found_from, Finds}
use Rattle.coding.proofs.Blocks.{block_whole}
use Rattle.sheet.proofs.Laws.{by, inside, name_fits, entry_whole}

-- ---- from the entries to the sheet
-- Entry e stands in s from a place on, and behind it comes this rest: the reader finds its name, its body and the
-- place behind it.
record EntryThere (s : List ℕ) (at : ℕ) (e : NamedBody) (rest : List ℕ) : Type 0 where
  pub begin : ℕ
  pub end : ℕ
  pub body : ℕ
  pub next : ℕ
  pub is : entry_at s at ≡ entry_from begin end body next
  pub body_place : body ≡ at + body_start e
  pub next_place : next ≡ at + length (entry_bytes e)
  pub named : part s begin end ≡ e.name
  pub holds : part s body next ≡ e.body
  pub past : drop next s ≡ rest

module _ (s : List ℕ) where
  -- a part that stands at a place, and what comes behind it
  part_there : (at : ℕ) (p rest : List ℕ) → drop at s ≡ p ++ rest → part s at (at + length p) ≡ p
  part_there at p rest e = let z : at + length p - at ≡ length p = omega arith in rw (z, e) (take-append_seam p rest)

  past_part : (at : ℕ) (p rest : List ℕ) → drop at s ≡ p ++ rest → drop (at + length p) s ≡ rest
  past_part at p rest e = sym (drop-drop (length p) at s) ∙ ap (drop (length p)) e ∙ drop-append_seam p rest

  pub number_there : (at v : ℕ) (rest : List ℕ) → v < 65536 → drop at s ≡ bytes_of v ++ rest →
      number_at s at ≡ value_then v (at + length (bytes_of v))
  unfolding number_at
  number_there at v rest small e = rw (e, read_written v rest small)

  -- a text behind its length: where it begins, that it is there, and where it ends
  abbrev begin_of : ℕ → List ℕ → ℕ
  begin_of at t = at + length (bytes_of (length t))

  module _ (at : ℕ) (t rest : List ℕ) (small : length t < 65536)
      (e : drop at s ≡ bytes_of (length t) ++ (t ++ rest)) where
    told_there : number_at s at ≡ value_then (length t) (begin_of at t)
    told_there = number_there at (length t) (t ++ rest) small e

    text_there : block_at s at ≡ span_from (begin_of at t) (begin_of at t + length t)
    text_there =
        let size : length s - at ≡ length (bytes_of (length t)) + (length t + length rest) =
        simp (length-drop, length-append) at (ap length e) in
        sym (block_whole s at (length t) (begin_of at t) (sym told_there) (omega (arith, one≤ (length t))))

    name_there : 1 ≤ length t → length t ≤ longest_name → name_at s at ≡ span_from (begin_of at t) (begin_of at t + length t)
    name_there held short =
        sym (name_fits s at (length t) (begin_of at t) (sym told_there) (omega arith) short) ∙ text_there

    text_is : part s (begin_of at t) (begin_of at t + length t) ≡ t
    text_is = part_there (begin_of at t) t rest (past_part at (bytes_of (length t)) (t ++ rest) e)

    past_text : drop (begin_of at t + length t) s ≡ rest
    past_text = past_part (begin_of at t) t rest (past_part at (bytes_of (length t)) (t ++ rest) e)

  entry_there : (at : ℕ) (e : NamedBody) (rest : List ℕ) → EntryAllowed e → drop at s ≡ entry_bytes e ++ rest →
      EntryThere s at e rest
  unfolding entry_bytes body_start
  entry_there at e rest a h =
      let tail = bytes_of (length e.body) ++ (e.body ++ rest) in
      let told : drop at s ≡ bytes_of (length e.name) ++ (e.name ++ tail) = simp append_assoc at h in
      let short = a.short_name in
      let small : length e.name < 65536 = omega arith in
      let fits : length e.body < 65536 = omega (arith, a.body_told) in
      let behind = past_text at e.name tail small told in
      let middle = begin_of at e.name + length e.name in
      let name = name_there at e.name tail small told a.some_name short in
      record {
        begin = begin_of at e.name;
        end = middle;
        body = begin_of middle e.body;
        next = begin_of middle e.body + length e.body;
        is = sym (entry_whole s at _ middle (sym name) _ _ (sym (text_there middle e.body rest fits behind)));
        body_place = omega arith;
        next_place = simp length-append (omega arith);
        named = text_is at e.name tail small told;
        holds = text_is middle e.body rest fits behind;
        past = past_text middle e.body rest fits behind;
      }

  -- ---- the check and the search, entry by entry
  pub check_there : (count : ℕ) (es : List NamedBody) (at : ℕ) → EntriesAllowed es → drop at s ≡ entries_bytes es →
      check_from s count (length es) at ≡ Ok count
  unfolding check_from entries_bytes EntriesAllowed
  check_there count [] at a h =
      let none_left : length s - at ≡ 0 = simp length-drop at (ap length h) in
      rw (le-ltb at (length s) (omega arith))
  check_there count (e ∷ es) at a h =
      let t = entry_there at e (entries_bytes es) a.0 h in
      rw t.is (check_there count es t.next a.1 t.past)

  pub seek_there : (name : List ℕ) (es : List NamedBody) (at : ℕ) → EntriesAllowed es → drop at s ≡ entries_bytes es →
      Finds s (seek_from s name (length es) at) (first_named name es)
  unfolding seek_from entries_bytes EntriesAllowed first_named body_of
  seek_there name [] at a h = refl
  seek_there name (e ∷ es) at a h =
      let t = entry_there at e (entries_bytes es) a.0 h in
      rw (t.is, t.named) (go (eqbs e.name name) t (seek_there name es t.next a.1 t.past))
    where
      go : (same : Bool) (t : EntryThere s at e (entries_bytes es)) →
          Finds s (seek_from s name (length es) t.next) (first_named name es) →
          Finds s (pick same (span_from t.body t.next) (seek_from s name (length es) t.next))
          (pick same (some e.body) (first_named name es))
      go true t f = (t.body, t.next, refl, t.holds)
      go false t f = f

  pub place_there : (name : List ℕ) (es : List NamedBody) (at : ℕ) → EntriesAllowed es → drop at s ≡ entries_bytes es →
      seek_from s name (length es) at ≡ found_from at name es
  unfolding seek_from entries_bytes EntriesAllowed found_from
  place_there name [] at a h = refl
  place_there name (e ∷ es) at a h =
      let t = entry_there at e (entries_bytes es) a.0 h in
      rw (t.is, t.named, place_there name es t.next a.1 t.past, t.body_place, t.next_place)

-- ---- from the sheet to the entries
-- The entries that stand in s from a place on, up to its end.
pub record Listed (s : List ℕ) (left at : ℕ) : Type 0 where
  pub entries : List NamedBody
  pub as_many : length entries ≡ left
  pub allowed : EntriesAllowed entries
  pub is : drop at s ≡ entries_bytes entries

module _ (s : List ℕ) (small : (i : ℕ) → get_or s i 0 < 256) where
  abbrev pub NumberIs : ℕ → NumberRead → Type 0
  NumberIs at (Ok num) = (num.value < 65536) × (drop at s ≡ bytes_of num.value ++ drop num.next s)
  NumberIs at (Err why) = Unit {0}

  pub number_is : (at : ℕ) → NumberIs at (number_at s at)
  unfolding number_at
  number_is at = go (first (drop at s)) (written_read (drop at s) (λ i. rw get_or-drop (small (at + i))))
    where
      go : (m : Begin) → Begins (drop at s) m → NumberIs at (placed at m)
      go (number v k) b = (b.0, b.1 ∙ ap (λ (r : List ℕ). bytes_of v ++ r) (drop-drop k at s))
      go (no_number cause) b = tt

  -- a text is told by its length, and stands behind it
  abbrev TextIs : ℕ → BlockAt → Type 0
  TextIs at (Ok span) =
      (length (part s span.begin span.end) < 65536)
      × (drop at s ≡ bytes_of (length (part s span.begin span.end)) ++ (part s span.begin span.end ++ drop span.end s))
  TextIs at (Err why) = Unit {0}

  text_part : (at n begin : ℕ) → begin + n ≤ length s → NumberIs at (value_then n begin) → TextIs at (span_from begin (begin + n))
  text_part at n begin l h =
      let z : begin + n - begin ≡ n = omega arith in
      let size : length (take n (drop begin s)) ≡ n = simp (length-take, length-drop) (omega arith) in
      rw (z, size, ← drop-drop n begin s, take-append-drop) h

  text_is_told : (at : ℕ) → TextIs at (block_at s at)
  unfolding block_at
  text_is_told at = go (number_at s at) (number_is at)
    where
      go : (m : NumberRead) → NumberIs at m → TextIs at (block_of s at m)
      go (Ok num) h =
          by (TextIs at) (leb (num.next + num.value) (length s)) (λ t. text_part at num.value num.next (leb-true _ _ t) h) (λ t. tt)
      go (Err why) h = tt

  name_is_told : (at : ℕ) → TextIs at (name_at s at)
  unfolding name_at
  name_is_told at = go (number_at s at)
    where
      go : (m : NumberRead) → TextIs at (name_of s at m)
      go (Ok num) =
          by (TextIs at) (eqb num.value 0) (λ t. tt) (λ t. by (TextIs at) (ltb longest_name num.value) (λ u. tt) (λ u. text_is_told at))
      go (Err why) = tt

  -- an entry is its bytes
  abbrev EntryIs : ℕ → EntryAt → Type 0
  EntryIs at (Ok entry) =
      (length (part s entry.body.begin entry.body.end) < 65536)
      × (drop at s ≡ entry_bytes (record { name = part s entry.name.begin entry.name.end; body = part s entry.body.begin entry.body.end }) ++ drop entry.body.end s)
  EntryIs at (Err why) = Unit {0}

  entry_is_told : (at : ℕ) → EntryIs at (entry_at s at)
  unfolding entry_at entry_bytes
  entry_is_told at = named (name_at s at) (name_is_told at)
    where
      bodied : (begin end : ℕ) → TextIs at (span_from begin end) → (t : BlockAt) → TextIs end t →
          EntryIs at (body_after begin end t)
      bodied begin end h (Ok span) k = (k.0, simp append_assoc (rw k.1 at h.1))
      bodied begin end h (Err why) k = tt

      named : (t : BlockAt) → TextIs at t → EntryIs at (entry_of s t)
      named (Ok span) h = bodied span.begin span.end h (block_at s span.end) (text_is_told span.end)
      named (Err why) h = tt

  allowed_there : (at begin end body next : ℕ) → entry_at s at ≡ entry_from begin end body next →
      length (part s body next) < 65536 →
      EntryAllowed (record { name = part s begin end; body = part s body next })
  allowed_there at begin end body next q l =
      let h = inside s at begin end body next (sym q) in
      let size : length (part s begin end) ≡ end - begin = simp (length-take, length-drop) (omega arith) in
      record { some_name = omega arith; short_name = omega arith; body_told = omega arith }

  abbrev pub ListedBy : ℕ → ℕ → Answer → Type 0
  ListedBy left at (Ok n) = Listed s left at
  ListedBy left at (Err why) = Unit {0}

  pub listed : (count left at : ℕ) → ListedBy left at (check_from s count left at)
  unfolding check_from entries_bytes EntriesAllowed
  listed count zero at =
      by (ListedBy zero at) (ltb at (length s)) (λ t. tt)
      (λ t. record { entries = []; as_many = refl; allowed = tt; is = drop_of_length-le s (ltb-false at (length s) t) })
  listed count (suc left) at = go (entry_at s at) refl (entry_is_told at) (λ next. listed count left next)
    where
      one_more : (begin end body next : ℕ) → entry_at s at ≡ entry_from begin end body next →
          EntryIs at (entry_from begin end body next) →
          (a : Answer) → ListedBy left next a → ListedBy (suc left) at a
      one_more begin end body next q h (Ok n) l =
          record {
            entries = record { name = part s begin end; body = part s body next } ∷ l.entries;
            as_many = ap suc l.as_many;
            allowed = (allowed_there at begin end body next q h.0, l.allowed);
            is = rw l.is at h.1;
          }
      one_more begin end body next q h (Err why) l = tt

      go : (n : EntryAt) → entry_at s at ≡ n → EntryIs at n →
          ((next : ℕ) → ListedBy left next (check_from s count left next)) →
          ListedBy (suc left) at (check_entry (λ next. check_from s count left next) n)
      go (Ok entry) q h rest =
          one_more entry.name.begin entry.name.end entry.body.begin entry.body.end q h (check_from s count left entry.body.end) (rest entry.body.end)
      go (Err why) q h rest = tt
