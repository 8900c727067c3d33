-- Document 01, Coding: "Sheet: count (0 to 32), then name length (1 to 16), name, body length, body."
-- Assumes nothing: these are definitions.
use Rattle.std.specs.Prelude.{ℕ, zero, suc, ◌-◌, List, [], ◌∷◌, Bool, true, false, length, take, drop, ltb, eqb, Ok, Err, Result}
use Rattle.coding.specs.declared.Refusal.{Refusal}
use Rattle.coding.specs.declared.Span.{Span}
use Rattle.coding.specs.Block.{BlockAt, span_from, block_at}
use Rattle.sheet.specs.declared.Entry.{Entry}
use Rattle.coding.specs.Number.{pick, number_at}
use Rattle.coding.specs.Refusal.{accepted, refusal, NumberRead, Answer, refused_at}
use Rattle.coding.specs.declared.Told.{Told}
use Rattle.coding.specs.declared.Cause.TheVariants.{LeftOver, NotAllowed, NameAbsent}

-- An entry: where its name and its body begin and end, or a refusal.
abbrev pub EntryAt : Type 0
EntryAt = Result Entry Refusal

abbrev pub entry_from : ℕ → ℕ → ℕ → ℕ → EntryAt
entry_from name name_end body body_end = Ok (record { name = record { begin = name; end = name_end }; body = record { begin = body; end = body_end } })

-- What a lookup finds: where the body begins and ends, or a refusal.
abbrev pub Lookup : Type 0
Lookup = Result Span Refusal

-- The limits of a sheet.
abbrev pub most_entries : ℕ
most_entries = 32

abbrev pub longest_name : ℕ
longest_name = 16

-- Whether two texts are the same.
abbrev pub eqbs : List ℕ → List ℕ → Bool
eqbs [] [] = true
eqbs [] (y ∷ ys) = false
eqbs (x ∷ xs) [] = false
eqbs (x ∷ xs) (y ∷ ys) = pick (eqb x y) (eqbs xs ys) false

-- The part of s from one place to another.
abbrev pub part : List ℕ → ℕ → ℕ → List ℕ
part s begin end = take (end - begin) (drop begin s)

-- "name length (1 to 16), name": a number's value is looked at when it is read, before its text.
abbrev pub name_of : List ℕ → ℕ → NumberRead → BlockAt
name_of s at (Ok num) = pick (eqb num.value 0) (refused_at NotAllowed at) (pick (ltb longest_name num.value) (refused_at NotAllowed at) (block_at s at))
name_of s at (Err why) = Err why

unfoldable pub name_at : List ℕ → ℕ → BlockAt
name_at s at = name_of s at (number_at s at)

-- "name length (1 to 16), name, body length, body". "A body is not read until asked for": any bytes will do.
abbrev pub body_after : ℕ → ℕ → BlockAt → EntryAt
body_after name name_end (Ok span) = entry_from name name_end span.begin span.end
body_after name name_end (Err why) = Err why

abbrev pub entry_of : List ℕ → BlockAt → EntryAt
entry_of s (Ok span) = body_after span.begin span.end (block_at s span.end)
entry_of s (Err why) = Err why

unfoldable pub entry_at : List ℕ → ℕ → EntryAt
entry_at s at = entry_of s (name_at s at)

-- "A sheet's lengths are all checked before a name is sought": `left` of `count` entries from a place on, and nothing left over.
abbrev pub check_entry : (ℕ → Answer) → EntryAt → Answer
check_entry rest (Ok entry) = rest entry.body.end
check_entry rest (Err why) = Err why

unfoldable pub check_from : List ℕ → ℕ → ℕ → ℕ → Answer
check_from s count zero at = pick (ltb at (length s)) (refused_at LeftOver at) (Ok count)
check_from s count (suc left) at = check_entry (λ next. check_from s count left next) (entry_at s at)

-- "of equal names the first counts"; "name absent" has place 0.
abbrev pub seek_entry : List ℕ → List ℕ → (ℕ → Lookup) → EntryAt → Lookup
seek_entry s name rest (Ok entry) = pick (eqbs (part s entry.name.begin entry.name.end) name) (span_from entry.body.begin entry.body.end) (rest entry.body.end)
seek_entry s name rest (Err why) = Err why

unfoldable pub seek_from : List ℕ → List ℕ → ℕ → ℕ → Lookup
seek_from s name zero at = refused_at NameAbsent 0
seek_from s name (suc left) at = seek_entry s name (λ next. seek_from s name left next) (entry_at s at)

abbrev pub sought : Answer → Lookup → Lookup
sought (Ok n) found = found
sought (Err why) found = Err why

-- "Asked for a name, it answers with that body".
abbrev pub find_after : List ℕ → List ℕ → NumberRead → Lookup
find_after s name (Ok num) =
    pick (ltb most_entries num.value) (refused_at NotAllowed 0)
    (sought (check_from s num.value num.value num.next) (seek_from s name num.value num.next))
find_after s name (Err why) = Err why

unfoldable pub find_in : List ℕ → List ℕ → Lookup
find_in s name = find_after s name (number_at s 0)

-- The body that is found, "as the very bytes of the sheet"; none where it is refused.
unfoldable pub body_of : List ℕ → Lookup → List ℕ
body_of s (Ok span) = part s span.begin span.end
body_of s (Err why) = []

-- Where in the sheet it begins.
unfoldable pub start_of : Lookup → ℕ
start_of (Ok span) = span.begin
start_of (Err why) = 0

-- A lookup's answer in the paper's numbers.
abbrev pub found_told : Lookup → Told
found_told (Ok span) = accepted span.begin span.end
found_told (Err why) = refusal why.cause why.place
