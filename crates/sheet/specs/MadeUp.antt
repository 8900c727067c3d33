-- A sheet as it is made up, and its bytes.
-- Document 01, Coding: "Sheet: count (0 to 32), then name length (1 to 16), name, body length, body."
-- The theorems of proofs/MadeUp.antt are stated with these; no promise of a function cites them.
-- Assumes nothing: these are definitions.
use Rattle.coding.specs.Refusal.{refused_at}
use Rattle.std.specs.Prelude.{ℕ, ◌+◌, ◌≤◌, ◌≡◌, List, [], ◌∷◌, ◌++◌, length, Ok, Err}
use Rattle.std.proofs.Math.Option.{Option, some, none}
use Rattle.coding.specs.Number.{pick, bytes_of}
use Rattle.coding.specs.declared.Cause.TheVariants.{NameAbsent}
use Rattle.sheet.specs.Sheet.{most_entries, longest_name, eqbs, body_of, Lookup}
use Rattle.coding.specs.Block.{span_from}

-- An entry: a name and its body, any bytes.
pub record NamedBody : Type 0 where
  pub name : List ℕ
  pub body : List ℕ

-- "name length .., name, body length, body"
unfoldable pub entry_bytes : NamedBody → List ℕ
entry_bytes e = bytes_of (length e.name) ++ (e.name ++ (bytes_of (length e.body) ++ e.body))

-- How many bytes of an entry stand before its body.
unfoldable pub body_start : NamedBody → ℕ
body_start e = length (bytes_of (length e.name)) + length e.name + length (bytes_of (length e.body))

-- The entries one after another.
unfoldable pub entries_bytes : List NamedBody → List ℕ
entries_bytes [] = []
entries_bytes (e ∷ es) = entry_bytes e ++ entries_bytes es

-- "count .., then" the entries
unfoldable pub sheet_bytes : List NamedBody → List ℕ
sheet_bytes es = bytes_of (length es) ++ entries_bytes es

-- "name length (1 to 16)"; a body's length is a number of the coding, "0 to 65,535".
pub record EntryAllowed (e : NamedBody) : Type 0 where
  pub some_name : 1 ≤ length e.name
  pub short_name : length e.name ≤ longest_name
  pub body_told : length e.body ≤ 65535

unfoldable pub EntriesAllowed : List NamedBody → Type 0
EntriesAllowed [] = Unit
EntriesAllowed (e ∷ es) = EntryAllowed e × EntriesAllowed es

-- "count (0 to 32)"
pub record SheetAllowed (es : List NamedBody) : Type 0 where
  pub few : length es ≤ most_entries
  pub entries : EntriesAllowed es

-- These bytes are those of a sheet that is allowed.
abbrev pub IsSheet : List ℕ → Type 0
IsSheet s = (es : List NamedBody) × SheetAllowed es × (s ≡ sheet_bytes es)

-- "of equal names the first counts": the body of the first entry so named, or none.
unfoldable pub first_named : List ℕ → List NamedBody → Option (List ℕ)
first_named name [] = none
first_named name (e ∷ es) = pick (eqbs e.name name) (some e.body) (first_named name es)

-- No entry has the name.
unfoldable pub NoneNamed : List ℕ → List NamedBody → Type 0
NoneNamed name [] = Unit
NoneNamed name (e ∷ es) = ¬ (e.name ≡ name) × NoneNamed name es

-- Where the body of the first entry so named begins and ends, if the first of these entries begins at a place.
unfoldable pub found_from : ℕ → List ℕ → List NamedBody → Lookup
found_from at name [] = refused_at NameAbsent 0
found_from at name (e ∷ es) =
    pick (eqbs e.name name) (span_from (at + body_start e) (at + length (entry_bytes e)))
    (found_from (at + length (entry_bytes e)) name es)

unfoldable pub found_in : List ℕ → List NamedBody → Lookup
found_in name es = found_from (length (bytes_of (length es))) name es

-- What is found in a sheet where this body, or none, should be: a part of the sheet that is the body byte for byte;
-- or refusal 11, "name absent", at 0.
abbrev pub Finds : List ℕ → Lookup → Option (List ℕ) → Type 0
Finds s found (some body) = (begin : ℕ) × (end : ℕ) × (found ≡ span_from begin end) × (body_of s found ≡ body)
Finds s found none = found ≡ refused_at NameAbsent 0

-- A lookup that is answered: a body is found, or there is no fault but that the name is absent.
abbrev pub Answered : Lookup → Type 0
Answered (Ok span) = Unit
Answered (Err why) = why.cause ≡ NameAbsent
