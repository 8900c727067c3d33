-- Document 01, Coding: "The writer has the reader's refusals .. In both 10 comes last (for the reader: numbers needed); the rest of the buffer is unchanged."
-- Assumes nothing: these are definitions.
use Rattle.std.specs.Prelude.{ℕ, List, length, leb}
use Rattle.std.proofs.lemmas.List.Edits.{sets}
use Rattle.coding.specs.Number.{pick, bytes_of}
use Rattle.coding.specs.Code.{Code, code_at, numbered, bytes_of_all}
use Rattle.coding.specs.declared.Cause.TheVariants.{ShortBuffer}
use Rattle.std.specs.Prelude.{Ok, Err}
use Rattle.coding.specs.Refusal.{Answer, refused_at}

-- A buffer d with the elements xs from `at` on, its others as they were.
unfoldable pub over : List ℕ → ℕ → List ℕ → List ℕ
over d at xs = sets d at xs

-- "In both 10 comes last": so many elements are lent.
abbrev pub settled : ℕ → Answer → Answer
settled room (Ok n) = pick (leb n room) (Ok n) (refused_at ShortBuffer n)
settled room (Err why) = Err why

-- An accepted code counted anew: the writer counts bytes.
abbrev pub resized : ℕ → Answer → Answer
resized m (Ok n) = Ok m
resized m (Err why) = Err why

-- What a lent buffer holds after an answer: "1 to 4 and 9 to 11 change no buffer", and "the rest of the buffer is unchanged".
abbrev pub stored : Answer → List ℕ → List ℕ → List ℕ
stored (Ok n) d xs = over d 0 xs
stored (Err why) d xs = d

-- Reading and writing by any grammar, which answers for a row how many numbers it has, or its first fault.
abbrev pub read_by : (Code → Answer) → List ℕ → List ℕ → Answer
read_by grammar s out = settled (length out) (grammar (code_at s 0))

abbrev pub write_by : (Code → Answer) → List ℕ → List ℕ → Answer
write_by grammar xs buf = settled (length buf) (resized (length (bytes_of_all xs)) (grammar (numbered 0 xs)))

-- One number into a buffer.
unfoldable pub wrote_number : ℕ → List ℕ → Answer
wrote_number v buf = settled (length buf) (Ok (length (bytes_of v)))
