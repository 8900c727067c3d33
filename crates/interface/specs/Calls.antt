-- What each C function answers and what it leaves in a lent buffer, by the definitions of the crates below.
-- Assumes nothing: these are definitions.
use Rattle.std.specs.Prelude.{ℕ, ◌≡◌, Bool, true, false, List, Result, Ok, Err}
use Rattle.coding.specs.Code.{Code, code_at, values, bytes_of_all}
use Rattle.coding.specs.Refusal.{answer_told, Answer, refusal}
use Rattle.coding.specs.declared.Refusal.{Refusal}
use Rattle.coding.specs.Room.{read_by, write_by, stored}
use Rattle.coding.specs.declared.Told.{Told}
use Rattle.requirement.specs.Reading.{parsed}
use Rattle.meaning.specs.Trace.{Trace}
use Rattle.judge.specs.Judging.{Checks, Judges, judged_told, Judgement}
use Rattle.translate.specs.Writing.{translated, translation}
use Rattle.requirement.specs.declared.Kind.{Kind}
use Rattle.requirement.specs.declared.Kind.TheVariants.{Untranslated, Translated}

-- "the caller says which of the two is read"
abbrev pub kind_of : Bool → Kind
kind_of true = Translated
kind_of false = Untranslated

-- An answer in the paper's numbers, by what is told of an accepted one.
abbrev pub told_by : {A : Type 0} → (A → Told) → Result A Refusal → Told
told_by told (Ok x) = told x
told_by told (Err why) = refusal why.cause why.place

-- Reading and writing by a grammar: the answer in the paper's numbers, and the buffer.
abbrev pub read_told : (Code → Answer) → List ℕ → List ℕ → Told
read_told grammar s out = answer_told (read_by grammar s out)

abbrev pub read_leaves : (Code → Answer) → List ℕ → List ℕ → List ℕ
read_leaves grammar s out = stored (read_by grammar s out) out (values (code_at s 0))

abbrev pub write_told : (Code → Answer) → List ℕ → List ℕ → Told
write_told grammar xs buf = answer_told (write_by grammar xs buf)

abbrev pub write_leaves : (Code → Answer) → List ℕ → List ℕ → List ℕ
write_leaves grammar xs buf = stored (write_by grammar xs buf) buf (bytes_of_all xs)

-- Translating: the buffer.
abbrev pub translate_leaves : List ℕ → List ℕ → List ℕ
translate_leaves s out = stored (translated s out) out (translation (parsed Untranslated (code_at s 0)))

-- Judging: the answer in the paper's numbers is that of a judging as promised.
abbrev pub JudgesTold : Checks → Trace → List ℕ → List ℕ → List ℕ → List ℕ → Told → Type 0
JudgesTold checks t work list work' list' told = (r : Judgement) × (told ≡ judged_told r) × Judges checks t work list work' list' r
