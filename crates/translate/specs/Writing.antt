-- Translating. Document 01, Numbers of refusal: "Translating checks: room under 1,408 bytes, requirement"; the answer is the number of bytes, and the rest of the
-- buffer is unchanged. What a requirement translates to is said in `meaning`.
-- Assumes nothing: these are definitions.
use Rattle.coding.specs.Refusal.{Answer, refused_at}
use Rattle.std.specs.Prelude.{ℕ, ◌+◌, ◌*◌, min, ◌≡◌, List, [], ◌∷◌, length, ltb, Ok}
use Rattle.coding.specs.Number.{pick}
use Rattle.coding.specs.Code.{code_at, bytes_of_all}
use Rattle.coding.specs.Room.{over}
use Rattle.coding.specs.declared.Cause.TheVariants.{ShortBuffer}
use Rattle.requirement.specs.Tags.{code_of, mark_no}
use Rattle.requirement.specs.Limits.{node_limit}
use Rattle.requirement.specs.Reading.{Parsed, whole, unread, parsed}
use Rattle.requirement.specs.Walking.{Walked, walked, lost}
use Rattle.requirement.specs.declared.Kind.{Kind}
use Rattle.requirement.specs.declared.Kind.TheVariants.{Untranslated, Translated}
use Rattle.requirement.specs.declared.End.{End}
use Rattle.requirement.specs.declared.Family.{Family}
use Rattle.requirement.specs.declared.Family.TheVariants.{Plain, Within, Each}
use Rattle.requirement.specs.declared.One.{One}
use Rattle.requirement.specs.declared.One.TheVariants.{Not, Next, Ever, Always}
use Rattle.requirement.specs.declared.Two.{Two}
use Rattle.requirement.specs.declared.Two.TheVariants.{And, Until}
use Rattle.meaning.specs.Phases.{phase_of}
use Rattle.meaning.specs.Translation.{translate}
use Rattle.translate.specs.declared.writing.Writing.{Writing}

-- Translating reads untranslated requirements.
abbrev pub untranslated : Kind
untranslated = Untranslated

-- 1,408 bytes: two for every node that a translated requirement may have.
abbrev pub room_asked : ℕ
room_asked = 2 * node_limit Translated

-- The bytes of the translation of the requirement that was read.
abbrev pub translation : Parsed → List ℕ
translation (whole f) = bytes_of_all (code_of (translate f))
translation (unread cause place) = []

abbrev pub answered : Parsed → Answer
answered (whole f) = Ok (length (bytes_of_all (code_of (translate f))))
answered (unread cause place) = refused_at cause place

unfoldable pub translated : List ℕ → List ℕ → Answer
translated s out = pick (ltb (length out) room_asked) (refused_at ShortBuffer room_asked) (answered (parsed Untranslated (code_at s 0)))

-- ---- how the code writes it: the numbers of a form before, between and behind its operands
abbrev pub mark_of : End → ℕ
mark_of s = mark_no (phase_of s)

abbrev pub next_before : Family → List ℕ
next_before Plain = 8 ∷ []
next_before Within = 8 ∷ 2 ∷ 4 ∷ []
next_before (Each s) = 11 ∷ 1 ∷ mark_of s ∷ 2 ∷ mark_of s ∷ 8 ∷ 11 ∷ 1 ∷ mark_of s ∷ 2 ∷ mark_of s ∷ []

abbrev pub ever_before : Family → List ℕ
ever_before Plain = 9 ∷ []
ever_before Within = 11 ∷ 1 ∷ 5 ∷ 2 ∷ 4 ∷ []
ever_before (Each s) = 9 ∷ 2 ∷ mark_of s ∷ []

abbrev pub always_before : Family → List ℕ
always_before Plain = 10 ∷ []
always_before Within = 11 ∷ 2 ∷ []
always_before (Each s) = 10 ∷ 1 ∷ 2 ∷ mark_of s ∷ 1 ∷ []

abbrev pub one_before : One → List ℕ
one_before Not = 1 ∷ []
one_before (Next c) = next_before c
one_before (Ever c) = ever_before c
one_before (Always c) = always_before c

abbrev pub always_behind : Family → List ℕ
always_behind Plain = []
always_behind Within = 4 ∷ 5 ∷ []
always_behind (Each s) = []

abbrev pub one_behind : One → List ℕ
one_behind Not = []
one_behind (Next c) = []
one_behind (Ever c) = []
one_behind (Always c) = always_behind c

abbrev pub until_before : Family → List ℕ
until_before Plain = 11 ∷ []
until_before Within = 11 ∷ 2 ∷ []
until_before (Each s) = 11 ∷ 1 ∷ 2 ∷ mark_of s ∷ 1 ∷ []

abbrev pub until_between : Family → List ℕ
until_between Plain = []
until_between Within = 4 ∷ 2 ∷ []
until_between (Each s) = 2 ∷ mark_of s ∷ []

abbrev pub until_behind : Family → List ℕ
until_behind Plain = []
until_behind Within = 4 ∷ []
until_behind (Each s) = []

abbrev pub two_before : Two → List ℕ
two_before And = 2 ∷ []
two_before (Until c) = until_before c

abbrev pub two_between : Two → List ℕ
two_between And = []
two_between (Until c) = until_between c

abbrev pub two_behind : Two → List ℕ
two_behind And = []
two_behind (Until c) = until_behind c

-- Bytes put into a buffer from a place on, as far as it goes: what it then holds, and the place after them.
pub record Put (d : List ℕ) (at : ℕ) (xs d' : List ℕ) (r : ℕ) : Type 0 where
  pub holds : d' ≡ over d at xs
  pub after : r ≡ min (length d) (at + length xs)

-- The bytes are put at the place in the buffer, and the next place is the one after them.
pub record Puts (xs : List ℕ) (before after : Writing) : Type 0 where
  pub put : Put before.out.now before.place xs after.out.now after.place
  pub same : after.out.ghost_name ≡ before.out.ghost_name

-- What the recursion promises: of a requirement that was walked, the place after its code, and the bytes of its translation.
abbrev pub Wrote : Walked → Writing → Writing → ℕ → Type 0
Wrote (walked f next) before after r = (r ≡ next) × Puts (code_of (translate f)) before after
Wrote lost before after r = Unit
