-- Codes that are read and codes that are refused, with the place; computed from the definitions.
-- Assumes nothing.
use Prim.Native.Nat.{ℕ, zero, suc}
use mathlib.Core.Path.{◌≡◌, refl}
use mathlib.Core.List.{List, [], ◌∷◌, ◌++◌, map}
use lib.ListN.{take, replicate}
use Rattle.coding.specs.Refusal.{refused_at}
use Rattle.coding.specs.Code.{code_at}
use Rattle.coding.specs.declared.Cause.TheVariants.{CutShort, NotShortest, TooLarge, LeftOver, NoSuchNode, PastLimit}
use Rattle.requirement.specs.Requirement.{nodes_of, depth_of}
use Rattle.requirement.specs.Tags.{tag_of}
use Rattle.requirement.specs.Limits.{tag_in}
use Rattle.requirement.specs.Reading.{atom_of, tree_of, parsed, checked, Check, nodes_and_depth}
use Rattle.requirement.specs.declared.Kind.{Kind}
use Rattle.requirement.specs.declared.Kind.TheVariants.{Untranslated, Translated}

-- the bytes of a requirement of a kind, and what checking them answers
pub record Case : Type 0 where
  pub kind : Kind
  pub bytes : List ℕ
  pub answer : Check

abbrev case : Kind → List ℕ → Check → Case
case kind bytes answer = record { kind = kind; bytes = bytes; answer = answer }

-- so many nots, and then
abbrev nots : ℕ → List ℕ → List ℕ
nots n rest = replicate n 1 ++ rest

-- ands over ands over Input marks: 2 to the power n marks, each under n ands
abbrev bush : ℕ → List ℕ
bush zero = 3 ∷ []
bush (suc n) = 2 ∷ (bush n ++ bush n)

pub cases : List Case
cases =
    -- M1, not(a0 and not a1), has five nodes, and a1 stands at depth 4
    case Untranslated (1 ∷ 2 ∷ 0 ∷ 0 ∷ 1 ∷ 0 ∷ 1 ∷ []) (nodes_and_depth 5 4)
    -- M11, (not Input) U (Input and X((not Input) U (Input and a1))), has twelve, and a1 stands at depth 6
    ∷ case Translated (11 ∷ 1 ∷ 3 ∷ 2 ∷ 3 ∷ 8 ∷ 11 ∷ 1 ∷ 3 ∷ 2 ∷ 3 ∷ 0 ∷ 1 ∷ []) (nodes_and_depth 12 6)
    -- "a lone atom has depth 1"
    ∷ case Untranslated (0 ∷ 31 ∷ []) (nodes_and_depth 1 1)
    -- a number that is missing, not shortest, too large
    ∷ case Untranslated [] (refused_at CutShort 0)
    ∷ case Untranslated (0 ∷ []) (refused_at CutShort 1)
    ∷ case Untranslated (1 ∷ 128 ∷ 0 ∷ []) (refused_at NotShortest 1)
    ∷ case Untranslated (1 ∷ 128 ∷ 128 ∷ 4 ∷ []) (refused_at TooLarge 1)
    -- a tag that is unknown: 300, 6, and 12 in a translated requirement; an atom above 31
    ∷ case Untranslated (172 ∷ 2 ∷ []) (refused_at NoSuchNode 0)
    ∷ case Untranslated (6 ∷ []) (refused_at NoSuchNode 0)
    ∷ case Translated (12 ∷ 3 ∷ []) (refused_at NoSuchNode 0)
    ∷ case Untranslated (0 ∷ 32 ∷ []) (refused_at NoSuchNode 1)
    -- bytes left over, whatever they are
    ∷ case Untranslated (3 ∷ 3 ∷ []) (refused_at LeftOver 1)
    ∷ case Untranslated (3 ∷ 128 ∷ []) (refused_at LeftOver 1)
    -- depth 16 and 17; past the limit an unknown tag is 3 all the same, and an atom's number is not looked at
    ∷ case Untranslated (nots 15 (0 ∷ 0 ∷ [])) (nodes_and_depth 16 16)
    ∷ case Untranslated (nots 16 (0 ∷ 0 ∷ [])) (refused_at PastLimit 16)
    ∷ case Untranslated (nots 16 (6 ∷ [])) (refused_at NoSuchNode 16)
    ∷ case Untranslated (nots 16 (0 ∷ 32 ∷ [])) (refused_at PastLimit 16)
    -- 64 nodes and 65
    ∷ case Untranslated (nots 1 (bush 5)) (nodes_and_depth 64 7)
    ∷ case Untranslated (nots 2 (bush 5)) (refused_at PastLimit 64)
    -- the 65th node's tag is missing, or unknown
    ∷ case Untranslated (take 64 (nots 2 (bush 5))) (refused_at CutShort 64)
    ∷ case Untranslated (take 64 (nots 2 (bush 5)) ++ (6 ∷ [])) (refused_at NoSuchNode 64)
    -- translated: depth 76 and 77, 704 nodes and more
    ∷ case Translated (nots 75 (3 ∷ [])) (nodes_and_depth 76 76)
    ∷ case Translated (nots 76 (3 ∷ [])) (refused_at PastLimit 76)
    ∷ case Translated (2 ∷ (bush 8 ++ nots 1 (2 ∷ (bush 6 ++ bush 5)))) (nodes_and_depth 704 10)
    ∷ case Translated (bush 9) (refused_at PastLimit 704)
    ∷ []

abbrev answered : Case → Check
answered c = checked c.kind (code_at c.bytes 0)

pub shown : map answered cases ≡ map (λ c. c.answer) cases
unfolding cases checked parsed tree_of atom_of tag_in tag_of code_at nodes_of depth_of
shown = refl
