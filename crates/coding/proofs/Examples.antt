-- Document 01's own examples of the coding: "0 is 00; 127 is 7F; 128 is 80 01; 300 is AC 02; 65,535 is FF FF 03. 80 00 and 80 80 04 are refused".
-- Assumes nothing.
use Prim.Native.Nat.{ℕ}
use mathlib.Core.Path.{◌≡◌, refl}
use mathlib.Core.List.{List, [], ◌∷◌, map}
use Rattle.coding.specs.Refusal.{NumberRead, value_then, refused_at}
use Rattle.coding.specs.Number.{bytes_of, number_at}
use Rattle.coding.specs.declared.Cause.TheVariants.{CutShort, NotShortest, TooLarge}

abbrev spellings : List (List ℕ)
spellings = (0x00 ∷ []) ∷ (0x7F ∷ []) ∷ (0x80 ∷ 0x01 ∷ []) ∷ (0xAC ∷ 0x02 ∷ []) ∷ (0xFF ∷ 0xFF ∷ 0x03 ∷ []) ∷ []

abbrev at_start : List ℕ → NumberRead
at_start s = number_at s 0

pub written : map bytes_of (0 ∷ 127 ∷ 128 ∷ 300 ∷ 65535 ∷ []) ≡ spellings
unfolding bytes_of
written = refl

pub read : map at_start spellings ≡ value_then 0 1 ∷ value_then 127 1 ∷ value_then 128 2 ∷ value_then 300 2 ∷ value_then 65535 3 ∷ []
unfolding number_at
read = refl

-- each of the four ways in which no number stands there
pub refused : map at_start ((0x80 ∷ 0x00 ∷ []) ∷ (0x80 ∷ 0x80 ∷ 0x04 ∷ []) ∷ (0x80 ∷ 0x80 ∷ 0x00 ∷ []) ∷ (0x80 ∷ 0x80 ∷ 0x80 ∷ 0x00 ∷ []) ∷ (0x80 ∷ 0x80 ∷ []) ∷ (0x80 ∷ []) ∷ [] ∷ [])
    ≡ refused_at NotShortest 0 ∷ refused_at TooLarge 0 ∷ refused_at NotShortest 0 ∷ refused_at TooLarge 0 ∷ refused_at CutShort 0 ∷ refused_at CutShort 0 ∷ refused_at CutShort 0 ∷ []
unfolding number_at
refused = refl
