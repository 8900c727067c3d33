-- What is printed of a refusal and of a kind of requirement.
-- Assumes nothing: these are definitions. Letters are their bytes.
use Rattle.std.specs.Prelude.{ℕ, List, [], ◌∷◌, ◌++◌}
use Rattle.std.specs.Fmt.{decimal}
use Rattle.requirement.specs.declared.Kind.{Kind}
use Rattle.requirement.specs.declared.Kind.TheVariants.{Untranslated, Translated}

-- `: refused` number `at` place
abbrev pub refused : ℕ → ℕ → List ℕ
refused number place =
    (58 ∷ 32 ∷ 114 ∷ 101 ∷ 102 ∷ 117 ∷ 115 ∷ 101 ∷ 100 ∷ 32 ∷ [])
    ++ (decimal number ++ ((32 ∷ 97 ∷ 116 ∷ 32 ∷ []) ++ decimal place))

-- `requirement` or `translated`
abbrev pub kind_word : Kind → List ℕ
kind_word Untranslated = 114 ∷ 101 ∷ 113 ∷ 117 ∷ 105 ∷ 114 ∷ 101 ∷ 109 ∷ 101 ∷ 110 ∷ 116 ∷ []
kind_word Translated = 116 ∷ 114 ∷ 97 ∷ 110 ∷ 115 ∷ 108 ∷ 97 ∷ 116 ∷ 101 ∷ 100 ∷ []
