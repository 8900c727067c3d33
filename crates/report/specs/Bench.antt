-- Document 01, The bench case, as the program sees it: the three blocks after their lengths, and "For 1 2 0 0 1 0 1, not(a0 and not a1), it prints exactly" these four lines.
-- Assumes nothing: these are definitions.
use Rattle.std.specs.Prelude.{ℕ, List, [], ◌∷◌, ◌++◌}
use Rattle.endless.specs.Bench.{bench_table, bench_inputs}

abbrev pub bench_requirement : List ℕ
bench_requirement = 1 ∷ 2 ∷ 0 ∷ 0 ∷ 1 ∷ 0 ∷ 1 ∷ []

abbrev pub bench_input : List ℕ
bench_input = (20 ∷ bench_table) ++ ((5 ∷ bench_inputs) ++ (7 ∷ bench_requirement))

-- positions 12 loop 4; verdict holds; fails 1; at 5
abbrev pub bench_text : List ℕ
bench_text =
    112 ∷ 111 ∷ 115 ∷ 105 ∷ 116 ∷ 105 ∷ 111 ∷ 110 ∷ 115 ∷ 32 ∷ 49 ∷ 50 ∷ 32 ∷ 108 ∷ 111 ∷ 111 ∷ 112 ∷ 32 ∷ 52 ∷ 10
    ∷ 118 ∷ 101 ∷ 114 ∷ 100 ∷ 105 ∷ 99 ∷ 116 ∷ 32 ∷ 104 ∷ 111 ∷ 108 ∷ 100 ∷ 115 ∷ 10
    ∷ 102 ∷ 97 ∷ 105 ∷ 108 ∷ 115 ∷ 32 ∷ 49 ∷ 10
    ∷ 97 ∷ 116 ∷ 32 ∷ 53 ∷ 10 ∷ []
