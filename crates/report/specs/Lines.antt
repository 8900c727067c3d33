-- Document 01, The bench case: "Lines: position count and loop start; verdict at 0 (`holds` or `fails`); findings count; one line per finding. A refusal prints one line,
-- `refused` number `at` place." A line feed ends every line.
-- Assumes nothing: these are definitions. Letters are their bytes.
use Rattle.std.specs.Prelude.{ℕ, zero, suc, ◌+◌, ◌/◌, ◌%◌, Bool, true, false, List, [], ◌∷◌, ◌++◌, length, ltb}
use Rattle.coding.specs.Number.{pick}

-- A number in decimal digits, of which it has at most so many; 20 are enough for every number of 64 bits.
unfoldable pub digits : ℕ → ℕ → List ℕ
digits zero n = []
digits (suc k) n = pick (ltb n 10) ((48 + n) ∷ []) (digits k (n / 10) ++ ((48 + n % 10) ∷ []))

abbrev pub decimal : ℕ → List ℕ
decimal n = digits 20 n

abbrev pub line_feed : List ℕ
line_feed = 10 ∷ []

-- `at` place
unfoldable pub at_line : ℕ → List ℕ
at_line p = (97 ∷ 116 ∷ 32 ∷ []) ++ (decimal p ++ line_feed)

-- `refused` number `at` place
unfoldable pub refused_line : ℕ → ℕ → List ℕ
refused_line number place = (114 ∷ 101 ∷ 102 ∷ 117 ∷ 115 ∷ 101 ∷ 100 ∷ 32 ∷ []) ++ (decimal number ++ ((32 ∷ []) ++ at_line place))

-- `positions` count `loop` start
unfoldable pub positions_line : ℕ → ℕ → List ℕ
positions_line n start =
    (112 ∷ 111 ∷ 115 ∷ 105 ∷ 116 ∷ 105 ∷ 111 ∷ 110 ∷ 115 ∷ 32 ∷ []) ++ (decimal n ++ ((32 ∷ 108 ∷ 111 ∷ 111 ∷ 112 ∷ 32 ∷ []) ++ (decimal start ++ line_feed)))

-- `verdict holds` or `verdict fails`
abbrev pub verdict_line : Bool → List ℕ
verdict_line true = 118 ∷ 101 ∷ 114 ∷ 100 ∷ 105 ∷ 99 ∷ 116 ∷ 32 ∷ 104 ∷ 111 ∷ 108 ∷ 100 ∷ 115 ∷ 10 ∷ []
verdict_line false = 118 ∷ 101 ∷ 114 ∷ 100 ∷ 105 ∷ 99 ∷ 116 ∷ 32 ∷ 102 ∷ 97 ∷ 105 ∷ 108 ∷ 115 ∷ 10 ∷ []

-- `fails` count
unfoldable pub count_line : ℕ → List ℕ
count_line n = (102 ∷ 97 ∷ 105 ∷ 108 ∷ 115 ∷ 32 ∷ []) ++ (decimal n ++ line_feed)

unfoldable pub at_lines : List ℕ → List ℕ
at_lines [] = []
at_lines (p ∷ ps) = at_line p ++ at_lines ps

-- All lines of an accepted input.
unfoldable pub answer_lines : ℕ → ℕ → Bool → List ℕ → List ℕ
answer_lines n start holds found = positions_line n start ++ (verdict_line holds ++ (count_line (length found) ++ at_lines found))
