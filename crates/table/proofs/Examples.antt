-- Tables and inputs records as document 01 has them, at the ends of every range and in the order of refusals, by computing the definitions.
-- Assumes nothing.
use Prim.Native.Nat.{ℕ}
use mathlib.Core.Path.{◌≡◌, refl}
use mathlib.Core.List.{List, [], ◌∷◌, ◌++◌, map}
use lib.ListN.{replicate}
use Rattle.coding.specs.Refusal.{Answer, refused_at}
use Rattle.std.specs.Prelude.{Ok}
use Rattle.coding.specs.Code.{code_at, numbered}
use Rattle.coding.specs.Number.{bytes_of}
use Rattle.coding.specs.Room.{read_by, write_by}
use Rattle.coding.specs.declared.Cause.TheVariants.{CutShort, NotShortest, TooLarge, LeftOver, NotAllowed, ShortBuffer}
use Rattle.ranges.specs.Limits.{most_processes}
use Rattle.ranges.specs.Values.{within, total_ok, is_internal, is_variable, test_a_ok, op_ok, x_ok, y_ok, uses_nexts, guard_ok, uses_else, next_ok}
use Rattle.ranges.specs.Order.{allowed, at_sources, after_source, at_tests, after_test, after_action}
use Rattle.table.specs.Table.{check, counts_from, state_ok, tests_from, table_grammar, inputs_grammar}

-- What is answered to the bytes of a table; to the numbers of a table; of an inputs record of so many input variables to its bytes,
-- to its bytes with room for so many numbers, and to its numbers with room for so many bytes.
pub data Example : Type 0 where
  table : List ℕ → Answer → Example
  numbers : List ℕ → Answer → Example
  inputs : ℕ → List ℕ → Answer → Example
  reading : ℕ → ℕ → List ℕ → Answer → Example
  writing : ℕ → ℕ → List ℕ → Answer → Example

abbrev pub found : Example → Answer
found (table s a) = table_grammar most_processes (code_at s 0)
found (numbers xs a) = table_grammar most_processes (numbered 0 xs)
found (inputs n s a) = inputs_grammar n (code_at s 0)
found (reading n room s a) = read_by (inputs_grammar n) s (replicate room 0)
found (writing n room xs a) = write_by (inputs_grammar n) xs (replicate room 0)

abbrev pub said : Example → Answer
said (table s a) = a
said (numbers xs a) = a
said (inputs n s a) = a
said (reading n room s a) = a
said (writing n room xs a) = a

-- The bench case.
abbrev pub bench : List ℕ
bench = 1 ∷ 1 ∷ 1 ∷ 1 ∷ 2 ∷ 0 ∷ 0 ∷ 1 ∷ 0 ∷ 2 ∷ 1 ∷ 1 ∷ 1 ∷ 1 ∷ 2 ∷ 1 ∷ 0 ∷ 0 ∷ 0 ∷ 0 ∷ []

-- A table of no variable, one test of kind 2, and two processes, the first of one state, the second of two: a at 5, b at 6, and the last op,
-- which is the second process's in its last state, at 25, or one byte on if b takes two bytes.
abbrev pub doing : ℕ → List ℕ → List ℕ
doing op rest = 1 ∷ op ∷ 0 ∷ 0 ∷ 0 ∷ 0 ∷ 0 ∷ rest

abbrev pub testing : ℕ → List ℕ → ℕ → List ℕ → List ℕ
testing a b op rest = 0 ∷ 0 ∷ 0 ∷ 1 ∷ 2 ∷ a ∷ (b ++ (2 ∷ 1 ∷ doing 11 (2 ∷ doing 10 (doing op rest))))

abbrev pub examples : List Example
examples =
    table bench (Ok 20)
    ∷ numbers bench (Ok 20)
    -- the running total passes 32
    ∷ table (20 ∷ 13 ∷ 0 ∷ []) (refused_at NotAllowed 1)
    -- a number that is missing or is none
    ∷ table [] (refused_at CutShort 0)
    ∷ table (1 ∷ 1 ∷ []) (refused_at CutShort 2)
    ∷ table (1 ∷ 0x80 ∷ []) (refused_at CutShort 1)
    ∷ table (1 ∷ 0x80 ∷ 0x00 ∷ []) (refused_at NotShortest 1)
    ∷ table (1 ∷ 0x80 ∷ 0x80 ∷ 0x04 ∷ []) (refused_at TooLarge 1)
    -- kind 2: a is a process, b is 0, 255 or one of its own states
    ∷ table (testing 0 (0 ∷ []) 11 []) (refused_at NotAllowed 5)
    ∷ table (testing 1 (0 ∷ []) 11 []) (Ok 31)
    ∷ table (testing 1 (1 ∷ []) 11 []) (Ok 31)
    ∷ table (testing 1 (2 ∷ []) 11 []) (refused_at NotAllowed 6)
    ∷ table (testing 2 (2 ∷ []) 11 []) (Ok 31)
    ∷ table (testing 2 (3 ∷ []) 11 []) (refused_at NotAllowed 6)
    ∷ table (testing 3 (0 ∷ []) 11 []) (refused_at NotAllowed 5)
    ∷ table (testing 3 (3 ∷ []) 11 []) (refused_at NotAllowed 5)
    ∷ table (testing 2 (0xFE ∷ 0x01 ∷ []) 11 []) (refused_at NotAllowed 6)
    ∷ table (testing 2 (0xFF ∷ 0x01 ∷ []) 11 []) (Ok 31)
    ∷ table (testing 2 (0x80 ∷ 0x02 ∷ []) 11 []) (refused_at NotAllowed 6)
    -- test by test, a before b
    ∷ table (0 ∷ 0 ∷ 0 ∷ 2 ∷ 2 ∷ 1 ∷ 2 ∷ 2 ∷ 0 ∷ 0 ∷ 1 ∷ 1 ∷ doing 11 []) (refused_at NotAllowed 6)
    ∷ table (0 ∷ 0 ∷ 0 ∷ 2 ∷ 2 ∷ 1 ∷ 1 ∷ 2 ∷ 2 ∷ 2 ∷ 1 ∷ 1 ∷ doing 11 []) (refused_at NotAllowed 8)
    -- all this after every other fault and after left-over bytes
    ∷ table (testing 0 (0 ∷ []) 10 []) (refused_at NotAllowed 25)
    ∷ table (testing 0 (0xFF ∷ 0x01 ∷ []) 10 []) (refused_at NotAllowed 26)
    ∷ numbers (testing 0 (255 ∷ []) 10 []) (refused_at NotAllowed 25)
    ∷ table (testing 0 (0 ∷ []) 11 (0 ∷ [])) (refused_at LeftOver 31)
    ∷ table (testing 0 (0xFF ∷ 0x01 ∷ []) 11 (0x80 ∷ [])) (refused_at LeftOver 32)
    ∷ numbers (testing 0 (255 ∷ []) 11 (0 ∷ [])) (refused_at LeftOver 31)
    -- inputs: the count of input variables, the scans, the return scan, the numbers, what is left over
    ∷ inputs 1 (3 ∷ 1 ∷ 0 ∷ 1 ∷ 0 ∷ []) (Ok 5)
    ∷ inputs 32 (1 ∷ 0 ∷ replicate 32 0) (Ok 34)
    ∷ inputs 33 [] (refused_at NotAllowed 0)
    ∷ inputs 33 (1 ∷ 0 ∷ replicate 33 0) (refused_at NotAllowed 0)
    ∷ inputs 1 (0 ∷ []) (refused_at NotAllowed 0)
    ∷ inputs 0 (0xD5 ∷ 0x0A ∷ 0xD4 ∷ 0x0A ∷ []) (Ok 2)
    ∷ inputs 0 (0xD5 ∷ 0x0A ∷ 0xD5 ∷ 0x0A ∷ []) (refused_at NotAllowed 2)
    ∷ inputs 0 (0xD6 ∷ 0x0A ∷ 0 ∷ []) (refused_at NotAllowed 0)
    ∷ inputs 1 (3 ∷ 3 ∷ []) (refused_at NotAllowed 1)
    ∷ inputs 1 (3 ∷ 1 ∷ 0 ∷ 1 ∷ []) (refused_at CutShort 4)
    ∷ inputs 1 (3 ∷ 1 ∷ 0 ∷ 1 ∷ 0x80 ∷ 0x00 ∷ []) (refused_at NotShortest 4)
    ∷ inputs 1 (3 ∷ 1 ∷ 0 ∷ 1 ∷ 0 ∷ 0 ∷ []) (refused_at LeftOver 5)
    ∷ inputs 1 (3 ∷ 1 ∷ 0 ∷ 1 ∷ 0 ∷ 0x80 ∷ []) (refused_at LeftOver 5)
    -- "In both 10 comes last"
    ∷ reading 1 5 (3 ∷ 1 ∷ 0 ∷ 1 ∷ 0 ∷ []) (Ok 5)
    ∷ reading 1 4 (3 ∷ 1 ∷ 0 ∷ 1 ∷ 0 ∷ []) (refused_at ShortBuffer 5)
    ∷ reading 1 4 (3 ∷ 1 ∷ 0 ∷ 1 ∷ 0 ∷ 0 ∷ []) (refused_at LeftOver 5)
    ∷ writing 1 6 (3 ∷ 1 ∷ 0 ∷ 300 ∷ 0 ∷ []) (Ok 6)
    ∷ writing 1 5 (3 ∷ 1 ∷ 0 ∷ 300 ∷ 0 ∷ []) (refused_at ShortBuffer 6)
    ∷ writing 1 5 (3 ∷ 1 ∷ 0 ∷ 300 ∷ 0 ∷ 0 ∷ []) (refused_at LeftOver 5)
    ∷ []

pub shown : map found examples ≡ map said examples
unfolding code_at bytes_of within total_ok is_internal is_variable test_a_ok op_ok x_ok y_ok uses_nexts guard_ok uses_else next_ok allowed at_sources after_source at_tests after_test after_action check counts_from state_ok tests_from table_grammar inputs_grammar
shown = refl
