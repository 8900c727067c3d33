-- The bytes of a trace. Document 01, Phases and the lasso: "In the trace each has 5 bytes: phase, then 32 atoms, atom 0
-- the lowest bit, low byte first".
-- Assumes nothing: these are definitions.
use Rattle.std.specs.Prelude.{ℕ, zero, suc, ◌+◌, ◌*◌, ◌/◌, ◌%◌, Bool, false, List, length, get_or, eqb, ltb}
use Rattle.coding.specs.Number.{pick}
use Rattle.requirement.specs.declared.Phase.{Phase}
use Rattle.requirement.specs.declared.Phase.TheVariants.{Input, Exe, Output}
use Rattle.meaning.specs.Trace.{Trace}
use Rattle.bits.specs.Bits.{bit_b, count_b}

abbrev pub positions : List ℕ → ℕ
positions s = length s / 5

-- "Output (2) .. Input (0) .. Exe (1)": the phase of a byte, and the byte of a phase. A byte above 2 is no phase: the
-- check refuses a trace that has one, and its value here is then never used.
abbrev pub phase_from : ℕ → Phase
phase_from zero = Input
phase_from (suc zero) = Exe
phase_from (suc (suc n)) = Output

abbrev pub phase_number : Phase → ℕ
phase_number Input = 0
phase_number Exe = 1
phase_number Output = 2

-- The phase byte of position p, and whether it is this one.
abbrev pub phase_byte : List ℕ → ℕ → ℕ
phase_byte s p = get_or s (p * 5) 0

unfoldable pub mark_b : List ℕ → ℕ → ℕ → Bool
mark_b s m p = eqb (phase_byte s p) m

-- Atom a, 0 to 31, at position p.
unfoldable pub atom_b : List ℕ → ℕ → ℕ → Bool
atom_b s a p = bit_b (get_or s (p * 5 + 1 + a / 8) 0) (a % 8)

-- The same of any number: there are 32 atoms, and no other holds anywhere. (Without the bound atom 40 would be read
-- from the position behind.)
unfoldable pub atom_at : List ℕ → ℕ → ℕ → Bool
atom_at s a p = pick (ltb a 32) (atom_b s a p) false

-- The lasso that a trace's bytes and a loop start are.
abbrev pub trace_of : List ℕ → ℕ → Trace
trace_of s start = record { len = positions s; loop = start; phase_at = λ p. phase_from (phase_byte s p); atom_at = λ p a. atom_at s a p }

-- How many of its positions are Input.
abbrev pub inputs_in : List ℕ → ℕ
inputs_in s = count_b (mark_b s 0) (positions s)
