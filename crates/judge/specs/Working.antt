-- How the judging works: rows in the work buffer. These definitions serve private functions alone.
-- Assumes nothing: these are definitions.
use Rattle.std.specs.Prelude.{ℕ, ◌+◌, ◌-◌, ◌*◌, ◌<◌, ◌≤◌, ◌≡◌, Bool, false, not, ◌&&◌, List, [], ◌∷◌, length, get_or, drop, ltb}
use Rattle.std.proofs.Math.Bool.{decide}
use Rattle.coding.specs.Number.{pick}
use Rattle.coding.specs.Room.{over}
use Rattle.judge.specs.Judging.{position_bytes}
use Rattle.requirement.specs.Walking.{Walked, walked, lost}
use Rattle.requirement.specs.declared.Phase.{Phase}
use Rattle.requirement.specs.declared.Phase.TheVariants.{Input}
use Rattle.meaning.specs.Phases.{Phase-discrete}
use Rattle.requirement.specs.declared.Family.{Family}
use Rattle.requirement.specs.declared.One.{One}
use Rattle.requirement.specs.declared.One.TheVariants.{Next, Ever, Always}
use Rattle.requirement.specs.declared.Two.{Two}
use Rattle.requirement.specs.declared.Two.TheVariants.{Until}
use Rattle.meaning.specs.Trace.{Trace}
use Rattle.meaning.specs.Translation.{one_to, two_to}
use Rattle.meaning.specs.Findings.{select}
use Rattle.meaning.specs.Rows.{judge, rowed}
use Rattle.bits.specs.Bits.{bit_b, bit_at, count_b}
use Rattle.bits.specs.Rows.{row_of}
use Rattle.lasso.specs.Bytes.{positions, phase_from, phase_number, phase_byte, trace_of}
use Rattle.judge.specs.declared.Verdict.{Verdict}

-- Two tests agree at n positions; so a row's bits may agree with a test.
abbrev pub Same : ℕ → (ℕ → Bool) → (ℕ → Bool) → Type 0
Same n f g = (p : ℕ) → p < n → f p ≡ g p

-- A work has room for so many rows of a trace's positions; what lies behind its first row; and that row's bits agree with a test.
abbrev pub HasRows : ℕ → List ℕ → List ℕ → Type 0
HasRows rows trace work = rows * row_of (positions trace) ≤ length work

abbrev pub behind : List ℕ → List ℕ → List ℕ
behind trace work = drop (row_of (positions trace)) work

abbrev pub IsRow : List ℕ → List ℕ → (ℕ → Bool) → Type 0
IsRow trace work f = Same (positions trace) (bit_at work) f

-- The first row of the work v is the test f, and what lies behind it is as in w.
abbrev pub Became : List ℕ → (ℕ → Bool) → List ℕ → List ℕ → Type 0
Became trace f w v = IsRow trace v f × (behind trace v ≡ behind trace w)

-- Whether position p of the trace has this phase.
abbrev pub is_at : List ℕ → Phase → ℕ → Bool
is_at trace phase p = decide (Phase-discrete (phase_from (phase_byte trace p)) phase)

-- The bytes of a row of 4,096 positions, the most there are.
abbrev pub longest_row : ℕ
longest_row = 512

-- Digit k of one of the five bytes of position p.
abbrev pub digit_in : List ℕ → ℕ → ℕ → ℕ → Bool
digit_in trace column k p = bit_b (get_or trace (p * 5 + column) 0) k

-- The rows of the three phases, one behind the other: where each phase stands.
abbrev pub mark_place : Phase → ℕ
mark_place phase = phase_number phase * longest_row

pub record Marked (trace marks : List ℕ) : Type 0 where
  pub size : length marks ≡ 3 * longest_row
  pub rows : (phase : Phase) → Same (positions trace) (bit_at (drop (mark_place phase) marks)) (is_at trace phase)

-- A well-formed trace as far as rows need it, with room for so many rows.
pub record Room (rows : ℕ) (trace : List ℕ) (start : ℕ) (work : List ℕ) : Type 0 where
  pub inside : start < positions trace
  pub few : positions trace ≤ 4096
  pub phases : (p : ℕ) → p < positions trace → phase_byte trace p ≤ 2
  pub room : rows * row_of (positions trace) ≤ length work

-- The operators on rows, by the translation's table.
abbrev pub one_of : Trace → One → (ℕ → Bool) → ℕ → Bool
one_of t operator row = one_to (rowed t) operator row

abbrev pub two_of : Trace → Two → (ℕ → Bool) → (ℕ → Bool) → ℕ → Bool
two_of t operator row second = two_to (rowed t) operator row second

abbrev pub next_of : Trace → Family → (ℕ → Bool) → ℕ → Bool
next_of t family row = one_of t (Next family) row

abbrev pub ever_of : Trace → Family → (ℕ → Bool) → ℕ → Bool
ever_of t family row = one_of t (Ever family) row

abbrev pub always_of : Trace → Family → (ℕ → Bool) → ℕ → Bool
always_of t family row = one_of t (Always family) row

abbrev pub until_of : Trace → Family → (ℕ → Bool) → (ℕ → Bool) → ℕ → Bool
until_of t family row second = two_of t (Until family) row second

-- (not phase) U (phase and row)
abbrev pub reach_of : Trace → Phase → (ℕ → Bool) → ℕ → Bool
reach_of t phase row = (rowed t).U ((rowed t).neg ((rowed t).is phase)) ((rowed t).both ((rowed t).is phase) row)

-- What the recursion promises: of a requirement that was walked, the place after its code, and its row.
abbrev pub Rowed : Walked → List ℕ → ℕ → List ℕ → ℕ → Type 0
Rowed (walked f next) trace start work r = (r ≡ next) × Same (positions trace) (bit_at work) (judge (trace_of trace start) f)
Rowed lost trace start work r = Unit

-- Whether position p is an Input at which a row has no bit.
abbrev pub failing : List ℕ → (ℕ → Bool) → ℕ → Bool
failing trace row p = is_at trace Input p && not (row p)

-- What rows, verdict and count promise: the findings' row stands in the first row of work, with nothing behind the last position.
pub record Tallied (trace : List ℕ) (row : ℕ → Bool) (work : List ℕ) (r : Verdict) : Type 0 where
  pub verdict : r.holds ≡ row 0
  pub found : Same (positions trace) (bit_at work) (failing trace row)
  pub behind : (p : ℕ) → positions trace ≤ p → p < 8 * row_of (positions trace) → bit_at work p ≡ false
  pub count : r.count ≡ count_b (failing trace row) (positions trace)

abbrev pub Tallies : Walked → List ℕ → ℕ → List ℕ → Verdict → Type 0
Tallies (walked f next) trace start work r = Tallied trace (judge (trace_of trace start) f) work r
Tallies lost trace start work r = Unit

-- The positions of a row's bits below n, ascending.
abbrev pub listed : (ℕ → Bool) → ℕ → List ℕ
listed row n = select row n 0

-- A position put into a list's bytes where both its bytes have room.
abbrev pub PutPosition : ℕ → List ℕ → ℕ → List ℕ → ℕ → Type 0
PutPosition p d at d' r =
    (r ≡ pick (ltb (at + 1) (length d)) (at + 2) at)
    × (d' ≡ pick (ltb (at + 1) (length d)) (over d at (position_bytes (p ∷ []))) d)

-- How far the list of the positions of a row's n bits has come: up to position p its bytes stand before `at`, and what is left to put gives the whole list.
pub record Listing (b : ℕ → Bool) (n : ℕ) (d₀ : List ℕ) (at p : ℕ) (d : List ℕ) : Type 0 where
  pub below : p ≤ n
  pub rest : over d at (position_bytes (select b (n - p) p)) ≡ over d₀ 0 (position_bytes (select b n 0))
  pub room : at + 2 * length (select b (n - p) p) ≤ length d
  pub size : length d ≡ length d₀

-- The positions of byte i put into a list: wherever the list has come to that byte, it comes to the next.
abbrev pub ListsByte : (ℕ → Bool) → ℕ → ℕ → List ℕ → ℕ → List ℕ → Type 0
ListsByte b i at d r d' = (n : ℕ) (d₀ : List ℕ) → 8 * i + 8 ≤ n → Listing b n d₀ at (8 * i) d → Listing b n d₀ r (8 * i + 8) d'
