-- A lasso trace and its endless run (document 01, Phases and the lasso).
-- Assumes nothing: these are definitions.
use Rattle.std.specs.Prelude.{ℕ, suc, zero, ◌≤◌, ◌<◌, ◌≡◌, Bool, true, false, cond, ltb}
use Rattle.requirement.specs.declared.Phase.{Phase}
use Rattle.requirement.specs.declared.Phase.TheVariants.{Input, Exe, Output}
use Rattle.meaning.specs.Meaning.{Run}

-- The stored positions, len of them; the one that follows the last; the phase of a position, and whether atom k holds there.
pub record Trace : Type 0 where
  pub len : ℕ
  pub loop : ℕ
  pub phase_at : ℕ → Phase
  pub atom_at : ℕ → ℕ → Bool

-- The position that follows position i.
abbrev pub after : Trace → ℕ → ℕ
after t i = cond (ltb (suc i) t.len) (suc i) t.loop

-- The position at which the endless run is at moment n.
unfoldable pub position : Trace → ℕ → ℕ
position t zero = 0
position t (suc n) = after t (position t n)

abbrev pub endless : Trace → Run
endless t = record { phase = λ n. t.phase_at (position t n); says = λ n. t.atom_at (position t n) }

-- "In a well-formed trace Output is followed by Input, Input by Exe, Exe by Exe or Output, at the join too"
abbrev pub Follows : Phase → Phase → Bool
Follows Output Input = true
Follows Output Exe = false
Follows Output Output = false
Follows Input Input = false
Follows Input Exe = true
Follows Input Output = false
Follows Exe Input = false
Follows Exe Exe = true
Follows Exe Output = true

-- ".. and the loop holds an Output."
pub record WellFormed (t : Trace) : Type 0 where
  pub inside : t.loop < t.len
  pub steps : (i : ℕ) → i < t.len → Follows (t.phase_at i) (t.phase_at (after t i)) ≡ true
  pub written : (i : ℕ) × (t.loop ≤ i) × (i < t.len) × (t.phase_at i ≡ Output)
