-- The judging of a requirement on the stored positions, row by row: a bit for each position. What a requirement means is said elsewhere;
-- that the rows decide it is a theorem.
-- Assumes nothing: these are definitions.
use Rattle.std.specs.Prelude.{ℕ, suc, zero, ◌-◌, Bool, true, false, not as inv, ◌&&◌, ◌||◌}
use Rattle.std.proofs.Math.Bool.{decide}
use Rattle.requirement.specs.Requirement.{Requirement, atom, mark, one, two}
use Rattle.meaning.specs.Phases.{Phase-discrete}
use Rattle.meaning.specs.Translation.{Operators, one_to, two_to}
use Rattle.meaning.specs.Trace.{Trace, after}

-- One backward walk for f U g over k positions from i on, where v is the value after the last of them.
unfoldable pub walk : (ℕ → Bool) → (ℕ → Bool) → Bool → ℕ → ℕ → Bool
walk f g v zero i = v
walk f g v (suc k) i = g i || (f i && walk f g v k (suc i))

-- f U g: a walk that starts with false at the join, and a second one that starts with the value found there.
abbrev pub until_row : Trace → (ℕ → Bool) → (ℕ → Bool) → ℕ → Bool
until_row t f g i = walk f g (walk f g false (t.len - t.loop) t.loop) (t.len - i) i

-- The plain operators on rows.
abbrev pub rowed : Trace → Operators (ℕ → Bool)
rowed t =
    record {
      is = λ p i. decide (Phase-discrete (t.phase_at i) p);
      neg = λ f i. inv (f i);
      both = λ f g i. f i && g i;
      X = λ f i. f (after t i);
      F = λ f. until_row t (λ i. true) f;
      G = λ f i. inv (until_row t (λ j. true) (λ j. inv (f j)) i);
      U = until_row t;
    }

unfoldable pub judge : Trace → Requirement → ℕ → Bool
judge t (atom k) = λ i. t.atom_at i k
judge t (mark p) = (rowed t).is p
judge t (one u f) = one_to (rowed t) u (judge t f)
judge t (two b f g) = two_to (rowed t) b (judge t f) (judge t g)
