-- The translation agrees at every moment of every endless run, lasso or not, that has infinitely many Outputs and on which requirements can be decided.
-- Assumes nothing.
use Prim.Native.Nat.{ℕ}
use mathlib.Core.Logic.Iff
use mathlib.Core.Logic.{◌↔◌}
use Rattle.requirement.specs.declared.Phase.TheVariants.{Output}
use Rattle.requirement.specs.Requirement.{Requirement, atom, mark, one, two}
use Rattle.meaning.specs.Meaning.{Run, First, NextOf, EverOf, AlwaysOf, UntilOf, Says, Says₂, Holds}
use Rattle.meaning.specs.Translation.{written, translate}
use Rattle.meaning.proofs.Forms.{meant, one_form, two_form}
use Rattle.meaning.proofs.Related.{Related, one_related, two_related}

-- The requirement says at every moment what the fact says.
pub record Means (r : Run) (f : Requirement) (P : ℕ → Type 0) : Type 0 where
  pub at : (n : ℕ) → Holds r f n ↔ P n

module _ (r : Run) (often : (n : ℕ) → (m : ℕ) × First r Output n m) (dec : (f : Requirement) (n : ℕ) → Dec (Holds r f n)) where
  means : Related written (meant r) (Means r)
  unfolding Holds Says Says₂ NextOf EverOf AlwaysOf UntilOf
  means =
      record {
        is = λ p. record { at = λ n. Iff.rfl };
        neg = λ h. record { at = λ n. simp h.at Iff.rfl };
        both = λ h k. record { at = λ n. simp (h.at, k.at) Iff.rfl };
        X = λ h. record { at = λ n. simp h.at Iff.rfl };
        F = λ h. record { at = λ n. simp h.at Iff.rfl };
        G = λ h. record { at = λ n. simp h.at Iff.rfl };
        U = λ h k. record { at = λ n. simp (h.at, k.at) Iff.rfl };
      }

  means_same : {f : Requirement} {P Q : ℕ → Type 0} → ((n : ℕ) → P n ↔ Q n) → Means r f P → Means r f Q
  means_same e h = record { at = λ n. Iff.trans (h.at n) (e n) }

  pub agrees : (f : Requirement) → Means r (translate f) (Holds r f)
  unfolding translate Holds
  agrees (atom k) = record { at = λ n. Iff.rfl }
  agrees (mark p) = means.is p
  agrees (one u f) = means_same (one_form r often _ (dec f) u) (one_related means u (agrees f))
  agrees (two b f g) = means_same (two_form r often _ (dec f) _ b) (two_related means b (agrees f) (agrees g))
