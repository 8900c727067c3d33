-- What a requirement means. Document 01, Meaning: "Over moments of the endless run, not over the stored loop."
-- Assumes nothing: these are definitions.
use Rattle.std.specs.Prelude.{ℕ, suc, ◌≤◌, ◌<◌, ◌≡◌, Bool, true}
use Rattle.requirement.specs.declared.Phase.{Phase}
use Rattle.requirement.specs.declared.Family.{Family}
use Rattle.requirement.specs.declared.One.{One}
use Rattle.requirement.specs.declared.Two.{Two}
use Rattle.requirement.specs.declared.Phase.TheVariants.{Exe, Output}
use Rattle.requirement.specs.declared.Family.TheVariants.{Plain, Within, Each}
use Rattle.requirement.specs.declared.One.TheVariants.{Not, Next, Ever, Always}
use Rattle.requirement.specs.declared.Two.TheVariants.{And, Until}
use Rattle.requirement.specs.Requirement.{Requirement, atom, mark, one, two}
use Rattle.meaning.specs.Phases.{phase_of}

-- An endless run: the phase of each moment, and whether atom k holds there.
pub record Run : Type 0 where
  pub phase : ℕ → Phase
  pub says : ℕ → ℕ → Bool

-- m is the first moment at or after n that has phase p.
pub record First (r : Run) (p : Phase) (n m : ℕ) : Type 0 where
  pub from : n ≤ m
  pub there : r.phase m ≡ p
  pub none : (j : ℕ) → n ≤ j → j < m → ¬ (r.phase j ≡ p)

-- "For i operators the input sequence begins at the first Input at or after the moment .. o likewise with Output": the sequence of the moments of
-- phase p at or after n, counted from 0. m is number k of it.
pub data Nth (r : Run) (p : Phase) : ℕ → ℕ → ℕ → Type 0 where
  head : {n m : ℕ} → First r p n m → Nth r p n 0 m
  tail : {n l k m : ℕ} → First r p n l → Nth r p (suc l) k m → Nth r p n (suc k) m

-- The four temporal operators, each in its families; P and Q say at which moments the operands hold. Plain ones are as ever. "The e operators look
-- below the first Output at or after the moment", at Exe moments (those in neither of 000's S_i and S_o): so F^e, G^e and U^e. X^e is 000's own
-- clause, which has no such bound. The i and o operators look at their sequence.

-- X. X^e: the next moment is Exe, and the operand holds there. "X^i is the second of that sequence."
unfoldable pub NextOf : Run → Family → (ℕ → Type 0) → ℕ → Type 0
NextOf r Plain P n = P (suc n)
NextOf r Within P n = (r.phase (suc n) ≡ Exe) × P (suc n)
NextOf r (Each s) P n = (m : ℕ) × Nth r (phase_of s) n 1 m × P m

-- F: at some moment.
unfoldable pub EverOf : Run → Family → (ℕ → Type 0) → ℕ → Type 0
EverOf r Plain P n = (m : ℕ) × (n ≤ m) × P m
EverOf r Within P n = (o : ℕ) × First r Output n o × ((m : ℕ) × (n ≤ m) × (m < o) × (r.phase m ≡ Exe) × P m)
EverOf r (Each s) P n = (k m : ℕ) × Nth r (phase_of s) n k m × P m

-- G: at every moment. G^e: every moment below the first Output is Exe, and the operand holds there.
unfoldable pub AlwaysOf : Run → Family → (ℕ → Type 0) → ℕ → Type 0
AlwaysOf r Plain P n = (m : ℕ) → n ≤ m → P m
AlwaysOf r Within P n = (o : ℕ) × First r Output n o × ((m : ℕ) → n ≤ m → m < o → (r.phase m ≡ Exe) × P m)
AlwaysOf r (Each s) P n = (k m : ℕ) → Nth r (phase_of s) n k m → P m

-- U: the second operand at some moment, and the first at each before it.
unfoldable pub UntilOf : Run → Family → (ℕ → Type 0) → (ℕ → Type 0) → ℕ → Type 0
UntilOf r Plain P Q n = (m : ℕ) × (n ≤ m) × Q m × ((j : ℕ) → n ≤ j → j < m → P j)
UntilOf r Within P Q n =
    (o : ℕ) × First r Output n o
    × ((m : ℕ) × (n ≤ m) × (m < o) × (r.phase m ≡ Exe) × Q m × ((j : ℕ) → n ≤ j → j < m → (r.phase j ≡ Exe) × P j))
UntilOf r (Each s) P Q n = (k m : ℕ) × Nth r (phase_of s) n k m × Q m × ((i j : ℕ) → i < k → Nth r (phase_of s) n i j → P j)

-- The operators over one and over two operands.
unfoldable pub Says : Run → One → (ℕ → Type 0) → ℕ → Type 0
Says r Not P n = ¬ P n
Says r (Next c) P n = NextOf r c P n
Says r (Ever c) P n = EverOf r c P n
Says r (Always c) P n = AlwaysOf r c P n

unfoldable pub Says₂ : Run → Two → (ℕ → Type 0) → (ℕ → Type 0) → ℕ → Type 0
Says₂ r And P Q n = P n × Q n
Says₂ r (Until c) P Q n = UntilOf r c P Q n

-- The requirement holds at moment n of the run.
unfoldable pub Holds : Run → Requirement → ℕ → Type 0
Holds r (atom k) n = r.says n k ≡ true
Holds r (mark p) n = r.phase n ≡ p
Holds r (one u f) n = Says r u (Holds r f) n
Holds r (two b f g) n = Says₂ r b (Holds r f) (Holds r g) n
