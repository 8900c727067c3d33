-- Document 01, Meaning: "Translation, operands translated first, "p implies q" written not(p and not q)". The table is written once, over whatever has the plain
-- operators: requirements (the translation itself), rows (the judging) and facts about moments (the proofs).
-- Assumes nothing: these are definitions.
use Rattle.requirement.specs.declared.Phase.{Phase}
use Rattle.requirement.specs.declared.One.{One}
use Rattle.requirement.specs.declared.Two.{Two}
use Rattle.requirement.specs.declared.Phase.TheVariants.{Exe, Output}
use Rattle.requirement.specs.declared.Family.TheVariants.{Plain, Within, Each}
use Rattle.requirement.specs.declared.One.TheVariants.{Not, Next, Ever, Always}
use Rattle.requirement.specs.declared.Two.TheVariants.{And, Until}
use Rattle.requirement.specs.Requirement.{Requirement, atom, mark, one, two}
use Rattle.meaning.specs.Phases.{phase_of}

-- The marks, the Boolean operators and the plain temporal operators.
pub record Operators {ℓ} (A : Type ℓ) : Type ℓ where
  pub is : Phase → A
  pub neg : A → A
  pub both : A → A → A
  pub X : A → A
  pub F : A → A
  pub G : A → A
  pub U : A → A → A

module _ {ℓ} {A : Type ℓ} (a : Operators A) where
  open a use {is, neg, both, X, F, G, U}

  abbrev pub implies : A → A → A
  implies p q = neg (both p (neg q))

  -- "X^e f: X(Exe and f). F^e f: (not Output) U (Exe and f). G^e f: (f and Exe) U Output."
  -- "X^i f: (not Input) U (Input and X((not Input) U (Input and f))). F^i f: F(Input and f). G^i f: G(Input implies f) .. o with Output."
  abbrev pub one_to : One → A → A
  one_to Not f = neg f
  one_to (Next Plain) f = X f
  one_to (Next Within) f = X (both (is Exe) f)
  one_to (Next (Each s)) f = let p = is (phase_of s) in U (neg p) (both p (X (U (neg p) (both p f))))
  one_to (Ever Plain) f = F f
  one_to (Ever Within) f = U (neg (is Output)) (both (is Exe) f)
  one_to (Ever (Each s)) f = F (both (is (phase_of s)) f)
  one_to (Always Plain) f = G f
  one_to (Always Within) f = U (both f (is Exe)) (is Output)
  one_to (Always (Each s)) f = G (implies (is (phase_of s)) f)

  -- "f U^e g: (f and Exe) U (g and Exe)." "f U^i g: (Input implies f) U (Input and g)."
  abbrev pub two_to : Two → A → A → A
  two_to And f g = both f g
  two_to (Until Plain) f g = U f g
  two_to (Until Within) f g = U (both f (is Exe)) (both g (is Exe))
  two_to (Until (Each s)) f g = U (implies (is (phase_of s)) f) (both (is (phase_of s)) g)

abbrev pub written : Operators Requirement
written =
    record {
      is = mark;
      neg = one Not;
      both = two And;
      X = one (Next Plain);
      F = one (Ever Plain);
      G = one (Always Plain);
      U = two (Until Plain);
    }

-- Operands are translated first.
unfoldable pub translate : Requirement → Requirement
translate (atom k) = atom k
translate (mark p) = mark p
translate (one u f) = one_to written u (translate f)
translate (two b f g) = two_to written b (translate f) (translate g)
