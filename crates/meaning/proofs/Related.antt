-- What is related at the marks and at every plain operator is related at every form of the translation's table. Assumes nothing.
use Rattle.requirement.specs.declared.Phase.{Phase}
use Rattle.requirement.specs.declared.One.{One}
use Rattle.requirement.specs.declared.Two.{Two}
use Rattle.requirement.specs.declared.Phase.TheVariants.{Exe, Output}
use Rattle.requirement.specs.declared.Family.TheVariants.{Plain, Within, Each}
use Rattle.requirement.specs.declared.One.TheVariants.{Not, Next, Ever, Always}
use Rattle.requirement.specs.declared.Two.TheVariants.{And, Until}
use Rattle.meaning.specs.Phases.{phase_of}
use Rattle.meaning.specs.Translation.{Operators, one_to, two_to}

pub record Related {ℓ κ} {A : Type ℓ} {B : Type κ} (a : Operators A) (b : Operators B) (R : A → B → Type 0) : Type (ℓ ⊔ κ) where
  pub is : (p : Phase) → R (a.is p) (b.is p)
  pub neg : {x : A} {y : B} → R x y → R (a.neg x) (b.neg y)
  pub both : {x z : A} {y w : B} → R x y → R z w → R (a.both x z) (b.both y w)
  pub X : {x : A} {y : B} → R x y → R (a.X x) (b.X y)
  pub F : {x : A} {y : B} → R x y → R (a.F x) (b.F y)
  pub G : {x : A} {y : B} → R x y → R (a.G x) (b.G y)
  pub U : {x z : A} {y w : B} → R x y → R z w → R (a.U x z) (b.U y w)

module _ {ℓ κ} {A : Type ℓ} {B : Type κ} {a : Operators A} {b : Operators B} {R : A → B → Type 0} (k : Related a b R) where
  open k use {is, neg, both, X, F, G, U}

  pub one_related : (u : One) {x : A} {y : B} → R x y → R (one_to a u x) (one_to b u y)
  one_related Not h = neg h
  one_related (Next Plain) h = X h
  one_related (Next Within) h = X (both (is Exe) h)
  one_related (Next (Each s)) h = U (neg (is _)) (both (is _) (X (U (neg (is _)) (both (is (phase_of s)) h))))
  one_related (Ever Plain) h = F h
  one_related (Ever Within) h = U (neg (is Output)) (both (is Exe) h)
  one_related (Ever (Each s)) h = F (both (is (phase_of s)) h)
  one_related (Always Plain) h = G h
  one_related (Always Within) h = U (both h (is Exe)) (is Output)
  one_related (Always (Each s)) h = G (neg (both (is (phase_of s)) (neg h)))

  pub two_related : (u : Two) {x z : A} {y w : B} → R x y → R z w → R (two_to a u x z) (two_to b u y w)
  two_related And h g = both h g
  two_related (Until Plain) h g = U h g
  two_related (Until Within) h g = U (both h (is Exe)) (both g (is Exe))
  two_related (Until (Each s)) h g = U (neg (both (is (phase_of s)) (neg h))) (both (is (phase_of s)) g)
