-- A translation has plain operators only, at most eleven times the nodes, and five levels for one. Assumes nothing.
use Prim.Native.Nat.{◌≤◌, ◌+◌, ◌*◌, max}
use native.Mathlib.Omega.{arith}
use Rattle.requirement.specs.declared.Family.{Family}
use Rattle.requirement.specs.declared.One.{One}
use Rattle.requirement.specs.declared.Two.{Two}
use Rattle.requirement.specs.declared.Family.TheVariants.{Plain, Within, Each}
use Rattle.requirement.specs.declared.One.TheVariants.{Not, Next, Ever, Always}
use Rattle.requirement.specs.declared.Two.TheVariants.{And, Until}
use Rattle.requirement.specs.Requirement.{Requirement, atom, mark, one, two, nodes_of, depth_of}
use Rattle.meaning.specs.Translation.{Operators, written, translate, one_to, two_to}
use Rattle.meaning.proofs.Related.{Related, one_related, two_related}

-- The nodes of each form, and its depth, over those of its operands.
one_nodes : (u : One) (f : Requirement) → (nodes_of (one_to written u f) ≤ 11 + nodes_of f) × (depth_of (one_to written u f) ≤ 5 + max 1 (depth_of f))
unfolding nodes_of depth_of
one_nodes Not f = omega arith
one_nodes (Next Plain) f = omega arith
one_nodes (Next Within) f = omega arith
one_nodes (Next (Each s)) f = omega arith
one_nodes (Ever Plain) f = omega arith
one_nodes (Ever Within) f = omega arith
one_nodes (Ever (Each s)) f = omega arith
one_nodes (Always Plain) f = omega arith
one_nodes (Always Within) f = omega arith
one_nodes (Always (Each s)) f = omega arith

two_nodes : (b : Two) (f g : Requirement)
    → (nodes_of (two_to written b f g) ≤ 11 + (nodes_of f + nodes_of g)) × (depth_of (two_to written b f g) ≤ 5 + max (depth_of f) (depth_of g))
unfolding nodes_of depth_of
two_nodes And f g = omega arith
two_nodes (Until Plain) f g = omega arith
two_nodes (Until Within) f g = omega arith
two_nodes (Until (Each s)) f g = omega arith

-- At most 704 nodes for 64, and 76 levels for 16.
pub bounded : (f : Requirement) → (nodes_of (translate f) ≤ 11 * nodes_of f) × (1 ≤ depth_of f) × (depth_of (translate f) + 4 ≤ 5 * depth_of f)
unfolding translate nodes_of depth_of
bounded (atom k) = omega arith
bounded (mark p) = omega arith
bounded (one u f) = omega (arith, bounded f, one_nodes u (translate f))
bounded (two b f g) = omega (arith, bounded f, bounded g, two_nodes b (translate f) (translate g))

abbrev pub IsPlain : Family → Type 0
IsPlain Plain = Unit
IsPlain Within = ⊥
IsPlain (Each s) = ⊥

abbrev pub PlainOne : One → Type 0
PlainOne Not = Unit
PlainOne (Next c) = IsPlain c
PlainOne (Ever c) = IsPlain c
PlainOne (Always c) = IsPlain c

abbrev pub PlainTwo : Two → Type 0
PlainTwo And = Unit
PlainTwo (Until c) = IsPlain c

abbrev pub AllPlain : Requirement → Type 0
AllPlain (atom k) = Unit
AllPlain (mark p) = Unit
AllPlain (one u f) = PlainOne u × AllPlain f
AllPlain (two b f g) = PlainTwo b × AllPlain f × AllPlain g

-- The table's forms have plain operators only: one relation, to nothing.
nothing : Operators (Unit {0})
nothing = record { is = λ p. tt; neg = λ f. tt; both = λ f g. tt; X = λ f. tt; F = λ f. tt; G = λ f. tt; U = λ f g. tt }

plain_forms : Related written nothing (λ f u. AllPlain f)
plain_forms =
    record {
      is = λ p. tt;
      neg = λ h. (tt, h);
      both = λ h k. (tt, h, k);
      X = λ h. (tt, h);
      F = λ h. (tt, h);
      G = λ h. (tt, h);
      U = λ h k. (tt, h, k);
    }

pub plainly : (f : Requirement) → AllPlain (translate f)
unfolding translate
plainly (atom k) = tt
plainly (mark p) = tt
plainly (one u f) = one_related plain_forms u {y = tt} (plainly f)
plainly (two b f g) = two_related plain_forms b {y = tt} {w = tt} (plainly f) (plainly g)
