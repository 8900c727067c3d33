-- Every mark and operator has a tag of its own. So of an untranslated requirement only an atom above 31 is not allowed, and the limits aside every such tree has a code.
-- Assumes nothing.
use Prim.Native.Nat.{◌≤◌}
use mathlib.Core.Path.{◌≡◌, refl}
use Rattle.std.specs.Prelude.{Some}
use Rattle.requirement.specs.Requirement.{Requirement, atom, mark, one, two}
use Rattle.requirement.specs.Tags.{tag_of, mark_no, one_no, two_no}
use Rattle.requirement.specs.Limits.{tag_in, Allowed}
use Rattle.requirement.specs.declared.Kind.{Kind}
use Rattle.requirement.specs.declared.Kind.TheVariants.{Untranslated, Translated}
use Rattle.requirement.specs.declared.Phase.{Phase}
use Rattle.requirement.specs.declared.Phase.TheVariants.{Input, Exe, Output}
use Rattle.requirement.specs.declared.End.TheVariants.{Reads, Writes}
use Rattle.requirement.specs.declared.Family.TheVariants.{Plain, Within, Each}
use Rattle.requirement.specs.declared.One.{One}
use Rattle.requirement.specs.declared.One.TheVariants.{Not, Next, Ever, Always}
use Rattle.requirement.specs.declared.Two.{Two}
use Rattle.requirement.specs.declared.Two.TheVariants.{And, Until}
use Rattle.requirement.specs.declared.Tag.TheVariants.{Mark, OverOne, OverTwo}

pub mark_has : (kind : Kind) (p : Phase) → tag_in kind (mark_no p) ≡ Some (Mark p)
unfolding tag_in tag_of
mark_has Untranslated Input = refl
mark_has Untranslated Exe = refl
mark_has Untranslated Output = refl
mark_has Translated Input = refl
mark_has Translated Exe = refl
mark_has Translated Output = refl

pub one_has : (o : One) → tag_in Untranslated (one_no o) ≡ Some (OverOne o)
unfolding tag_in tag_of
one_has Not = refl
one_has (Next Plain) = refl
one_has (Next Within) = refl
one_has (Next (Each Reads)) = refl
one_has (Next (Each Writes)) = refl
one_has (Ever Plain) = refl
one_has (Ever Within) = refl
one_has (Ever (Each Reads)) = refl
one_has (Ever (Each Writes)) = refl
one_has (Always Plain) = refl
one_has (Always Within) = refl
one_has (Always (Each Reads)) = refl
one_has (Always (Each Writes)) = refl

pub two_has : (o : Two) → tag_in Untranslated (two_no o) ≡ Some (OverTwo o)
unfolding tag_in tag_of
two_has And = refl
two_has (Until Plain) = refl
two_has (Until Within) = refl
two_has (Until (Each Reads)) = refl
two_has (Until (Each Writes)) = refl

-- "0 atom and its number (0 to 31)"
abbrev pub AtomsTo31 : Requirement → Type 0
AtomsTo31 (atom k) = k ≤ 31
AtomsTo31 (mark p) = Unit {0}
AtomsTo31 (one o f) = AtomsTo31 f
AtomsTo31 (two o f g) = AtomsTo31 f × AtomsTo31 g

pub all_allowed : (f : Requirement) → AtomsTo31 f → Allowed Untranslated f
unfolding Allowed
all_allowed (atom k) a = a
all_allowed (mark p) a = mark_has Untranslated p
all_allowed (one o f) a = (one_has o, all_allowed f a)
all_allowed (two o f g) a = (two_has o, all_allowed f a.0, all_allowed g a.1)
