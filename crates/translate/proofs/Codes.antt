-- The code of each form of the table: the numbers before, between and behind its operands, and the operands' own codes.
-- Assumes nothing.
use mathlib.Core.Path.{◌≡◌}
use mathlib.Core.List.{◌++◌, append-nil, append_assoc}
use Rattle.requirement.specs.Requirement.{Requirement}
use Rattle.requirement.specs.Tags.{code_of}
use Rattle.requirement.specs.declared.Family.TheVariants.{Plain, Within, Each}
use Rattle.requirement.specs.declared.One.{One}
use Rattle.requirement.specs.declared.One.TheVariants.{Not, Next, Ever, Always}
use Rattle.requirement.specs.declared.Two.{Two}
use Rattle.requirement.specs.declared.Two.TheVariants.{And, Until}
use Rattle.meaning.specs.Translation.{written, one_to, two_to}
use Rattle.translate.specs.Writing.{one_before, one_behind, two_before, two_between, two_behind}

pub one_code : (u : One) (f : Requirement) → code_of (one_to written u f) ≡ one_before u ++ (code_of f ++ one_behind u)
unfolding code_of
one_code Not f = simp append-nil
one_code (Next Plain) f = simp append-nil
one_code (Next Within) f = simp append-nil
one_code (Next (Each s)) f = simp append-nil
one_code (Ever Plain) f = simp append-nil
one_code (Ever Within) f = simp append-nil
one_code (Ever (Each s)) f = simp append-nil
one_code (Always Plain) f = simp append-nil
one_code (Always Within) f = simp append_assoc
one_code (Always (Each s)) f = simp append-nil

pub two_code : (b : Two) (f g : Requirement) → code_of (two_to written b f g) ≡ two_before b ++ (code_of f ++ (two_between b ++ (code_of g ++ two_behind b)))
unfolding code_of
two_code And f g = simp append-nil
two_code (Until Plain) f g = simp append-nil
two_code (Until Within) f g = simp append_assoc
two_code (Until (Each s)) f g = simp append-nil
