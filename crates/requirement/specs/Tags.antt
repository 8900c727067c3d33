-- Document 01, Coding: "Requirement, operator first: 0 atom and its number (0 to 31); 1 not; 2 and; marks 3 Input, 4 Exe, 5 Output;
-- plain X, F, G, U 8 to 11; e operators 12 to 15, i 16 to 19, o 20 to 23, in the same order."
-- Assumes nothing: these are definitions.
use Rattle.std.specs.Prelude.{ℕ, ◌+◌, List, [], ◌∷◌, ◌++◌, get_or, Option, Some, None}
use Rattle.requirement.specs.Requirement.{Requirement, atom, mark, one, two}
use Rattle.requirement.specs.declared.Phase.{Phase}
use Rattle.requirement.specs.declared.Phase.TheVariants.{Input, Exe, Output}
use Rattle.requirement.specs.declared.End.TheVariants.{Reads, Writes}
use Rattle.requirement.specs.declared.Family.{Family}
use Rattle.requirement.specs.declared.Family.TheVariants.{Plain, Within, Each}
use Rattle.requirement.specs.declared.One.{One}
use Rattle.requirement.specs.declared.One.TheVariants.{Not, Next, Ever, Always}
use Rattle.requirement.specs.declared.Two.{Two}
use Rattle.requirement.specs.declared.Two.TheVariants.{And, Until}
use Rattle.requirement.specs.declared.Node.{Node}
use Rattle.requirement.specs.declared.Node.TheVariants.{Atom as AtomNode, Mark as MarkNode, OverOne as OneNode, OverTwo as TwoNode}
use Rattle.requirement.specs.declared.Tag.{Tag}
use Rattle.requirement.specs.declared.Tag.TheVariants.{Atom, Mark, OverOne, OverTwo}

-- X, F, G and U of a family, in the paper's order.
abbrev pub four_of : Family → List (Option Tag)
four_of c = Some (OverOne (Next c)) ∷ Some (OverOne (Ever c)) ∷ Some (OverOne (Always c)) ∷ Some (OverTwo (Until c)) ∷ []

-- The tags from 0 on; 6 and 7 have none.
abbrev pub tags : List (Option Tag)
tags =
    Some Atom ∷ Some (OverOne Not) ∷ Some (OverTwo And) ∷ Some (Mark Input) ∷ Some (Mark Exe) ∷ Some (Mark Output) ∷ None ∷ None
    ∷ (four_of Plain ++ (four_of Within ++ (four_of (Each Reads) ++ four_of (Each Writes))))

unfoldable pub tag_of : ℕ → Option Tag
tag_of v = get_or tags v None

-- The other way round: the number of a mark and of an operator, and the numbers of a whole requirement.
abbrev pub mark_no : Phase → ℕ
mark_no Input = 3
mark_no Exe = 4
mark_no Output = 5

abbrev pub family_no : Family → ℕ
family_no Plain = 8
family_no Within = 12
family_no (Each Reads) = 16
family_no (Each Writes) = 20

abbrev pub one_no : One → ℕ
one_no Not = 1
one_no (Next c) = family_no c
one_no (Ever c) = family_no c + 1
one_no (Always c) = family_no c + 2

abbrev pub two_no : Two → ℕ
two_no And = 2
two_no (Until c) = family_no c + 3

-- The numbers that a node takes in a code: its tag, and of an atom its number behind it.
abbrev pub node_numbers : Node → List ℕ
node_numbers (AtomNode k) = 0 ∷ k ∷ []
node_numbers (MarkNode p) = mark_no p ∷ []
node_numbers (OneNode o) = one_no o ∷ []
node_numbers (TwoNode o) = two_no o ∷ []

unfoldable pub code_of : Requirement → List ℕ
code_of (atom k) = 0 ∷ k ∷ []
code_of (mark p) = mark_no p ∷ []
code_of (one o f) = one_no o ∷ code_of f
code_of (two o f g) = two_no o ∷ (code_of f ++ code_of g)
