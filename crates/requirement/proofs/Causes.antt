-- Why a requirement is not read: by the refusals 1, 3 and 4 alone.
-- Assumes nothing.
use Prim.Native.Nat.{ℕ, zero, suc, ◌-◌, ◌≤◌}
use native.Mathlib.Omega.{arith}
use mathlib.Core.Path.{◌≡◌}
use mathlib.Core.List.{List}
use lib.Dec.{ltb, eqb}
use Rattle.std.specs.Prelude.{Option, Some, None}
use Rattle.coding.specs.Code.{Code, item, end, broken, code_at}
use Rattle.coding.specs.Refusal.{number_of}
use Rattle.coding.specs.declared.Cause.{Cause}
use Rattle.coding.proofs.Causes.{OneCode, by_test, code_one}
use Rattle.requirement.specs.Requirement.{Requirement, one, two}
use Rattle.requirement.specs.Limits.{node_limit, depth_limit, tag_in}
use Rattle.requirement.specs.Reading.{Got, got, refused, and_then, atom_of, past_of, by_tag, tree_of}
use Rattle.requirement.specs.Reading.{Parsed, whole, unread, whole_of, parsed}
use Rattle.requirement.specs.declared.Kind.{Kind}
use Rattle.requirement.specs.declared.Tag.{Tag}
use Rattle.requirement.specs.declared.Tag.TheVariants.{Atom, Mark, OverOne, OverTwo}

-- The numbers that a requirement is refused by.
pub data NotRequirement : ℕ → Type 0 where
  no_number : NotRequirement 1
  no_node : NotRequirement 3
  past_limit : NotRequirement 4

-- What is refused is refused by one of these numbers; of what was read, the rest of the code can still be at fault.
abbrev NamedGot : Got → Type 0
NamedGot (got f left c) = OneCode c
NamedGot (refused cause place) = NotRequirement (number_of cause)

abbrev pub NamedParsed : Parsed → Type 0
NamedParsed (whole f) = Unit {0}
NamedParsed (unread cause place) = NotRequirement (number_of cause)

named_fault : (cause : Cause) → number_of cause ≡ 1 → NotRequirement (number_of cause)
named_fault cause e = rw e no_number

named_past : (t : Option Tag) → NotRequirement (number_of (past_of t))
named_past None = no_node
named_past (Some tag) = past_limit

named_atom : (left : ℕ) (c : Code) → OneCode c → NamedGot (atom_of left c)
unfolding atom_of
named_atom left (item p v c) o = by_test NamedGot (ltb 31 v) _ _ no_node o
named_atom left (end p) o = no_number
named_atom left (broken cause p) o = named_fault cause o

named_then : (g : Got) (k : Requirement → ℕ → Code → Got) → NamedGot g →
    ((f : Requirement) (n : ℕ) (d : Code) → OneCode d → NamedGot (k f n d)) → NamedGot (and_then g k)
named_then (got f left c) k o h = h f left c o
named_then (refused cause place) k o h = o

named_tag : (sub : ℕ → Code → Got) → ((n : ℕ) (d : Code) → OneCode d → NamedGot (sub n d)) →
    (p : ℕ) (t : Option Tag) (left : ℕ) (c : Code) → OneCode c → NamedGot (by_tag sub p t left c)
named_tag sub h p None left c o = no_node
named_tag sub h p (Some Atom) left c o = named_atom left c o
named_tag sub h p (Some (Mark m)) left c o = o
named_tag sub h p (Some (OverOne q)) left c o =
    named_then (sub left c) (λ f n d. got (one q f) n d) (h left c o) (λ f n d z. z)
named_tag sub h p (Some (OverTwo q)) left c o =
    named_then (sub left c) (λ f n d. and_then (sub n d) (λ g m e. got (two q f g) m e)) (h left c o)
    (λ f n d z. named_then (sub n d) (λ g m e. got (two q f g) m e) (h n d z) (λ g m e y. y))

named_tree : (kind : Kind) (depth left : ℕ) (c : Code) → OneCode c → NamedGot (tree_of kind depth left c)
unfolding tree_of
named_tree kind zero left (item p v c) o = named_past (tag_in kind v)
named_tree kind zero left (end p) o = no_number
named_tree kind zero left (broken cause p) o = named_fault cause o
named_tree kind (suc depth) left (item p v c) o =
    by_test NamedGot (eqb left 0) _ _ (named_past (tag_in kind v))
    (named_tag (λ n d. tree_of kind depth n d) (λ n d z. named_tree kind depth n d z) p (tag_in kind v) (left - 1) c o)
named_tree kind (suc depth) left (end p) o = no_number
named_tree kind (suc depth) left (broken cause p) o = named_fault cause o

named_whole : (g : Got) → NamedGot g → NamedParsed (whole_of g)
named_whole (got f left (end p)) o = tt
named_whole (got f left (item p v c)) o = no_number
named_whole (got f left (broken cause p)) o = no_number
named_whole (refused cause place) o = o

-- Any bytes, read as a requirement of either kind.
pub parsed_named : (kind : Kind) (s : List ℕ) → NamedParsed (parsed kind (code_at s 0))
unfolding parsed
parsed_named kind s =
    named_whole (tree_of kind (depth_limit kind) (node_limit kind) (code_at s 0))
    (named_tree kind (depth_limit kind) (node_limit kind) (code_at s 0) (code_one s 0))

pub requirement_most : {n : ℕ} → NotRequirement n → (1 ≤ n) × (n ≤ 4)
requirement_most no_number = (omega arith, omega arith)
requirement_most no_node = (omega arith, omega arith)
requirement_most past_limit = (omega arith, omega arith)
