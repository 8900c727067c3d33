-- Walking finds what was read: where a requirement is read from a place on, a walk from that place, deep enough, finds it and the place after its code.
-- Assumes nothing.
use Prim.Native.Nat.{ℕ, zero, suc, ◌-◌, ◌≤◌}
use native.Mathlib.Omega.{arith}
use mathlib.Core.Path.{◌≡◌, refl, sym, ◌∙◌}
use mathlib.Core.Logic.{⊎_elim, inl, inr}
use mathlib.Core.Bool.{Bool, true, false}
use mathlib.Core.List.{List}
use lib.ListN.{length}
use lib.Dec.{ltb, eqb}
use borrow.Author.Tests.{ltb-false}
use Rattle.coding.specs.Refusal.{NumberRead, value_then, refused_at}
use Rattle.std.specs.Prelude.{Ok, Err, Option, Some, None}
use Rattle.coding.specs.Number.{pick, number_at}
use Rattle.coding.specs.Code.{Code, item, end, broken, code_at}
use Rattle.coding.specs.declared.Cause.TheVariants.{NoSuchNode}
use Rattle.coding.specs.Working.Rows.{Row, row}
use Rattle.requirement.specs.Requirement.{Requirement, atom, one, two, depth_of}
use Rattle.requirement.specs.Limits.{node_limit, depth_limit, tag_in}
use Rattle.requirement.specs.Reading.{Got, got, refused, and_then, atom_of, past_of, by_tag, tree_of, whole_of, whole, parsed, atom_at, node_by, node_of, node_at, NodeAt, node_then}
use Rattle.requirement.specs.Walking.{walked, lost, from_read, walk_at}
use Rattle.requirement.specs.declared.Kind.{Kind}
use Rattle.requirement.specs.declared.One.{One}
use Rattle.requirement.specs.declared.Two.{Two}
use Rattle.requirement.specs.declared.Tag.{Tag}
use Rattle.requirement.specs.declared.Tag.TheVariants.{Atom, Mark, OverOne, OverTwo}
use Rattle.requirement.specs.declared.Node.{Node}
use Rattle.requirement.specs.declared.Node.TheVariants.{Atom as AtomNode, Mark as MarkNode, OverOne as OneNode, OverTwo as TwoNode}
use Rattle.requirement.proofs.Trees.{stops}
use Rattle.requirement.proofs.Nodes.{by_tag_lem, small_number}

-- The row e begins at a place of s, and a walk at least as deep as f finds f and this place.
pub record Walks (kind : Kind) (s : List ℕ) (at : ℕ) (f : Requirement) (e : Code) : Type 0 where
  pub next : ℕ
  pub follow : e ≡ code_at s next
  pub inside : next ≤ length s
  pub walk : (k : ℕ) → depth_of f ≤ k → walk_at kind k s at ≡ walked f next

abbrev Finds : Kind → List ℕ → ℕ → Got → Type 0
Finds kind s at (got f left e) = Walks kind s at f e
Finds kind s at (refused cause place) = Unit {0}

-- ---- one node
abbrev NodeTo31 : Node → Type 0
NodeTo31 (AtomNode k) = k ≤ 31
NodeTo31 (MarkNode p) = Unit {0}
NodeTo31 (OneNode o) = Unit {0}
NodeTo31 (TwoNode o) = Unit {0}

abbrev AtMost31 : NodeAt → Type 0
AtMost31 (Ok found) = NodeTo31 found.node
AtMost31 (Err why) = Unit {0}

at_most_31 : (kind : Kind) (s : List ℕ) (at : ℕ) → AtMost31 (node_at kind s at)
unfolding node_at
at_most_31 kind s at = tag (number_at s at)
  where
    small : (at k after : ℕ) (b : Bool) → ltb 31 k ≡ b → AtMost31 (pick b (refused_at NoSuchNode at) (node_then (AtomNode k) after))
    small at k after true e = tt
    small at k after false e = ltb-false 31 k e

    number : (at : ℕ) (n : NumberRead) → AtMost31 (atom_at at n)
    number at (Ok num) = small at num.value num.next (ltb 31 num.value) refl
    number at (Err why) = tt

    by : (next : ℕ) (t : Option Tag) → AtMost31 (node_by s at next t)
    by next None = tt
    by next (Some Atom) = number next (number_at s next)
    by next (Some (Mark p)) = tt
    by next (Some (OverOne o)) = tt
    by next (Some (OverTwo o)) = tt

    tag : (n : NumberRead) → AtMost31 (node_of kind s at n)
    tag (Ok num) = by num.next (tag_in kind num.value)
    tag (Err why) = tt

-- an atom's number is 0 to 31
pub atom_to_31 : (kind : Kind) (s : List ℕ) (at k next : ℕ) → node_at kind s at ≡ node_then (AtomNode k) next → k ≤ 31
atom_to_31 kind s at k next e = rw e at (at_most_31 kind s at)

-- ---- one level of a walk
module _ (kind : Kind) (s : List ℕ) (at : ℕ) where
  pub walk_none : (k : ℕ) → k ≡ 0 → walk_at kind k s at ≡ lost
  unfolding walk_at
  walk_none zero h = refl
  walk_none (suc k) h = absurd (omega arith)

  -- a node, and its operands one level less deep
  pub walk_down : (k : ℕ) → (k ≡ 0 → ⊥) → (r : NodeAt) → node_at kind s at ≡ r → walk_at kind k s at ≡ from_read (λ x. walk_at kind (k - 1) s x) r
  unfolding walk_at
  walk_down zero h r e = absurd (h refl)
  walk_down (suc k) h r e = let p : suc k - 1 ≡ k = omega arith in rw (e, p)

  module _ (next : ℕ) where
    find_one : (o : One) → node_at kind s at ≡ node_then (OneNode o) next → (g : Got) → Finds kind s next g → Finds kind s at (and_then g (λ f n d. got (one o f) n d))
    unfolding depth_of
    find_one o e (refused cause place) w = tt
    find_one o e (got f n d) w = record {
      next = w.next;
      follow = w.follow;
      inside = w.inside;
      walk = λ k h. walk_down k (λ z. omega arith) _ e ∙ rw (w.walk (k - 1) (omega arith));
    }

    find_two : (o : Two) → node_at kind s at ≡ node_then (TwoNode o) next → (sub : ℕ → Code → Got) → ((n x : ℕ) → Finds kind s x (sub n (code_at s x))) →
        (g : Got) → Finds kind s next g → Finds kind s at (and_then g (λ f n d. and_then (sub n d) (λ h m c. got (two o f h) m c)))
    unfolding depth_of
    find_two o e sub ih (refused cause place) w = tt
    find_two o e sub ih (got f n d) w = rw w.follow (go (sub n (code_at s w.next)) (ih n w.next))
      where
        go : (g : Got) → Finds kind s w.next g → Finds kind s at (and_then g (λ h m c. got (two o f h) m c))
        go (refused cause place) v = tt
        go (got h m c) v = record {
          next = v.next;
          follow = v.follow;
          inside = v.inside;
          walk = λ k l. walk_down k (λ z. omega arith) _ e ∙ rw (w.walk (k - 1) (omega arith), v.walk (k - 1) (omega arith));
        }

  module _ (v next : ℕ) (e : value_then v next ≡ number_at s at) (inside : next ≤ length s) where
    find_atom : (left : ℕ) → tag_in kind v ≡ Some Atom → Finds kind s at (atom_of left (code_at s next))
    unfolding atom_of depth_of
    find_atom left t = number (number_at s next) refl (row s next)
      where
        small : (k after : ℕ) (b : Bool) → ltb 31 k ≡ b → value_then k after ≡ number_at s next → after ≤ length s →
            Finds kind s at (pick b (refused NoSuchNode next) (got (atom k) left (code_at s after)))
        small k after true b n l = tt
        small k after false b n l = record { next = after; follow = refl; inside = l; walk = λ d h. walk_down d (λ z. omega arith) _ (sym (small_number _ _ _ _ _ e _ refl t _ _ n (ltb-false 31 k b))) }

        number : (r : NumberRead) → r ≡ number_at s next → Row s next r → Finds kind s at (atom_of left (code_at s next))
        number (Ok num) n r = rw r.0 (small num.value num.next (ltb 31 num.value) refl n r.2)
        number (Err why) n r = ⊎_elim (λ o. rw o.2 tt) (λ o. rw o.1 tt) r.1

    find_tag : (sub : ℕ → Code → Got) → ((n x : ℕ) → Finds kind s x (sub n (code_at s x))) → (left : ℕ) (t : Option Tag) → tag_in kind v ≡ t →
        Finds kind s at (by_tag sub at t left (code_at s next))
    unfolding depth_of
    find_tag sub ih left None t = tt
    find_tag sub ih left (Some Atom) t = find_atom left t
    find_tag sub ih left (Some (Mark p)) t = record { next = next; follow = refl; inside = inside; walk = λ k h. walk_down k (λ z. omega arith) _ (sym (by_tag_lem _ _ _ _ _ e _ refl _ t)) }
    find_tag sub ih left (Some (OverOne o)) t = find_one next o (sym (by_tag_lem _ _ _ _ _ e _ refl _ t)) (sub left (code_at s next)) (ih left next)
    find_tag sub ih left (Some (OverTwo o)) t = find_two next o (sym (by_tag_lem _ _ _ _ _ e _ refl _ t)) sub ih (sub left (code_at s next)) (ih left next)

-- ---- all nodes
no_depth : (kind : Kind) (s : List ℕ) (at left : ℕ) (c : Code) → Finds kind s at (tree_of kind zero left c)
unfolding tree_of
no_depth kind s at left (item p v c) = tt
no_depth kind s at left (end p) = tt
no_depth kind s at left (broken cause p) = tt

finds : (kind : Kind) (s : List ℕ) (depth left at : ℕ) → Finds kind s at (tree_of kind depth left (code_at s at))
unfolding tree_of
finds kind s zero left at = no_depth kind s at left (code_at s at)
finds kind s (suc depth) left at = number (λ n x. finds kind s depth n x) (number_at s at) refl (row s at)
  where
    more : ((n x : ℕ) → Finds kind s x (tree_of kind depth n (code_at s x))) → (v next : ℕ) → value_then v next ≡ number_at s at → next ≤ length s → (b : Bool) →
        Finds kind s at (pick b (refused (past_of (tag_in kind v)) at) (by_tag (λ n d. tree_of kind depth n d) at (tag_in kind v) (left - 1) (code_at s next)))
    more ih v next e l true = tt
    more ih v next e l false = find_tag kind s at v next e l (λ n d. tree_of kind depth n d) ih (left - 1) (tag_in kind v) refl

    number : ((n x : ℕ) → Finds kind s x (tree_of kind depth n (code_at s x))) → (r : NumberRead) → r ≡ number_at s at → Row s at r →
        Finds kind s at (tree_of kind (suc depth) left (code_at s at))
    number ih (Ok num) e r = rw r.0 (more ih num.value num.next e r.2 (eqb left 0))
    number ih (Err why) e r =
        rw (stops kind (suc depth) left why.cause at (code_at s at) (⊎_elim (λ o. inl (o.1, o.2)) (λ o. inr o.1) r.1)) tt

pub walk_of_read : (kind : Kind) (s : List ℕ) (depth left at : ℕ) (f : Requirement) (after : ℕ) (e : Code) → tree_of kind depth left (code_at s at) ≡ got f after e →
    Walks kind s at f e
walk_of_read kind s depth left at f after e q = rw q at (finds kind s depth left at)

-- nothing is left only where the bytes end
at_end : (s : List ℕ) (at p : ℕ) → end p ≡ code_at s at → at ≤ length s → at ≡ length s
at_end s at p e h = go (number_at s at) (row s at)
  where
    go : (r : NumberRead) → Row s at r → at ≡ length s
    go (Ok num) r = let q = r.0 in let z : ◌≡◌ {A = ℕ} 0 1 = cc in absurd (omega arith)
    go (Err why) r = ⊎_elim (λ o. omega arith) (λ o. let b = o.1 in let z : ◌≡◌ {A = ℕ} 0 1 = cc in absurd (omega arith)) r.1

-- A code that was read whole is walked to its end.
pub walk_of_parsed : (kind : Kind) (s : List ℕ) (f : Requirement) (k : ℕ) → parsed kind (code_at s 0) ≡ whole f → depth_of f ≤ k → walk_at kind k s 0 ≡ walked f (length s)
unfolding parsed
walk_of_parsed kind s f k e h = go (tree_of kind (depth_limit kind) (node_limit kind) (code_at s 0)) (finds kind s (depth_limit kind) (node_limit kind) 0) e
  where
    go : (g : Got) → Finds kind s 0 g → whole_of g ≡ whole f → walk_at kind k s 0 ≡ walked f (length s)
    go (refused cause place) w q = let z : ◌≡◌ {A = ℕ} 0 1 = cc in absurd (omega arith)
    go (got g left (item p v c)) w q = let z : ◌≡◌ {A = ℕ} 0 1 = cc in absurd (omega arith)
    go (got g left (broken cause p)) w q = let z : ◌≡◌ {A = ℕ} 0 1 = cc in absurd (omega arith)
    go (got g left (end p)) w q =
        let i : g ≡ f = cc in
        w.walk k (rw i h) ∙ rw (i, at_end s w.next p w.follow w.inside)
