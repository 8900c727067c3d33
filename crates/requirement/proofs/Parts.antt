-- What the recursion in the code keeps of a tree, on each way through `atom`, `tree` and `whole`, and what a check makes of it.
-- Assumes nothing.
use Prim.Native.Nat.{ℕ, suc, ◌+◌, ◌-◌, ◌≤◌, ◌<◌, max}
use native.Mathlib.Omega.{arith}
use mathlib.Core.Path.{◌≡◌, refl, sym, ◌∙◌, ap}
use mathlib.Core.Logic.{◌⊎◌, inl, inr, ⊎_elim}
use borrow.Author.Tests.{lt-ltb, le-ltb}
use Rattle.std.specs.Prelude.{Option, Some, None, Ok, Err, min}
use Rattle.coding.specs.Code.{Code, item, end, broken, Places, Turn, Turns}
use Rattle.coding.specs.Refusal.{NumberRead, value_then, refused_at}
use Rattle.coding.specs.declared.Cause.{Cause}
use Rattle.coding.specs.declared.Cause.TheVariants.{CutShort, LeftOver, NoSuchNode}
use Rattle.requirement.specs.Requirement.{Requirement, one, two, nodes_of, depth_of}
use Rattle.requirement.specs.Limits.{node_limit, depth_limit, tag_in}
use Rattle.requirement.specs.Reading.{Got, got, refused, and_then, atom_of, past_of, by_tag, tree_of, whole_of, parsed, nodes_and_depth, checked_of, checked}
use Rattle.requirement.specs.Working.Summing.{Sum, sum, stopped, summed, whole_sum}
use Rattle.requirement.specs.declared.Kind.{Kind}
use Rattle.requirement.specs.declared.One.{One}
use Rattle.requirement.specs.declared.Two.{Two}
use Rattle.requirement.specs.declared.Phase.{Phase}
use Rattle.requirement.specs.declared.Tag.{Tag}
use Rattle.requirement.specs.declared.Tag.TheVariants.{Atom, Mark, OverOne, OverTwo}
use Rattle.requirement.specs.declared.tree.Part.{Part}
use Rattle.requirement.proofs.Trees.{stops, unknown, shut, opened, Tells, told}

-- ---- operands
-- the deeper of two operands leaves less of the depth
least_deep : (depth a b : ℕ) → (depth ≡ 0 → ⊥) → min (depth - 1 - a) (depth - 1 - b) ≡ depth - suc (max a b)
least_deep depth a b h = omega arith

abbrev least_sum : ℕ → Sum → Sum
least_sum spare (sum left other c) = sum left (min spare other) c
least_sum spare (stopped cause place) = stopped cause place

module _ (depth : ℕ) (h : depth ≡ 0 → ⊥) where
  over_one_lem : (o : One) (g : Got) → summed (depth - 1) g ≡ summed depth (and_then g (λ f n d. got (one o f) n d))
  unfolding depth_of
  over_one_lem o (refused cause place) = refl
  over_one_lem o (got f left c) = let e : depth - 1 - depth_of f ≡ depth - suc (depth_of f) = omega arith in rw e

  over_two_lem : (o : Two) (f : Requirement) (g : Got) → least_sum (depth - 1 - depth_of f) (summed (depth - 1) g) ≡ summed depth (and_then g (λ k m e. got (two o f k) m e))
  unfolding depth_of
  over_two_lem o f (refused cause place) = refl
  over_two_lem o f (got k left c) = rw (least_deep depth (depth_of f) (depth_of k) h)

-- ---- a number of the source
next_there : (source : Places) (turns : Turns source) (at v next : ℕ) → value_then v next ≡ source.number at →
    (source.code at ≡ item at v (source.code next)) × (at < next) × (next ≤ source.size)
next_there source turns at v next e = rw (← e) at (turns at)

none_there : (source : Places) (turns : Turns source) (at : ℕ) (cause : Cause) (q : ℕ) → refused_at cause q ≡ source.number at →
    ((cause ≡ CutShort) × (source.code at ≡ end q)) ⊎ (source.code at ≡ broken cause q)
none_there source turns at cause q e =
    let r : Turn source at (refused_at cause q) = rw (← e) at (turns at) in
    rw r.0 (⊎_elim (λ o. inl (o.1, o.2)) (λ o. inr o.1) r.1)

-- ---- an atom's number
module _ (source : Places) (turns : Turns source) (at left spare : ℕ) where
  pub atom_none : (cause : Cause) (q : ℕ) → refused_at cause q ≡ source.number at → stopped cause q ≡ summed (spare + 1) (atom_of left (source.code at))
  unfolding atom_of
  atom_none cause q e = ⊎_elim (λ o. rw (o.1, o.0)) (λ o. rw o) (none_there source turns at cause q e)

  module _ (v next : ℕ) (e : value_then v next ≡ source.number at) where
    pub atom_big : 31 < v → stopped NoSuchNode at ≡ summed (spare + 1) (atom_of left (source.code at))
    unfolding atom_of
    atom_big h = rw ((next_there source turns at v next e).0, lt-ltb _ _ h)

    pub atom_small : v ≤ 31 → sum left spare (source.code next) ≡ summed (spare + 1) (atom_of left (source.code at))
    unfolding atom_of depth_of
    atom_small h = let d : spare + 1 - 1 ≡ spare = omega arith in rw ((next_there source turns at v next e).0, le-ltb _ _ h, d)

-- ---- a node and its operands
module _ (kind : Kind) (depth left : ℕ) (source : Places) (turns : Turns source) (at : ℕ) where
  pub no_tag : (cause : Cause) (q : ℕ) → refused_at cause q ≡ source.number at → stopped cause q ≡ summed depth (tree_of kind depth left (source.code at))
  no_tag cause q e = rw (stops kind depth left cause q (source.code at) (none_there source turns at cause q e))

  module _ (v next : ℕ) (e : value_then v next ≡ source.number at) (t : Option Tag) (f : t ≡ tag_in kind v) where
    pub unknown_tag : t ≡ None → stopped NoSuchNode at ≡ summed depth (tree_of kind depth left (source.code at))
    unknown_tag y = rw ((next_there source turns at v next e).0, unknown kind depth left at v (source.code next) (sym f ∙ y))

    pub past_limit : (cause : Cause) → cause ≡ past_of t → (depth ≡ 0) ⊎ ((depth ≡ 0 → ⊥) × (left ≡ 0)) →
        stopped cause at ≡ summed depth (tree_of kind depth left (source.code at))
    past_limit cause p o = rw (p, f, (next_there source turns at v next e).0, shut kind depth left at v (source.code next) o)

    module _ (h : depth ≡ 0 → ⊥) (g : left ≡ 0 → ⊥) where
      by_tag_lem : (x : Option Tag) → t ≡ x →
          tree_of kind depth left (source.code at) ≡ by_tag (λ n d. tree_of kind (depth - 1) n d) at x (left - 1) (source.code next)
      by_tag_lem x y = rw ((next_there source turns at v next e).0, ← y, f) (opened kind depth left at v (source.code next) h g)

      pub at_mark : (m : Phase) → t ≡ Some (Mark m) → sum (left - 1) (depth - 1) (source.code next) ≡ summed depth (tree_of kind depth left (source.code at))
      unfolding depth_of
      at_mark m y = rw (by_tag_lem (Some (Mark m)) y)

      pub at_atom : t ≡ Some Atom → (x : Sum) → x ≡ summed (depth - 1 + 1) (atom_of (left - 1) (source.code next)) →
          x ≡ summed depth (tree_of kind depth left (source.code at))
      at_atom y x i = let d : depth - 1 + 1 ≡ depth = omega arith in rw (by_tag_lem (Some Atom) y) (i ∙ rw d)

      pub at_one : (o : One) → t ≡ Some (OverOne o) → (x : Sum) → x ≡ summed (depth - 1) (tree_of kind (depth - 1) (left - 1) (source.code next)) →
          x ≡ summed depth (tree_of kind depth left (source.code at))
      at_one o y x i = rw (by_tag_lem (Some (OverOne o)) y) (i ∙ over_one_lem depth h o (tree_of kind (depth - 1) (left - 1) (source.code next)))

      module _ (o : Two) (y : t ≡ Some (OverTwo o)) where
        pub at_two_refused : (cause : Cause) (place : ℕ) → stopped cause place ≡ summed (depth - 1) (tree_of kind (depth - 1) (left - 1) (source.code next)) →
            stopped cause place ≡ summed depth (tree_of kind depth left (source.code at))
        at_two_refused cause place i = rw (by_tag_lem (Some (OverTwo o)) y) (go (tree_of kind (depth - 1) (left - 1) (source.code next)) i)
          where
            go : (r : Got) → stopped cause place ≡ summed (depth - 1) r →
                stopped cause place ≡ summed depth (and_then r (λ k n d. and_then (tree_of kind (depth - 1) n d) (λ l m c. got (two o k l) m c)))
            go (refused cause₁ place₁) j = j
            go (got k n d) j = let z : ◌≡◌ {A = ℕ} 0 1 = cc in absurd (omega arith)

        two_sums : (rest spare second : ℕ) → sum rest spare (source.code second) ≡ summed (depth - 1) (tree_of kind (depth - 1) (left - 1) (source.code next)) →
            least_sum spare (summed (depth - 1) (tree_of kind (depth - 1) rest (source.code second))) ≡
            summed depth (by_tag (λ n d. tree_of kind (depth - 1) n d) at (Some (OverTwo o)) (left - 1) (source.code next))
        two_sums rest spare second i = go (tree_of kind (depth - 1) (left - 1) (source.code next)) i
          where
            go : (r : Got) → sum rest spare (source.code second) ≡ summed (depth - 1) r →
                least_sum spare (summed (depth - 1) (tree_of kind (depth - 1) rest (source.code second))) ≡
                summed depth (and_then r (λ k n d. and_then (tree_of kind (depth - 1) n d) (λ l m c. got (two o k l) m c)))
            go (refused cause place) j = let z : ◌≡◌ {A = ℕ} 0 1 = cc in absurd (omega arith)
            go (got k n d) j =
                let e₀ : rest ≡ n = cc in
                let e₁ : spare ≡ depth - 1 - depth_of k = cc in
                let e₂ : source.code second ≡ d = cc in
                rw (e₀, e₁, e₂) (over_two_lem depth h o k (tree_of kind (depth - 1) n d))

        pub at_two : (rest spare second : ℕ) → sum rest spare (source.code second) ≡ summed (depth - 1) (tree_of kind (depth - 1) (left - 1) (source.code next)) →
            (part : Part) → sum part.left part.spare (source.code part.next) ≡ summed (depth - 1) (tree_of kind (depth - 1) rest (source.code second)) →
            sum part.left (min spare part.spare) (source.code part.next) ≡ summed depth (tree_of kind depth left (source.code at))
        at_two rest spare second i part j =
            rw (by_tag_lem (Some (OverTwo o)) y) (ap (least_sum spare) j ∙ two_sums rest spare second i)

        pub at_second_refused : (rest spare second : ℕ) → sum rest spare (source.code second) ≡ summed (depth - 1) (tree_of kind (depth - 1) (left - 1) (source.code next)) →
            (cause : Cause) (place : ℕ) → stopped cause place ≡ summed (depth - 1) (tree_of kind (depth - 1) rest (source.code second)) →
            stopped cause place ≡ summed depth (tree_of kind depth left (source.code at))
        at_second_refused rest spare second i cause place j =
            rw (by_tag_lem (Some (OverTwo o)) y) (ap (least_sum spare) j ∙ two_sums rest spare second i)

-- ---- the whole source
module _ (source : Places) (turns : Turns source) (kind : Kind) (left spare at : ℕ) where
  pub left_over : at < source.size → refused_at LeftOver at ≡ whole_sum kind (sum left spare (source.code at))
  left_over h = go (source.number at) (turns at)
    where
      go : (r : NumberRead) → Turn source at r → refused_at LeftOver at ≡ whole_sum kind (sum left spare (source.code at))
      go (Ok num) r = rw r.0
      go (Err why) r = ⊎_elim (λ o. absurd (omega arith)) (λ o. rw o.1) r.1

  pub all_read_lem : (nodes depth : ℕ) → nodes ≡ node_limit kind - left → depth ≡ depth_limit kind - spare → source.size ≤ at →
      nodes_and_depth nodes depth ≡ whole_sum kind (sum left spare (source.code at))
  all_read_lem nodes depth e f h = go (source.number at) (turns at)
    where
      go : (r : NumberRead) → Turn source at r → nodes_and_depth nodes depth ≡ whole_sum kind (sum left spare (source.code at))
      go (Ok num) r = absurd (omega arith)
      go (Err why) r = ⊎_elim (λ o. rw (o.2, e, f)) (λ o. absurd (omega arith)) r.1

-- what the code keeps is enough for the answer
kept : (kind : Kind) (c : Code) (g : Got) → Tells kind (depth_limit kind) (node_limit kind) c g → whole_sum kind (summed (depth_limit kind) g) ≡ checked_of (whole_of g)
kept kind c (refused cause place) t = refl
kept kind c (got f left (item p v e)) t = refl
kept kind c (got f left (broken cause p)) t = refl
kept kind c (got f left (end p)) t =
    let e : node_limit kind - left ≡ nodes_of f = omega (arith, t.nodes) in
    let d : depth_limit kind - (depth_limit kind - depth_of f) ≡ depth_of f = omega (arith, t.depth_kept) in
    rw (e, d)

pub whole_checked : (kind : Kind) (c : Code) (depth left : ℕ) → depth ≡ depth_limit kind → left ≡ node_limit kind → (x : Sum) → x ≡ summed depth (tree_of kind depth left c) →
    whole_sum kind x ≡ checked kind c
unfolding checked parsed
whole_checked kind c depth left d n x e =
    rw (e, d, n) (kept kind c (tree_of kind (depth_limit kind) (node_limit kind) c) (told kind (depth_limit kind) (node_limit kind) c))
