-- A requirement at the head of a row, a node at a time, and what the tree that is read has to do with the row: its numbers stand there, the kind allows it, and it keeps both limits.
-- Assumes nothing.
use Prim.Native.Nat.{ℕ, zero, suc, ◌+◌, ◌-◌, ◌≤◌}
use native.Mathlib.Omega.{arith}
use mathlib.Core.Path.{◌≡◌, refl}
use mathlib.Core.Logic.{◌⊎◌, inl, inr, ⊎_elim}
use mathlib.Core.Bool.{Bool, true, false}
use mathlib.Core.List.{◌++◌, append_assoc}
use lib.Dec.{ltb, eqb}
use borrow.Author.Tests.{eq-eqb, ne_eqb, eqb-false, ltb-false}
use Rattle.std.specs.Prelude.{Option, Some, None}
use Rattle.coding.specs.Number.{pick}
use Rattle.coding.specs.Code.{Code, item, end, broken, values}
use Rattle.coding.specs.declared.Cause.{Cause}
use Rattle.coding.specs.declared.Cause.TheVariants.{CutShort, NoSuchNode}
use Rattle.coding.proofs.Trips.{Clean}
use Rattle.requirement.specs.Requirement.{Requirement, atom, one, two, nodes_of, depth_of}
use Rattle.requirement.specs.Tags.{code_of, one_no, two_no}
use Rattle.requirement.specs.Limits.{tag_in, Allowed}
use Rattle.requirement.specs.Reading.{Got, got, refused, and_then, atom_of, past_of, by_tag, tree_of}
use Rattle.requirement.specs.declared.Kind.{Kind}
use Rattle.requirement.specs.declared.One.{One}
use Rattle.requirement.specs.declared.Two.{Two}
use Rattle.requirement.specs.declared.Tag.{Tag}
use Rattle.requirement.specs.declared.Tag.TheVariants.{Atom, Mark, OverOne, OverTwo}
use Rattle.requirement.proofs.Tagging.{Numbers, numbers_in_lem}

module _ (kind : Kind) where
  -- where no number stands
  pub stops : (depth left : ℕ) (cause : Cause) (q : ℕ) (c : Code) → ((cause ≡ CutShort) × (c ≡ end q)) ⊎ (c ≡ broken cause q) → tree_of kind depth left c ≡ refused cause q
  unfolding tree_of
  stops zero left cause q c o = ⊎_elim (λ e. rw (e.1, e.0)) (λ e. rw e) o
  stops (suc depth) left cause q c o = ⊎_elim (λ e. rw (e.1, e.0)) (λ e. rw e) o

  -- where a limit is passed
  pub shut : (depth left p v : ℕ) (c : Code) → (depth ≡ 0) ⊎ ((depth ≡ 0 → ⊥) × (left ≡ 0)) → tree_of kind depth left (item p v c) ≡ refused (past_of (tag_in kind v)) p
  unfolding tree_of
  shut zero left p v c o = refl
  shut (suc depth) left p v c (inl e) = absurd (omega arith)
  shut (suc depth) left p v c (inr e) = rw (eq-eqb _ _ e.1)

  -- where the tag is unknown, a limit passed or not
  pub unknown : (depth left p v : ℕ) (c : Code) → tag_in kind v ≡ None → tree_of kind depth left (item p v c) ≡ refused NoSuchNode p
  unfolding tree_of
  unknown zero left p v c e = rw e
  unknown (suc depth) left p v c e = rw e (either (eqb left 0))
    where
      either : (b : Bool) → pick b (refused NoSuchNode p) (refused NoSuchNode p) ≡ refused NoSuchNode p
      either true = refl
      either false = refl

  -- within the limits: by the tag
  pub opened : (depth left p v : ℕ) (c : Code) → (depth ≡ 0 → ⊥) → (left ≡ 0 → ⊥) →
      tree_of kind depth left (item p v c) ≡ by_tag (λ n d. tree_of kind (depth - 1) n d) p (tag_in kind v) (left - 1) c
  unfolding tree_of
  opened zero left p v c h g = absurd (h refl)
  opened (suc depth) left p v c h g = let e : suc depth - 1 ≡ depth = omega arith in rw (ne_eqb _ _ g, e)

-- The row c begins with the numbers of f, after which e follows. `left` nodes could still come before f, and `after` after it.
pub record Begins (kind : Kind) (depth left : ℕ) (c : Code) (f : Requirement) (after : ℕ) (e : Code) : Type 0 where
  pub code : values c ≡ code_of f ++ values e
  pub clean : Clean e → Clean c
  pub allowed : Allowed kind f
  pub nodes : after + nodes_of f ≡ left
  pub depth_kept : depth_of f ≤ depth

abbrev pub Tells : Kind → ℕ → ℕ → Code → Got → Type 0
Tells kind depth left c (got f after e) = Begins kind depth left c f after e
Tells kind depth left c (refused cause place) = Unit {0}

module _ (kind : Kind) (depth left p v : ℕ) (c : Code) (h : left ≡ 0 → ⊥) where
  tells_atom : (q w : ℕ) (e : Code) (b : Bool) → ltb 31 w ≡ b → v ≡ 0 → c ≡ item q w e →
      Tells kind (suc depth) left (item p v c) (pick b (refused NoSuchNode q) (got (atom w) (left - 1) e))
  unfolding code_of Allowed nodes_of depth_of
  tells_atom q w e true t n i = tt
  tells_atom q w e false t n i = record {
    code = rw (n, i);
    clean = λ k. rw i k;
    allowed = ltb-false 31 w t;
    nodes = omega arith;
    depth_kept = omega arith;
  }

  tells_one : (o : One) (g : Got) → v ≡ one_no o → tag_in kind v ≡ Some (OverOne o) → Tells kind depth (left - 1) c g →
      Tells kind (suc depth) left (item p v c) (and_then g (λ f n d. got (one o f) n d))
  unfolding code_of Allowed nodes_of depth_of
  tells_one o (refused cause place) n t r = tt
  tells_one o (got f m e) n t r = record {
    code = rw (n, r.code);
    clean = r.clean;
    allowed = (rw n at t, r.allowed);
    nodes = omega (arith, r.nodes);
    depth_kept = omega (arith, r.depth_kept);
  }

  tells_two : (o : Two) (sub : ℕ → Code → Got) (g : Got) → v ≡ two_no o → tag_in kind v ≡ Some (OverTwo o) → Tells kind depth (left - 1) c g →
      ((m : ℕ) (e : Code) → Tells kind depth m e (sub m e)) →
      Tells kind (suc depth) left (item p v c) (and_then g (λ f n d. and_then (sub n d) (λ k m e. got (two o f k) m e)))
  unfolding code_of Allowed nodes_of depth_of
  tells_two o sub (refused cause place) n t r s = tt
  tells_two o sub (got f m e) n t r s = go (sub m e) (s m e)
    where
      go : (g : Got) → Tells kind depth m e g → Tells kind (suc depth) left (item p v c) (and_then g (λ k m' e'. got (two o f k) m' e'))
      go (refused cause place) u = tt
      go (got k m' e') u = record {
        code = rw (n, r.code, u.code, append_assoc (code_of f) (code_of k) (values e'));
        clean = λ x. r.clean (u.clean x);
        allowed = (rw n at t, r.allowed, u.allowed);
        nodes = omega (arith, r.nodes, u.nodes);
        depth_kept = omega (arith, r.depth_kept, u.depth_kept);
      }

  tells_tag : (sub : ℕ → Code → Got) (t : Option Tag) → tag_in kind v ≡ t → Numbers v t → ((m : ℕ) (e : Code) → Tells kind depth m e (sub m e)) →
      Tells kind (suc depth) left (item p v c) (by_tag sub p t (left - 1) c)
  unfolding code_of Allowed nodes_of depth_of atom_of
  tells_tag sub None e n s = tt
  tells_tag sub (Some Atom) e n s = go c refl
    where
      go : (d : Code) → c ≡ d → Tells kind (suc depth) left (item p v c) (atom_of (left - 1) d)
      go (end q) i = tt
      go (broken cause q) i = tt
      go (item q w d) i = tells_atom q w d (ltb 31 w) refl n i
  tells_tag sub (Some (Mark m)) e n s = record { code = rw n; clean = λ x. x; allowed = rw n at e; nodes = omega arith; depth_kept = omega arith }
  tells_tag sub (Some (OverOne o)) e n s = tells_one o (sub (left - 1) c) n e (s (left - 1) c)
  tells_tag sub (Some (OverTwo o)) e n s = tells_two o sub (sub (left - 1) c) n e (s (left - 1) c) s

pub told : (kind : Kind) (depth left : ℕ) (c : Code) → Tells kind depth left c (tree_of kind depth left c)
unfolding tree_of
told kind zero left (item p v c) = tt
told kind zero left (end p) = tt
told kind zero left (broken cause p) = tt
told kind (suc depth) left (end p) = tt
told kind (suc depth) left (broken cause p) = tt
told kind (suc depth) left (item p v c) = go (eqb left 0) refl (λ m d. told kind depth m d)
  where
    go : (b : Bool) → eqb left 0 ≡ b → ((m : ℕ) (d : Code) → Tells kind depth m d (tree_of kind depth m d)) →
        Tells kind (suc depth) left (item p v c)
        (pick b (refused (past_of (tag_in kind v)) p) (by_tag (λ n d. tree_of kind depth n d) p (tag_in kind v) (left - 1) c))
    go true e s = tt
    go false e s = tells_tag kind depth left p v c (eqb-false _ _ e) (λ n d. tree_of kind depth n d) (tag_in kind v) refl (numbers_in_lem kind v) s
