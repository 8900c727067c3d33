-- What is read is the code of exactly one tree: a row that is read as a requirement is that requirement's numbers, and the numbers of a requirement within the limits are read as it.
-- Assumes nothing.
use Prim.Native.Nat.{ℕ, suc, ◌+◌, ◌-◌, ◌≤◌}
use native.Mathlib.Omega.{arith}
use mathlib.Core.Path.{◌≡◌, refl, sym, ◌∙◌, ap}
use mathlib.Core.List.{List, [], ◌∷◌, ◌++◌, append-nil, append_assoc}
use borrow.Author.Tests.{le-ltb}
use Rattle.std.specs.Prelude.{Some}
use Rattle.coding.specs.Code.{Code, item, end, broken, values, numbered, code_at, bytes_of_all}
use Rattle.coding.proofs.Trips.{Clean, read_back}
use Rattle.coding.proofs.Grammars.{numbered_is}
use Rattle.requirement.specs.Requirement.{Requirement, atom, mark, one, two, nodes_of, depth_of}
use Rattle.requirement.specs.Tags.{tag_of, code_of, mark_no, one_no, two_no}
use Rattle.requirement.specs.Limits.{node_limit, depth_limit, tag_in, Allowed, Fits}
use Rattle.requirement.specs.Reading.{Got, got, refused, tree_of, by_tag, atom_of, whole_of, Parsed, whole, unread, parsed}
use Rattle.requirement.specs.declared.Kind.{Kind}
use Rattle.requirement.specs.declared.Kind.TheVariants.{Untranslated, Translated}
use Rattle.requirement.specs.declared.Phase.{Phase}
use Rattle.requirement.specs.declared.One.{One}
use Rattle.requirement.specs.declared.Two.{Two}
use Rattle.requirement.specs.declared.Tag.TheVariants.{Atom, Mark, OverOne, OverTwo}
use Rattle.requirement.proofs.Small.{small}
use Rattle.requirement.proofs.Trees.{opened, Tells, told}

-- ---- from the row to the tree
abbrev Says : Kind → Code → Parsed → Type 0
Says kind c (whole f) = (values c ≡ code_of f) × Clean c × Fits kind f
Says kind c (unread cause place) = Unit {0}

says : (kind : Kind) (c : Code) → Says kind c (parsed kind c)
unfolding parsed
says kind c = go (tree_of kind (depth_limit kind) (node_limit kind) c) (told kind (depth_limit kind) (node_limit kind) c)
  where
    go : (g : Got) → Tells kind (depth_limit kind) (node_limit kind) c g → Says kind c (whole_of g)
    go (refused cause place) t = tt
    go (got f after (item p v e)) t = tt
    go (got f after (broken cause p)) t = tt
    go (got f after (end p)) t = (
      t.code ∙ append-nil (code_of f),
      t.clean tt,
      record { allowed = t.allowed; nodes = omega (arith, t.nodes); depth = t.depth_kept },
    )

-- A row that is read as a requirement is all numbers, they are its code, and it keeps the limits.
pub read_is_code : (kind : Kind) (c : Code) (f : Requirement) → parsed kind c ≡ whole f → (values c ≡ code_of f) × Clean c × Fits kind f
read_is_code kind c f e = rw e at (says kind c)

-- ---- from the tree to the row
record First (c : Code) (v : ℕ) (vs : List ℕ) : Type 0 where
  place : ℕ
  rest : Code
  row : c ≡ item place v rest
  follow : values rest ≡ vs
  clean : Clean rest

first_number : (c : Code) (v : ℕ) (vs : List ℕ) → values c ≡ v ∷ vs → Clean c → First c v vs
first_number (item p w c) v vs e k =
    let f : w ≡ v = cc in
    record { place = p; rest = c; row = rw f; follow = cc; clean = k }
first_number (end p) v vs e k = let z : ◌≡◌ {A = ℕ} 0 1 = cc in absurd (omega arith)
first_number (broken cause p) v vs e k = absurd k

atom_tag : (kind : Kind) → tag_in kind 0 ≡ Some Atom
unfolding tag_in tag_of
atom_tag Untranslated = refl
atom_tag Translated = refl

-- f is read from the row c, where `left` nodes may still come, and then `after`; the numbers vs follow
record Read (kind : Kind) (depth left : ℕ) (c : Code) (f : Requirement) (after : ℕ) (vs : List ℕ) : Type 0 where
  rest : Code
  read : tree_of kind depth left c ≡ got f after rest
  follow : values rest ≡ vs
  clean : Clean rest

-- a node's tag is read, and its operands are
module _ (kind : Kind) (depth after : ℕ) (h : 1 ≤ depth) {c : Code} {v : ℕ} {us : List ℕ} (i : First c v us) where
  by_first : (left more : ℕ) → more ≡ suc left → tree_of kind depth more c ≡ by_tag (λ n d. tree_of kind (depth - 1) n d) i.place (tag_in kind v) left i.rest
  by_first left more e =
      let n : more - 1 ≡ left = omega arith in
      ap (tree_of kind depth more) i.row ∙ opened kind depth more i.place v i.rest (λ z. omega arith) (λ z. omega arith) ∙ rw n

  read_atom : (k : ℕ) {vs : List ℕ} → k ≤ 31 → tag_in kind v ≡ Some Atom → First i.rest k vs → Read kind depth (after + nodes_of (atom k)) c (atom k) after vs
  unfolding nodes_of atom_of
  read_atom k l t j = record {
    rest = j.rest;
    read = by_first after (after + 1) (omega arith) ∙ rw t (ap (atom_of after) j.row ∙ rw (le-ltb 31 k l));
    follow = j.follow;
    clean = j.clean;
  }

  read_mark : (p : Phase) → tag_in kind v ≡ Some (Mark p) → Read kind depth (after + nodes_of (mark p)) c (mark p) after us
  unfolding nodes_of
  read_mark p t = record { rest = i.rest; read = by_first after (after + 1) (omega arith) ∙ rw t; follow = i.follow; clean = i.clean }

  read_one : (o : One) (f : Requirement) {vs : List ℕ} → tag_in kind v ≡ Some (OverOne o) → Read kind (depth - 1) (after + nodes_of f) i.rest f after vs →
      Read kind depth (after + nodes_of (one o f)) c (one o f) after vs
  unfolding nodes_of
  read_one o f t r = record {
    rest = r.rest;
    read = by_first (after + nodes_of f) (after + suc (nodes_of f)) (omega arith) ∙ rw (t, r.read);
    follow = r.follow;
    clean = r.clean;
  }

  read_two : (o : Two) (f g : Requirement) {ws vs : List ℕ} → tag_in kind v ≡ Some (OverTwo o) → (r : Read kind (depth - 1) (after + nodes_of g + nodes_of f) i.rest f (after + nodes_of g) ws) →
      Read kind (depth - 1) (after + nodes_of g) r.rest g after vs → Read kind depth (after + nodes_of (two o f g)) c (two o f g) after vs
  unfolding nodes_of
  read_two o f g t r s = record {
    rest = s.rest;
    read = by_first (after + nodes_of g + nodes_of f) (after + suc (nodes_of f + nodes_of g)) (omega arith) ∙ rw (t, r.read, s.read);
    follow = s.follow;
    clean = s.clean;
  }

reads : (kind : Kind) (f : Requirement) (depth after : ℕ) (c : Code) (vs : List ℕ) → Allowed kind f → depth_of f ≤ depth → values c ≡ code_of f ++ vs → Clean c →
    Read kind depth (after + nodes_of f) c f after vs
unfolding code_of depth_of Allowed
reads kind (atom k) depth after c vs a d e q =
    let i = first_number c 0 (k ∷ vs) e q in
    read_atom kind depth after d i k a (atom_tag kind) (first_number i.rest k vs i.follow i.clean)
reads kind (mark p) depth after c vs a d e q = read_mark kind depth after d (first_number c (mark_no p) vs e q) p a
reads kind (one o f) depth after c vs a d e q =
    let i = first_number c (one_no o) (code_of f ++ vs) e q in
    read_one kind depth after (omega arith) i o f a.0 (reads kind f (depth - 1) after i.rest vs a.1 (omega arith) i.follow i.clean)
reads kind (two o f g) depth after c vs a d e q =
    let i = first_number c (two_no o) (code_of f ++ (code_of g ++ vs)) (e ∙ ap (◌∷◌ (two_no o)) (append_assoc (code_of f) (code_of g) vs)) q in
    let r = reads kind f (depth - 1) (after + nodes_of g) i.rest (code_of g ++ vs) a.1 (omega arith) i.follow i.clean in
    read_two kind depth after (omega arith) i o f g a.0 r (reads kind g (depth - 1) after r.rest vs a.2 (omega arith) r.follow r.clean)

nothing_left : (f : Requirement) (after : ℕ) (c : Code) → values c ≡ [] → Clean c → whole_of (got f after c) ≡ whole f
nothing_left f after (item p v c) e q = let z : ◌≡◌ {A = ℕ} 0 1 = cc in absurd (omega arith)
nothing_left f after (end p) e q = refl
nothing_left f after (broken cause p) e q = absurd q

-- A row of the numbers of a requirement within the limits is read as this requirement.
pub code_is_read : (kind : Kind) (f : Requirement) (c : Code) → Fits kind f → values c ≡ code_of f → Clean c → parsed kind c ≡ whole f
unfolding parsed
code_is_read kind f c fits e q =
    let n : node_limit kind - nodes_of f + nodes_of f ≡ node_limit kind = omega (arith, fits.nodes) in
    let r = reads kind f (depth_limit kind) (node_limit kind - nodes_of f) c [] fits.allowed fits.depth (e ∙ sym (append-nil (code_of f))) q in
    rw (rw n at r.read) (nothing_left f (node_limit kind - nodes_of f) r.rest r.follow r.clean)

pub numbers_are_read : (kind : Kind) (f : Requirement) → Fits kind f → parsed kind (numbered 0 (code_of f)) ≡ whole f
numbers_are_read kind f fits = code_is_read kind f (numbered 0 (code_of f)) fits (numbered_is 0 (code_of f)).0 (numbered_is 0 (code_of f)).1

-- The bytes of a requirement within the limits are read as this requirement.
pub bytes_are_read : (kind : Kind) (f : Requirement) → Fits kind f → parsed kind (code_at (bytes_of_all (code_of f)) 0) ≡ whole f
bytes_are_read kind f fits =
    let r = read_back (code_of f) (small kind f fits.allowed) in
    code_is_read kind f (code_at (bytes_of_all (code_of f)) 0) fits r.0 r.1

-- Two requirements within the limits that have the same code are the same.
pub one_tree : (kind : Kind) (f g : Requirement) → Fits kind f → Fits kind g → code_of f ≡ code_of g → f ≡ g
one_tree kind f g i j e =
    let p : parsed kind (numbered 0 (code_of f)) ≡ whole g = code_is_read kind g (numbered 0 (code_of f)) j ((numbered_is 0 (code_of f)).0 ∙ e) (numbered_is 0 (code_of f)).1 in
    let q = numbers_are_read kind f i in
    cc
