-- The recursion's rows: what each arm of it, by its node, makes of its operands' rows.
-- Assumes nothing.
use Rattle.std.specs.Prelude.{Err}
use Prim.Native.Nat.{ℕ, zero, suc, ◌+◌, ◌-◌, ◌*◌, ◌<◌, ◌≤◌}
use native.Mathlib.Omega.{arith}
use native.Mathlib.Nat.{suc-mul}
use mathlib.Core.Path.{◌≡◌, refl, sym, ap, ap₂, ◌∙◌}
use mathlib.Core.Bool.{Bool, not, ◌&&◌, decide}
use mathlib.Core.List.{List}
use lib.ListN.{length, drop}
use lib.Dec.{eqb}
use borrow.Rule.Slice.PartMut.{put_mid}
use Rattle.coding.specs.declared.Refusal.{Refusal}
use Rattle.requirement.specs.Reading.{node_at, node_then}
use Rattle.requirement.specs.Walking.{Walked, walked, lost, over_one, over_two, with_second, walk_at}
use Rattle.requirement.specs.declared.Kind.{Kind}
use Rattle.requirement.specs.declared.One.{One}
use Rattle.requirement.specs.declared.Two.{Two}
use Rattle.requirement.specs.declared.Phase.{Phase}
use Rattle.requirement.specs.declared.Phase.TheVariants.{Input, Exe, Output}
use Rattle.requirement.specs.declared.Node.{Node}
use Rattle.requirement.specs.declared.Node.TheVariants.{Atom, Mark, OverOne, OverTwo}
use Rattle.requirement.proofs.Walking.{walk_none, walk_down, atom_to_31}
use Rattle.meaning.specs.Phases.{Phase-discrete}
use Rattle.meaning.specs.Trace.{Trace, after}
use Rattle.meaning.specs.Rows.{judge, rowed, until_row}
use Rattle.meaning.proofs.Below.{Agree}
use Rattle.meaning.proofs.Related.{Related, one_related, two_related}
use Rattle.bits.specs.Bits.{bit_at}
use Rattle.bits.specs.Rows.{row_of}
use Rattle.bits.proofs.Bytes.{part_before, part_is}
use Rattle.bits.proofs.Walks.{until_same}
use Rattle.lasso.specs.Bytes.{phase_number, positions, phase_from, phase_byte, mark_b, atom_b, trace_of}
use Rattle.lasso.proofs.Positions.{after_inside}
use Rattle.lasso.proofs.Looking.{atom_within}
use Rattle.judge.specs.Working.{Same, is_at, one_of, two_of, Rowed}

-- ---- rows that agree at the stored positions give, by every operator, rows that agree there
module _ (t : Trace) (inside : t.loop < t.len) where
  until_agree : {f f' g g' : ℕ → Bool} → Agree t f f' → Agree t g g' → (i : ℕ) → i < t.len → until_row t f g i ≡ until_row t f' g' i
  until_agree {f} {f'} {g} {g'} a b = until_same t.len t.loop f' g' f g inside a.at b.at

  pub agree : Related (rowed t) (rowed t) (Agree t)
  agree =
      record {
        is = λ p. record { at = λ i h. refl };
        neg = λ a. record { at = λ i h. ap not (a.at i h) };
        both = λ a b. record { at = λ i h. ap₂ ◌&&◌ (a.at i h) (b.at i h) };
        X = λ a. record { at = λ i h. a.at (after t i) (after_inside i inside) };
        F = λ a. record { at = until_agree (record { at = λ i h. refl }) a };
        G = λ a. record { at = λ i h. ap not (until_agree (record { at = λ j l. refl }) (record { at = λ j l. ap not (a.at j l) }) i h) };
        U = λ a b. record { at = until_agree a b };
      }

  module _ {f f' : ℕ → Bool} (a : Same t.len f f') where
    pub one_agree : (o : One) → Same t.len (one_of t o f) (one_of t o f')
    one_agree o = (one_related agree o {x = f} {y = f'} (record { at = a })).at

    pub two_agree : {g g' : ℕ → Bool} → Same t.len g g' → (o : Two) → Same t.len (two_of t o f g) (two_of t o f' g')
    two_agree {g} {g'} b o = (two_related agree o {x = f} {z = g} {y = f'} {w = g'} (record { at = a }) (record { at = b })).at

-- ---- a mark's byte is its phase
pub phase_is : (x : ℕ) (p : Phase) → x ≤ 2 → eqb x (phase_number p) ≡ decide (Phase-discrete (phase_from x) p)
unfolding decide
phase_is zero Input h = refl
phase_is zero Exe h = refl
phase_is zero Output h = refl
phase_is (suc zero) Input h = refl
phase_is (suc zero) Exe h = refl
phase_is (suc zero) Output h = refl
phase_is (suc (suc zero)) Input h = refl
phase_is (suc (suc zero)) Exe h = refl
phase_is (suc (suc zero)) Output h = refl
phase_is (suc (suc (suc x))) p h = absurd (omega arith)

pub mark_is : (trace : List ℕ) (p : Phase) (i : ℕ) → phase_byte trace i ≤ 2 → mark_b trace (phase_number p) i ≡ is_at trace p i
unfolding mark_b
mark_is trace p i h = phase_is (phase_byte trace i) p h

-- ---- room for rows of r bytes, one level down
peel : (d r : ℕ) → (d ≡ 0 → ⊥) → d * r ≡ (d - 1) * r + r
peel zero r h = absurd (h refl)
peel (suc d) r h = let m : suc d - 1 ≡ d = omega arith in rw m (suc-mul d r)

pub room_row : (d r : ℕ) {n : ℕ} → (d ≡ 0 → ⊥) → d * r ≤ n → r ≤ n
room_row d r more h = omega (arith, peel d r more, h)

pub room_two : (d r : ℕ) {n : ℕ} → (d ≡ 0 → ⊥) → suc d * r ≤ n → r + r ≤ n
room_two d r more h = omega (arith, suc-mul d r, peel d r more, h)

-- ---- an operator over rows that were judged
module _ (trace : List ℕ) (start : ℕ) (inside : start < positions trace) (work : List ℕ) (r : ℕ) where
  pub rowed_over_one : (o : One) (x : Walked) (v : List ℕ) → Rowed x trace start v r → Same (positions trace) (bit_at work) (one_of (trace_of trace start) o (bit_at v))
      → Rowed (over_one o x) trace start work r
  unfolding judge
  rowed_over_one o (walked f next) v ih h = (ih.0, λ p l. h p l ∙ one_agree (trace_of trace start) inside {f = bit_at v} ih.1 o p l)
  rowed_over_one o lost v ih h = tt

  pub rowed_over_two : (o : Two) (sub : ℕ → Walked) (x : Walked) (m k : ℕ) (v u : List ℕ) → row_of (positions trace) ≤ length v → row_of (positions trace) ≤ length u
      → Rowed x trace start v m → Rowed (sub m) trace start u r
      → Same (positions trace) (bit_at work)
      (two_of (trace_of trace start) o (bit_at (put_mid (row_of (positions trace)) k v u)) (bit_at (drop (row_of (positions trace)) (put_mid (row_of (positions trace)) k v u))))
      → Rowed (over_two o sub x) trace start work r
  unfolding judge
  rowed_over_two o sub lost m k v u hv hu ih ih' h = tt
  rowed_over_two o sub (walked f next) m k v u hv hu ih ih' h = go (sub next) (rw ih.0 at ih')
    where
      go : (y : Walked) → Rowed y trace start u r → Rowed (with_second o f y) trace start work r
      go lost i = tt
      go (walked g last) i = (
        i.0,
        λ p l. h p l
            ∙ two_agree (trace_of trace start) inside {f = bit_at (put_mid (row_of (positions trace)) k v u)}
            (λ q a. part_before (row_of (positions trace)) k v u hv q (omega arith) ∙ ih.1 q a)
            {g = bit_at (drop (row_of (positions trace)) (put_mid (row_of (positions trace)) k v u))}
            (λ q a. part_is (row_of (positions trace)) k v u hv q (omega arith) ∙ i.1 q a) o p l,
      )

-- ---- one node
module _ (kind : Kind) (s : List ℕ) (at : ℕ) where
  pub node_found : {next : ℕ} {x node : Node} → node_then x next ≡ node_at kind s at → x ≡ node → node_at kind s at ≡ node_then node next
  node_found e g = sym e ∙ rw g

  module _ (depth : ℕ) (trace : List ℕ) (start : ℕ) (work : List ℕ) (r : ℕ) where
    pub rowed_none : depth ≡ 0 → Rowed (walk_at kind depth s at) trace start work r
    rowed_none z = rw (walk_none kind s at depth z) tt

    module _ (more : depth ≡ 0 → ⊥) where
      pub rowed_fault : {why : Refusal} → node_at kind s at ≡ Err why → Rowed (walk_at kind depth s at) trace start work r
      rowed_fault e = rw (walk_down kind s at depth more _ e) tt

      pub rowed_atom : (k : ℕ) → node_at kind s at ≡ node_then (Atom k) r → Same (positions trace) (bit_at work) (atom_b trace k) → Rowed (walk_at kind depth s at) trace start work r
      unfolding judge
      rowed_atom k e h =
          let few : k < 32 = omega (arith, atom_to_31 kind s at k r e) in
          rw (walk_down kind s at depth more _ e) (refl, λ p l. h p l ∙ sym (atom_within trace p k few))

      pub rowed_mark : (p : Phase) → node_at kind s at ≡ node_then (Mark p) r → Same (positions trace) (bit_at work) (is_at trace p) → Rowed (walk_at kind depth s at) trace start work r
      unfolding judge
      rowed_mark p e h = rw (walk_down kind s at depth more _ e) (refl, h)

      pub rowed_one : (o : One) {next : ℕ} → node_at kind s at ≡ node_then (OverOne o) next → Rowed (over_one o (walk_at kind (depth - 1) s next)) trace start work r
          → Rowed (walk_at kind depth s at) trace start work r
      rowed_one o e h = rw (walk_down kind s at depth more _ e) h

      pub rowed_two : (o : Two) {next : ℕ} → node_at kind s at ≡ node_then (OverTwo o) next
          → Rowed (over_two o (λ x. walk_at kind (depth - 1) s x) (walk_at kind (depth - 1) s next)) trace start work r → Rowed (walk_at kind depth s at) trace start work r
      rowed_two o e h = rw (walk_down kind s at depth more _ e) h
