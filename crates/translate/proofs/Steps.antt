-- What the recursion has written, on each way through it.
-- Assumes nothing.
use Rattle.std.specs.Prelude.{Err}
use Prim.Native.Nat.{ℕ, ◌-◌, ◌%◌}
use native.Mathlib.Omega.{arith}
use mathlib.Core.Path.{◌≡◌, refl, sym, ◌∙◌}
use mathlib.Core.List.{List, [], ◌∷◌}
use Rattle.coding.specs.declared.Refusal.{Refusal}
use Rattle.requirement.specs.Tags.{code_of, mark_no}
use Rattle.requirement.specs.Reading.{node_at, node_then}
use Rattle.requirement.specs.Walking.{Walked, walked, lost, over_one, with_second, over_two, from_node, walk_at}
use Rattle.requirement.specs.declared.Phase.{Phase}
use Rattle.requirement.specs.declared.One.{One}
use Rattle.requirement.specs.declared.Two.{Two}
use Rattle.requirement.specs.declared.Node.{Node}
use Rattle.requirement.specs.declared.Node.TheVariants.{Atom, Mark}
use Rattle.requirement.proofs.Walking.{walk_down, atom_to_31}
use Rattle.meaning.specs.Translation.{translate}
use Rattle.translate.specs.Writing.{untranslated, one_before, one_behind, two_before, two_between, two_behind, Puts, Wrote}
use Rattle.translate.specs.declared.writing.Writing.{Writing}
use Rattle.translate.proofs.Codes.{one_code, two_code}
use Rattle.translate.proofs.Putting.{puts_both}

-- ---- a node at a place
module _ (k : ℕ) (s : List ℕ) (at : ℕ) (h : k ≡ 0 → ⊥) where
  pub no_node : (why : Refusal) → Err why ≡ node_at untranslated s at → walk_at untranslated k s at ≡ lost
  no_node why e = walk_down untranslated s at k h (Err why) (sym e)

  module _ (node : Node) (next : ℕ) (e : node_then node next ≡ node_at untranslated s at) where
    found : (n : Node) → node ≡ n → node_at untranslated s at ≡ node_then n next
    found n g = sym e ∙ rw g

    pub by_node : (n : Node) → node ≡ n → walk_at untranslated k s at ≡ from_node (λ x. walk_at untranslated (k - 1) s x) n next
    by_node n g = walk_down untranslated s at k h (node_then n next) (found n g)

    module _ {before after : Writing} where
      pub wrote_atom : (a : ℕ) → node ≡ Atom a → Puts (0 ∷ a % 256 ∷ []) before after →
          Wrote (walk_at untranslated k s at) before after next
      unfolding translate code_of
      wrote_atom a g p =
          let m : a % 256 ≡ a = omega (arith, atom_to_31 untranslated s at a next (found (Atom a) g)) in
          rw (by_node (Atom a) g) (refl, rw m at p)

      pub wrote_mark : (m : Phase) → node ≡ Mark m → (v : ℕ) → v ≡ mark_no m → Puts (v ∷ []) before after →
          Wrote (walk_at untranslated k s at) before after next
      unfolding translate code_of
      wrote_mark m g v n p = rw (by_node (Mark m) g) (refl, rw n at p)

-- ---- an operator over one operand
pub wrote_one : {a b c d : Writing} (next : ℕ) (o : One) (w : Walked) → Puts (one_before o) a b → Wrote w b c next →
    Puts (one_behind o) c d → Wrote (over_one o w) a d next
unfolding translate
wrote_one next o (walked f place) p q r = (q.0, rw (one_code o (translate f)) (puts_both p (puts_both q.1 r)))
wrote_one next o lost p q r = tt

-- ---- an operator over two operands
module _ {a b c d e f : Writing} (second next : ℕ) (o : Two) where
  pub wrote_two : (sub : ℕ → Walked) (w : Walked) → Puts (two_before o) a b → Wrote w b c second →
      Puts (two_between o) c d → Wrote (sub second) d e next → Puts (two_behind o) e f →
      Wrote (over_two o sub w) a f next
  unfolding translate
  wrote_two sub lost p q r s t = tt
  wrote_two sub (walked g place) p q r s t = rw (← q.0) (go (sub second) s)
    where
      go : (w : Walked) → Wrote w d e next → Wrote (with_second o g w) a f next
      go lost s = tt
      go (walked h after) s =
          (s.0, rw (two_code o (translate g) (translate h)) (puts_both p (puts_both q.1 (puts_both r (puts_both s.1 t)))))
