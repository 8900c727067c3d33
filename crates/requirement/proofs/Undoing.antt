-- "Reading and writing undo each other" (document 01, Coding), of requirements.
-- Assumes nothing.
use Prim.Native.Nat.{ℕ}
use mathlib.Core.Path.{◌≡◌, refl, sym, ◌∙◌, ap}
use lib.ListN.{length}
use Rattle.coding.specs.Refusal.{Answer}
use Rattle.std.specs.Prelude.{Ok, Err}
use Rattle.coding.specs.Code.{Code, values}
use Rattle.coding.proofs.Grammars.{Fair, Undone, undone}
use Rattle.requirement.specs.Requirement.{Requirement}
use Rattle.requirement.specs.Reading.{Parsed, whole, unread, parsed, checked, checked_of, counted, grammar}
use Rattle.requirement.specs.declared.Kind.{Kind}
use Rattle.requirement.proofs.Codes.{read_is_code, code_is_read}

-- what the grammar accepts is a requirement
abbrev Accepts : Kind → Code → Answer → Type 0
Accepts kind c (Ok n) = (f : Requirement) × (parsed kind c ≡ whole f) × (n ≡ length (values c))
Accepts kind c (Err why) = Unit {0}

accepts : (kind : Kind) (c : Code) → Accepts kind c (grammar kind c)
unfolding grammar checked
accepts kind c = go (parsed kind c) refl
  where
    go : (p : Parsed) → parsed kind c ≡ p → Accepts kind c (counted (length (values c)) (checked_of p))
    go (whole f) e = (f, e, refl)
    go (unread cause place) e = tt

pub accepted : (kind : Kind) (c : Code) (n : ℕ) → grammar kind c ≡ Ok n → (f : Requirement) × (parsed kind c ≡ whole f) × (n ≡ length (values c))
accepted kind c n e = rw e at (accepts kind c)

counts : (kind : Kind) (c : Code) (f : Requirement) → parsed kind c ≡ whole f → grammar kind c ≡ Ok (length (values c))
unfolding grammar checked
counts kind c f e = rw e

pub fair : (kind : Kind) → Fair (grammar kind)
fair kind = record {
  counts = λ c n e. (accepted kind c n e).2;
  clean = λ c n e. let a = accepted kind c n e in (read_is_code kind c a.0 a.1).1;
  alike = λ c d n s q e.
      let a = accepted kind c n e in
      let r = read_is_code kind c a.0 a.1 in
      counts kind d a.0 (code_is_read kind a.0 d r.2 (sym s ∙ r.0) q) ∙ ap Ok (ap length (sym s) ∙ sym a.2);
}

pub requirements_undone : (kind : Kind) → Undone (grammar kind)
requirements_undone kind = undone (fair kind)
