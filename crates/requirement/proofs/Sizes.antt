-- How many numbers, and how many bytes, a requirement has at most: 96, and a translated one 1,056. Some have so many.
-- Assumes nothing.
use Prim.Native.Nat.{ℕ, zero, suc, ◌+◌, ◌*◌, ◌≤◌, ◌<◌}
use native.Mathlib.Omega.{arith}
use mathlib.Core.Path.{◌≡◌, refl, sym, ◌∙◌, ap}
use lib.ListN.{length, get_or, length-append}
use mathlib.Core.List.{List}
use lib.Dec.{lit≤}
use Rattle.std.specs.Prelude.{Ok, Some}
use Rattle.coding.specs.Code.{Code, code_at, bytes_of_all}
use Rattle.coding.proofs.Trips.{write_back}
use Rattle.requirement.specs.Requirement.{Requirement, atom, mark, one, two, nodes_of, depth_of}
use Rattle.requirement.specs.Tags.{tag_of, code_of, one_no, two_no}
use Rattle.requirement.specs.Limits.{tag_in, Allowed, Fits}
use Rattle.requirement.specs.Reading.{whole, parsed, grammar}
use Rattle.requirement.specs.declared.Kind.{Kind}
use Rattle.requirement.specs.declared.Kind.TheVariants.{Untranslated, Translated}
use Rattle.requirement.specs.declared.One.TheVariants.{Not}
use Rattle.requirement.specs.declared.Two.TheVariants.{And}
use Rattle.requirement.specs.declared.Tag.TheVariants.{OverOne, OverTwo}
use Rattle.requirement.proofs.Small.{own_bytes}
use Rattle.requirement.proofs.Codes.{read_is_code}
use Rattle.requirement.proofs.Undoing.{accepted}

-- A node has one number, and an atom one more. Atoms are at most one more than the operators over two, so that at most
-- half of the nodes, rounded up, are atoms.
code_length : (f : Requirement) → 2 * length (code_of f) ≤ 3 * nodes_of f + 1
unfolding code_of nodes_of
code_length (atom k) = omega arith
code_length (mark p) = omega arith
code_length (one o f) = omega (arith, code_length f)
code_length (two o f g) = omega (arith, length-append (code_of f) (code_of g), code_length f, code_length g)

-- ---- the numbers
pub untranslated_numbers : (f : Requirement) → Fits Untranslated f → length (code_of f) ≤ 96
untranslated_numbers f fits = omega (arith, code_length f, fits.nodes)

pub translated_numbers : (f : Requirement) → Fits Translated f → length (code_of f) ≤ 1056
translated_numbers f fits = omega (arith, code_length f, fits.nodes)

-- what a reader accepts is so many numbers
read_numbers : (kind : Kind) (most : ℕ) → ((f : Requirement) → Fits kind f → length (code_of f) ≤ most) →
    (c : Code) (n : ℕ) → grammar kind c ≡ Ok n → n ≤ most
read_numbers kind most few c n e =
    let (f, p, count) = accepted kind c n e in
    let (code, clean, fits) = read_is_code kind c f p in
    omega (arith, few f fits, ap length code)

pub untranslated_size : (c : Code) (n : ℕ) → grammar Untranslated c ≡ Ok n → n ≤ 96
untranslated_size = read_numbers Untranslated 96 untranslated_numbers

pub translated_size : (c : Code) (n : ℕ) → grammar Translated c ≡ Ok n → n ≤ 1056
translated_size = read_numbers Translated 1056 translated_numbers

-- ---- the bytes: each number of an accepted requirement is its own byte
module _ (kind : Kind) (s : List ℕ) (bytes : (i : ℕ) → get_or s i 0 < 256) where
  pub bytes_are_numbers : (f : Requirement) → parsed kind (code_at s 0) ≡ whole f → s ≡ code_of f
  bytes_are_numbers f e =
      let (code, clean, fits) = read_is_code kind (code_at s 0) f e in
      sym (write_back s bytes clean) ∙ ap bytes_of_all code ∙ own_bytes kind f fits.allowed

  pub as_many_bytes : (n : ℕ) → grammar kind (code_at s 0) ≡ Ok n → length s ≡ n
  as_many_bytes n e =
      let (f, p, count) = accepted kind (code_at s 0) n e in
      ap length (bytes_are_numbers f p ∙ sym (read_is_code kind (code_at s 0) f p).0) ∙ sym count

-- ---- so many there are: trees whose operators over two are all `and`, with atoms at their ends, so many levels deep
abbrev full : ℕ → Requirement
full zero = atom 0
full (suc k) = two And (full k) (full k)

and_has : (kind : Kind) → tag_in kind (two_no And) ≡ Some (OverTwo And)
unfolding tag_in tag_of
and_has Untranslated = refl
and_has Translated = refl

not_has : (kind : Kind) → tag_in kind (one_no Not) ≡ Some (OverOne Not)
unfolding tag_in tag_of
not_has Untranslated = refl
not_has Translated = refl

both_allowed : (kind : Kind) (f g : Requirement) → Allowed kind f → Allowed kind g → Allowed kind (two And f g)
unfolding Allowed
both_allowed kind f g a b = (and_has kind, a, b)

not_allowed : (kind : Kind) (f : Requirement) → Allowed kind f → Allowed kind (one Not f)
unfolding Allowed
not_allowed kind f a = (not_has kind, a)

full_allowed : (kind : Kind) (k : ℕ) → Allowed kind (full k)
unfolding Allowed
full_allowed kind zero = lit≤ tt
full_allowed kind (suc k) = both_allowed kind (full k) (full k) (full_allowed kind k) (full_allowed kind k)

-- 32 atoms, 31 ands and a not
pub longest_untranslated : (f : Requirement) × Fits Untranslated f × (length (code_of f) ≡ 96)
unfolding nodes_of depth_of code_of
longest_untranslated = (
  one Not (full 5),
  record { allowed = not_allowed Untranslated (full 5) (full_allowed Untranslated 5); nodes = lit≤ tt; depth = lit≤ tt },
  refl,
)

-- 352 atoms, 351 ands and a not
pub longest_translated : (f : Requirement) × Fits Translated f × (length (code_of f) ≡ 1056)
unfolding nodes_of depth_of code_of
longest_translated =
    let few = both_allowed Translated (full 6) (full 5) (full_allowed Translated 6) (full_allowed Translated 5) in
    let all = both_allowed Translated (full 8) (two And (full 6) (full 5)) (full_allowed Translated 8) few in (
      one Not (two And (full 8) (two And (full 6) (full 5))),
      record { allowed = not_allowed Translated _ all; nodes = lit≤ tt; depth = lit≤ tt },
      refl,
    )
