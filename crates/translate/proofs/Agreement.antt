-- What a translation is good for: it is always a requirement that a reader of translated ones accepts, and it says the same as the requirement it was made of.
-- Assumes nothing.
use Prim.Native.Nat.{ℕ, ◌+◌, ◌≤◌}
use native.Mathlib.Omega.{arith}
use mathlib.Core.Path.{◌≡◌, refl, ap}
use mathlib.Core.Logic.Iff
use mathlib.Core.Logic.{◌↔◌}
use mathlib.Core.Bool.{Bool, true, false}
use mathlib.Core.List.{List}
use lib.ListN.{length, take}
use lib.Seq.{take-append_seam}
use lib.Dec.{ltb}
use borrow.Author.Tests.{ltb-false}
use Rattle.coding.specs.Refusal.{refused_at}
use Rattle.std.specs.Prelude.{Ok}
use Rattle.coding.specs.Number.{pick}
use Rattle.coding.specs.Code.{code_at, bytes_of_all}
use Rattle.coding.specs.Room.{over}
use Rattle.coding.specs.declared.Cause.TheVariants.{ShortBuffer}
use Rattle.coding.proofs.Bytes.{over_eq}
use Rattle.requirement.specs.Requirement.{Requirement, atom, mark, one, two}
use Rattle.requirement.specs.Tags.{tag_of, code_of}
use Rattle.requirement.specs.Limits.{tag_in, Allowed, Fits}
use Rattle.requirement.specs.Reading.{Parsed, whole, unread, parsed}
use Rattle.requirement.specs.declared.Kind.TheVariants.{Untranslated, Translated}
use Rattle.requirement.proofs.Allowing.{mark_has}
use Rattle.requirement.proofs.Codes.{read_is_code, bytes_are_read}
use Rattle.meaning.specs.Translation.{written, translate}
use Rattle.meaning.specs.Meaning.{Holds}
use Rattle.meaning.specs.Trace.{Trace, endless, WellFormed}
use Rattle.meaning.specs.Findings.{Findings}
use Rattle.meaning.proofs.Related.{Related, one_related, two_related}
use Rattle.meaning.proofs.Bounds.{bounded}
use Rattle.meaning.proofs.Judged.{agrees}
use Rattle.translate.specs.Writing.{room_asked, translation, answered, translated}
use Rattle.translate.proofs.Fitting.{room_for_code}

-- ---- "A translated requirement has tags up to 11 only, at most 704 nodes, depth 76"
-- the forms of the table have such tags only: a relation that asks nothing of the second requirement
allowed_forms : Related written written (λ f g. Allowed Translated f)
unfolding Allowed tag_in tag_of
allowed_forms =
    record {
      is = mark_has Translated;
      neg = λ h. (refl, h);
      both = λ h k. (refl, h, k);
      X = λ h. (refl, h);
      F = λ h. (refl, h);
      G = λ h. (refl, h);
      U = λ h k. (refl, h, k);
    }

allowed_translation : (f : Requirement) → Allowed Untranslated f → Allowed Translated (translate f)
unfolding Allowed translate
allowed_translation (atom k) a = a
allowed_translation (mark p) a = mark_has Translated p
allowed_translation (one u f) a = one_related allowed_forms u {y = f} (allowed_translation f a.1)
allowed_translation (two b f g) a = two_related allowed_forms b {y = f} {w = g} (allowed_translation f a.1) (allowed_translation g a.2)

pub translation_fits : (f : Requirement) → Fits Untranslated f → Fits Translated (translate f)
translation_fits f fits = record {
  allowed = allowed_translation f fits.allowed;
  nodes = omega (arith, bounded f, fits.nodes);
  depth = omega (arith, bounded f, fits.depth);
}

-- ---- A translation is answered only of a requirement that was read; and what then stands in the buffer is read as its translation.
accepted : (s out : List ℕ) (n : ℕ) → translated s out ≡ Ok n → (room_asked ≤ length out) × (answered (parsed Untranslated (code_at s 0)) ≡ Ok n)
unfolding translated
accepted s out n e = go (ltb (length out) room_asked) refl e
  where
    go : (b : Bool) → ltb (length out) room_asked ≡ b → pick b (refused_at ShortBuffer room_asked) (answered (parsed Untranslated (code_at s 0))) ≡ Ok n →
        (room_asked ≤ length out) × (answered (parsed Untranslated (code_at s 0)) ≡ Ok n)
    go true b a = absurd cc
    go false b a = (ltb-false _ _ b, a)

pub translation_is_read : (s out : List ℕ) (n : ℕ) → translated s out ≡ Ok n →
    (f : Requirement) × (parsed Untranslated (code_at s 0) ≡ whole f)
    × (parsed Translated (code_at (take n (over out 0 (translation (parsed Untranslated (code_at s 0))))) 0) ≡ whole (translate f))
translation_is_read s out n e = let a = accepted s out n e in go a.0 (parsed Untranslated (code_at s 0)) refl a.1
  where
    go : room_asked ≤ length out → (p : Parsed) → parsed Untranslated (code_at s 0) ≡ p → answered p ≡ Ok n →
        (f : Requirement) × (parsed Untranslated (code_at s 0) ≡ whole f) × (parsed Translated (code_at (take n (over out 0 (translation p))) 0) ≡ whole (translate f))
    go h (unread cause place) q a = absurd cc
    go h (whole f) q a =
        let fits = translation_fits f (read_is_code Untranslated (code_at s 0) f q).2 in
        let own = room_for_code (translate f) fits in
        let bytes = bytes_of_all (code_of (translate f)) in
        let m : n ≡ length bytes = cc in
        let l : 0 + length bytes ≤ length out = omega (arith, own.1, ap length own.0) in
        let t : take n (over out 0 bytes) ≡ bytes = rw (m, over_eq out 0 bytes l) (take-append_seam bytes _) in
        (f, q, rw t (bytes_are_read Translated (translate f) fits))

-- ---- A requirement and its translation hold at the same moments of every well-formed trace, and have the same findings there.
module _ {t : Trace} (w : WellFormed t) where
  pub same_verdicts : (f : Requirement) (n : ℕ) → Holds (endless t) (translate f) n ↔ Holds (endless t) f n
  same_verdicts f n = agrees w f n

  pub same_findings : (f : Requirement) (found : List ℕ) → Findings t f found ↔ Findings t (translate f) found
  same_findings f found = (
    λ h. record { ascending = h.ascending; exactly = λ i. simp (same_verdicts f i) (h.exactly i) },
    λ h. record { ascending = h.ascending; exactly = λ i. simp (Iff.symm (same_verdicts f i)) (h.exactly i) },
  )

-- So what translating writes says the same as what it was given.
pub codes_agree : (s out : List ℕ) (n : ℕ) → translated s out ≡ Ok n →
    (f g : Requirement) × (parsed Untranslated (code_at s 0) ≡ whole f)
    × (parsed Translated (code_at (take n (over out 0 (translation (parsed Untranslated (code_at s 0))))) 0) ≡ whole g)
    × ((t : Trace) → WellFormed t → (m : ℕ) → Holds (endless t) g m ↔ Holds (endless t) f m)
codes_agree s out n e = let (f, p, q) = translation_is_read s out n e in (f, translate f, p, q, λ t w m. same_verdicts w f m)
