-- The answer of translating, on each way through it.
-- Assumes nothing.
use Prim.Native.Nat.{ℕ, ◌≤◌, ◌<◌}
use native.Mathlib.Omega.{arith}
use mathlib.Core.Path.{◌≡◌, refl, ap}
use mathlib.Core.List.{List}
use lib.ListN.{length}
use borrow.Author.Tests.{lt-ltb, le-ltb}
use Rattle.coding.specs.declared.Refusal.{Refusal}
use Rattle.requirement.specs.declared.Checked.{Checked}
use Rattle.coding.specs.Refusal.{refused_at}
use Rattle.std.specs.Prelude.{Ok, Err}
use Rattle.coding.specs.Code.{code_at}
use Rattle.coding.specs.Room.{over}
use Rattle.coding.specs.declared.Cause.TheVariants.{ShortBuffer}
use Rattle.requirement.specs.Requirement.{depth_of}
use Rattle.requirement.specs.Tags.{code_of}
use Rattle.requirement.specs.Reading.{Parsed, whole, unread, parsed, checked_of, checked}
use Rattle.requirement.specs.Walking.{walk_at}
use Rattle.requirement.proofs.Codes.{read_is_code}
use Rattle.requirement.proofs.Walking.{walk_of_parsed}
use Rattle.meaning.specs.Translation.{translate}
use Rattle.translate.specs.Writing.{untranslated, room_asked, translation, answered, translated, Put, Wrote}
use Rattle.translate.specs.declared.writing.Writing.{Writing}
use Rattle.translate.proofs.Fitting.{room_for_code}
use Rattle.translate.proofs.Agreement.{translation_fits}

module _ (s d : List ℕ) where
  pub too_short : length d < 1408 → (refused_at ShortBuffer 1408 ≡ translated s d) × (d ≡ d)
  unfolding translated
  too_short h = (rw (lt-ltb _ _ h), refl)

  module _ (h : room_asked ≤ length d) where
    with_room : translated s d ≡ answered (parsed untranslated (code_at s 0))
    unfolding translated
    with_room = rw (le-ltb _ _ h)

    pub not_read : (why : Refusal) → Err why ≡ checked untranslated (code_at s 0) → Err why ≡ translated s d
    unfolding checked
    not_read why e = rw with_room (go (parsed untranslated (code_at s 0)) e)
      where
        go : (r : Parsed) → Err why ≡ checked_of r → Err why ≡ answered r
        go (whole g) i = absurd cc
        go (unread cause₁ p₁) i = cc

    pub was_read : (sizes : Checked) → Ok sizes ≡ checked untranslated (code_at s 0) → (before after : Writing) (next : ℕ) →
        before.out.now ≡ d → before.place ≡ 0 → Wrote (walk_at untranslated sizes.depth s 0) before after next →
        ((Ok after.place ≡ translated s d) × (after.out.now ≡ over d 0 (translation (parsed untranslated (code_at s 0)))))
        × (after.out.ghost_name ≡ before.out.ghost_name)
    unfolding checked
    was_read sizes e before after next same first w = rw with_room (go (parsed untranslated (code_at s 0)) refl e)
      where
        go : (r : Parsed) → parsed untranslated (code_at s 0) ≡ r → Ok sizes ≡ checked_of r →
            ((Ok after.place ≡ answered r) × (after.out.now ≡ over d 0 (translation r)))
            × (after.out.ghost_name ≡ before.out.ghost_name)
        go (unread cause p) q i = absurd cc
        go (whole g) q i =
            let deep : sizes.depth ≡ depth_of g = cc in
            let own = room_for_code (translate g) (translation_fits g (read_is_code untranslated (code_at s 0) g q).2) in
            let wrote = rw (walk_of_parsed untranslated s g sizes.depth q (omega arith)) at w in
            let put : Put d 0 (code_of (translate g)) after.out.now after.place = rw (← same, ← first) wrote.1.put in
            ((rw own.0 (ap Ok (omega (arith, put.after, own.1))), rw own.0 put.holds), wrote.1.same)
