-- Of a requirement within the limits of translated ones every number is its own byte, and 1,408 bytes are room for them.
-- Assumes nothing.
use Prim.Native.Nat.{◌≤◌}
use native.Mathlib.Omega.{arith}
use mathlib.Core.Path.{◌≡◌}
use lib.ListN.{length}
use Rattle.coding.specs.Code.{bytes_of_all}
use Rattle.requirement.specs.Requirement.{Requirement}
use Rattle.requirement.specs.Tags.{code_of}
use Rattle.requirement.specs.Limits.{Fits}
use Rattle.requirement.specs.declared.Kind.TheVariants.{Translated}
use Rattle.requirement.proofs.Small.{own_bytes}
use Rattle.requirement.proofs.Sizes.{translated_numbers}
use Rattle.translate.specs.Writing.{room_asked}

pub room_for_code : (f : Requirement) → Fits Translated f →
    (bytes_of_all (code_of f) ≡ code_of f) × (length (code_of f) ≤ room_asked)
room_for_code f fits = (own_bytes Translated f fits.allowed, omega (arith, translated_numbers f fits))
