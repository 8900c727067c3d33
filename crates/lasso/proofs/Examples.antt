-- Traces that are accepted and traces that are refused, with the place; computed from the definitions.
-- Assumes nothing.
use Prim.Native.Nat.{ℕ}
use mathlib.Core.Path.{◌≡◌, refl}
use mathlib.Core.List.{List, [], ◌∷◌, map}
use lib.ListN.{replicate}
use Rattle.coding.specs.Refusal.{Answer, refused_at}
use Rattle.std.specs.Prelude.{Ok}
use Rattle.coding.specs.declared.Cause.TheVariants.{BadTrace}
use Rattle.lasso.specs.Checking.{length_ok, may_follow, steps_from, output_from, check_by, check_trace}

-- the bytes of a trace and its loop start, and what checking them answers
pub record Case : Type 0 where
  pub bytes : List ℕ
  pub start : ℕ
  pub answer : Answer

abbrev case : List ℕ → ℕ → Answer → Case
case bytes start answer = record { bytes = bytes; start = start; answer = answer }

-- positions with these phases and no atoms
abbrev phases : List ℕ → List ℕ
phases [] = []
phases (p ∷ ps) = p ∷ 0 ∷ 0 ∷ 0 ∷ 0 ∷ phases ps

abbrev bench : List ℕ
bench = phases (2 ∷ 0 ∷ 1 ∷ 1 ∷ 2 ∷ 0 ∷ 1 ∷ 1 ∷ 2 ∷ 0 ∷ 1 ∷ 1 ∷ [])

pub cases : List Case
cases =
    -- "Twelve positions, loop start 4"
    case bench 4 (Ok 12)
    -- "Position 0 may have any phase"
    ∷ case (phases (1 ∷ 2 ∷ 0 ∷ [])) 0 (Ok 3)
    ∷ case (phases (0 ∷ 1 ∷ 2 ∷ [])) 0 (Ok 3)
    -- length 0, over 20,480, not a multiple of 5
    ∷ case [] 0 (refused_at BadTrace 0)
    ∷ case (replicate 20485 0) 0 (refused_at BadTrace 20485)
    ∷ case (replicate 7 2) 0 (refused_at BadTrace 7)
    -- a loop start that is not below the position count, of the longest trace too
    ∷ case bench 12 (refused_at BadTrace 12)
    ∷ case (replicate 20480 0) 4096 (refused_at BadTrace 4096)
    -- a bad phase is found where it follows, and at position 0 where it stands
    ∷ case (phases (2 ∷ 0 ∷ 7 ∷ [])) 0 (refused_at BadTrace 1)
    ∷ case (phases (7 ∷ 2 ∷ 0 ∷ 1 ∷ [])) 1 (refused_at BadTrace 0)
    -- a phase that may not follow, inside and "at the join too"
    ∷ case (phases (2 ∷ 0 ∷ 2 ∷ [])) 1 (refused_at BadTrace 1)
    ∷ case bench 5 (refused_at BadTrace 11)
    -- no Output in the loop
    ∷ case bench 10 (refused_at BadTrace 10)
    -- no Output in the loop either, but a step at fault comes first
    ∷ case (phases (2 ∷ 2 ∷ 0 ∷ 1 ∷ [])) 3 (refused_at BadTrace 0)
    ∷ []

abbrev answered : Case → Answer
answered c = check_trace c.bytes c.start

pub shown : map answered cases ≡ map (λ c. c.answer) cases
unfolding cases check_by steps_from output_from length_ok may_follow
shown = refl
