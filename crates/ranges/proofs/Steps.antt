-- What a step is, from what the test of the number and the want behind it are.
-- Assumes nothing.
use Prim.Native.Nat.{ℕ, ◌-◌}
use native.Mathlib.Omega.{arith}
use lib.Dec.{eqb, leb}
use mathlib.Core.Bool.{Bool, true, false}
use mathlib.Core.Path.{◌≡◌}
use Rattle.std.specs.Bool.{then_some}
use Rattle.std.specs.Option.{MatchOption}
use Rattle.std.proofs.lemmas.Bool.Decides.{nat_tests}
use Rattle.std.specs.declared.option.Option.{Option}
use Rattle.ranges.specs.Order.{allowed}
use Rattle.ranges.specs.declared.Want.{Want}
use Rattle.ranges.specs.declared.Step.{Step}
use Rattle.ranges.specs.declared.Step.TheVariants.{More, NotAllowed}

led : (test : Bool) (want : Want) {s : Step} →
    MatchOption (then_some test want) (s ≡ NotAllowed) (λ w. s ≡ More w) → s ≡ allowed test want
unfolding allowed
led true want h = h
led false want h = h

pub goes_on : {next : Option Want} {s : Step} {ok test : Bool} {want to : Want} →
    MatchOption next (s ≡ NotAllowed) (λ w. s ≡ More w) →
    next ≡ then_some ok want → ok ≡ test → want ≡ to → s ≡ allowed test to
goes_on h e t w = led _ _ (rw (e, t, w) at h)

-- None is left after the last.
pub none_after : (left : ℕ) → eqb (left - 1) 0 ≡ leb left 1
none_after left = grind (arith, nat_tests)
