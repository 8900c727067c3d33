use Rattle.std.proofs.Common.{◌≡◌, ◌+◌, ◌-◌, ◌*◌, ◌≤◌}
use Rattle.lookups.specs.Places.{after_states}
use Rattle.lookups.proofs.places.after_states.Given as goal

abbrev pub invariant-loop : goal.invariant-loop
invariant-loop l =
    (after_states l.table (l.k - l.counter) l.at ≡ after_states l.table l.k l.from) × (l.at ≤ l.from + 393211 * l.counter)
