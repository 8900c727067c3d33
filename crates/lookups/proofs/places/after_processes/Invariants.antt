use Rattle.std.proofs.Common.{◌≡◌, ◌+◌, ◌-◌, ◌*◌, ◌^◌, ◌≤◌}
use Rattle.lookups.specs.Places.{after_processes}
use Rattle.lookups.proofs.places.after_processes.Given as goal

abbrev pub invariant-loop : goal.invariant-loop
invariant-loop l =
    (after_processes l.table (l.k - l.counter) l.at ≡ after_processes l.table l.k l.from) × (l.at ≤ l.from + 2 ^ 35 * l.counter)
