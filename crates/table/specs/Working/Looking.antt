-- What the first look is left with. This definition serves private functions alone.
-- Assumes nothing: these are definitions.
use Rattle.std.specs.Prelude.{ℕ, ◌≡◌, Result, Ok, Err}
use Rattle.coding.specs.Code.{Code}
use Rattle.coding.specs.declared.Refusal.{Refusal}
use Rattle.ranges.specs.declared.Want.{Want}
use Rattle.table.specs.Table.{check, counts_from, no_counts}
use Rattle.table.specs.declared.Seen.{Seen}

-- The answer of the grammar, and of an accepted source the counts of processes and states too.
abbrev pub Looked : ℕ → Want → Code → Result Seen Refusal → Type 0
Looked most first c (Ok seen) = (Ok seen.count ≡ check most first 0 c) × (seen.counts ≡ counts_from most first no_counts c)
Looked most first c (Err why) = Err why ≡ check most first 0 c
