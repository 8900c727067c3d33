-- The checksum of a buffer, a number at a time.
-- Assumes nothing: these are definitions.
use Rattle.std.specs.Prelude.{ℕ, ◌≡◌, ◌+◌, ◌*◌, ◌%◌}

-- The sum after one more item, which stands for the number that `reads` tells.
abbrev pub Counts : {A : Type 0} → (A → ℕ → Type 0) → ℕ → A → ℕ → Type 0
Counts reads sum item next = (n : ℕ) × reads item n × (next ≡ (sum * 257 + n) % 4294967291)
