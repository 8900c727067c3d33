-- Of two runs that close alike, position count and loop start are the same.
-- Assumes nothing.
use Prim.Native.Nat.{ℕ}
use mathlib.Core.Path.{◌≡◌, ap}
use Rattle.std.specs.Prelude.{Ok, Err}
use Rattle.run.specs.Running.{Ran, closes_at}
use Rattle.run.specs.declared.Closed.{Closed}

-- how a run closes, or d where it does not
closed_or : Closed → Ran → Closed
closed_or d (Ok closed) = closed
closed_or d (Err stop) = d

module _ {n start n' start' : ℕ} (e : closes_at n start ≡ closes_at n' start') where
  same_closed : ◌≡◌ {A = Closed} (record { positions = n; start = start }) (record { positions = n'; start = start' })
  unfolding closed_or
  same_closed = ap (closed_or (record { positions = n; start = start })) e

  pub same_positions : n ≡ n'
  same_positions = ap (λ (closed : Closed). closed.positions) same_closed

  pub same_start : start ≡ start'
  same_start = ap (λ (closed : Closed). closed.start) same_closed
