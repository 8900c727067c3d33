-- The limits of a run (document 01, Actions; Phases and the lasso; Numbers of refusal).
-- Assumes nothing: these are definitions.
use Rattle.std.specs.Prelude.{ℕ}

-- "after at most 64 actions, skip and end counted"
abbrev pub longest_turn : ℕ
longest_turn = 64

-- "At most 4,096 positions"; "a state numbered above 4,096 would arise (the start is 0)"
abbrev pub last_state : ℕ
last_state = 4096

-- "trace buffer under 20,480 bytes (10)"
abbrev pub trace_room : ℕ
trace_room = 20480
