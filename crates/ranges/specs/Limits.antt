-- The limits of a table and of an inputs record (document 01, Coding and Actions). How many processes a table may have is told to the machine.
-- Assumes nothing: these are definitions.
use Rattle.std.specs.Prelude.{ℕ}

-- "counts of input, internal and output variables (total 0 to 32 ..)"
abbrev pub most_variables : ℕ
most_variables = 32

-- "count of tests (0 to 32)"
abbrev pub most_tests : ℕ
most_tests = 32

-- "processes (1 to 8)"
abbrev pub most_processes : ℕ
most_processes = 8

-- "its active states (1 to 8)"
abbrev pub most_states : ℕ
most_states = 8

-- "its actions (1 to 16)"
abbrev pub most_actions : ℕ
most_actions = 16

-- "tout (x is the bound, 1 to 4,095)"
abbrev pub longest_bound : ℕ
longest_bound = 4095

-- "scans q (1 to 1,365)"
abbrev pub most_scans : ℕ
most_scans = 1365

-- "0 stop, 1 upward active, 255 err"
abbrev pub err_state : ℕ
err_state = 255
