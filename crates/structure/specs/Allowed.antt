-- Document 01, Coding ("Table, in this order ..") and Actions: which tables are allowed, said of a table as it is made up.
-- That a number is "0 to 65,535" is said by the coding, and not again here.
-- Assumes nothing: these are definitions.
use Rattle.std.specs.Prelude.{ℕ, suc, ◌+◌, ◌-◌, ◌≤◌, ◌<◌, ◌≡◌, ◌⊎◌, List, [], ◌∷◌, length, get_or}
use Rattle.ranges.specs.Limits.{most_variables, most_tests, most_states, most_actions, longest_bound, err_state}
use Rattle.lookups.specs.Structure.{Table}
use Rattle.lookups.specs.declared.TestRow.{TestRow}
use Rattle.lookups.specs.declared.ActionRow.{ActionRow}

-- n is one of m things that count from 1.
abbrev pub OneOf : ℕ → ℕ → Type 0
OneOf n m = (1 ≤ n) × (n ≤ m)

-- Each of a list, which counts from a number on, is as it should be.
unfoldable pub Each : {A : Type 0} → (ℕ → A → Type 0) → ℕ → List A → Type 0
Each P n [] = Unit
Each P n (x ∷ xs) = P n x × Each P (suc n) xs

-- "counts of input, internal and output variables (total 0 to 32, numbered from 0 in that order)"
abbrev pub variables : Table → ℕ
variables t = t.inputs + t.internals + length t.sources

abbrev pub IsVariable : Table → ℕ → Type 0
IsVariable t v = v < variables t

abbrev pub IsInternal : Table → ℕ → Type 0
IsInternal t v = (t.inputs ≤ v) × (v < t.inputs + t.internals)

-- How many active states process p has, from 1.
abbrev pub states_in : Table → ℕ → ℕ
states_in t p = length (get_or t.processes (p - 1) [])

-- "Test kinds: 0 variable a equals the number b; 1 variable a exceeds the number b;
-- 2 process a (from 1) is in state b (0 stop, 1 upward active, 255 err)."
pub data TestAllowed (t : Table) (r : TestRow) : Type 0 where
  equals : r.kind ≡ 0 → IsVariable t r.a → TestAllowed t r
  exceeds : r.kind ≡ 1 → IsVariable t r.a → TestAllowed t r
  in_state : r.kind ≡ 2 → OneOf r.a (length t.processes) → (r.b ≡ err_state) ⊎ (r.b ≤ states_in t r.a) → TestAllowed t r

-- Where an action stands: the process and the state, from 1, of so many states, and how many actions the body has.
pub record Spot : Type 0 where
  pub process : ℕ
  pub states : ℕ
  pub state : ℕ
  pub actions : ℕ

-- "Ops 1 to 4, 6 and 7 use guard and nexts; under guard 0, next-else is 0." "Guard 0 is always true, guard k+1 is test k;
-- next 0 is the end of the body."
pub record Guarded (t : Table) (s : Spot) (r : ActionRow) : Type 0 where
  pub guard : r.guard ≤ length t.tests
  pub taken : r.next_if ≤ s.actions
  pub other : r.next_else ≤ s.actions
  pub always : r.guard ≡ 0 → r.next_else ≡ 0

-- "Unused fields are 0."
pub record Unguarded (r : ActionRow) : Type 0 where
  pub guard : r.guard ≡ 0
  pub taken : r.next_if ≡ 0
  pub other : r.next_else ≡ 0

-- Each op and its fields.
pub data ActionAllowed (t : Table) (s : Spot) (r : ActionRow) : Type 0 where
  -- "op 1, x takes the number y; 2, x takes variable y; 3, x takes its own value plus y .. x is internal"
  constant : r.op ≡ 1 → IsInternal t r.x → Guarded t s r → ActionAllowed t s r
  copy : r.op ≡ 2 → IsInternal t r.x → IsVariable t r.y → Guarded t s r → ActionAllowed t s r
  add : r.op ≡ 3 → IsInternal t r.x → Guarded t s r → ActionAllowed t s r
  -- "4 tout (x is the bound, 1 to 4,095), 5 reset"
  tout : r.op ≡ 4 → OneOf r.x longest_bound → r.y ≡ 0 → Guarded t s r → ActionAllowed t s r
  reset : r.op ≡ 5 → r.x ≡ 0 → r.y ≡ 0 → Unguarded r → ActionAllowed t s r
  -- "6 startP and 7 stopP (x another process)"
  start_other : r.op ≡ 6 → OneOf r.x (length t.processes) → ¬ (r.x ≡ s.process) → r.y ≡ 0 → Guarded t s r → ActionAllowed t s r
  stop_other : r.op ≡ 7 → OneOf r.x (length t.processes) → ¬ (r.x ≡ s.process) → r.y ≡ 0 → Guarded t s r → ActionAllowed t s r
  -- "8 start, 9 set (x an active state), 10 next (not in the last state), 11 stop, 12 err"
  start : r.op ≡ 8 → r.x ≡ 0 → r.y ≡ 0 → Unguarded r → ActionAllowed t s r
  set : r.op ≡ 9 → OneOf r.x s.states → r.y ≡ 0 → Unguarded r → ActionAllowed t s r
  next : r.op ≡ 10 → s.state < s.states → r.x ≡ 0 → r.y ≡ 0 → Unguarded r → ActionAllowed t s r
  stop : r.op ≡ 11 → r.x ≡ 0 → r.y ≡ 0 → Unguarded r → ActionAllowed t s r
  err : r.op ≡ 12 → r.x ≡ 0 → r.y ≡ 0 → Unguarded r → ActionAllowed t s r

-- "for each of those its actions (1 to 16)"
abbrev pub StateAllowed : Table → ℕ → ℕ → ℕ → List ActionRow → Type 0
StateAllowed t process states state actions =
    OneOf (length actions) most_actions
    × Each (λ a r. ActionAllowed t (record { process = process; states = states; state = state; actions = length actions }) r) 1 actions

-- "for each its active states (1 to 8)"
abbrev pub ProcessAllowed : Table → ℕ → List (List ActionRow) → Type 0
ProcessAllowed t process states =
    OneOf (length states) most_states
    × Each (λ s actions. StateAllowed t process (length states) s actions) 1 states

-- A table of at most `most` processes that is allowed.
pub record Allowed (most : ℕ) (t : Table) : Type 0 where
  pub total : variables t ≤ most_variables
  -- "for each output its source, an internal variable"
  pub sources : Each (λ k v. IsInternal t v) 0 t.sources
  -- "count of tests (0 to 32)"
  pub test_count : length t.tests ≤ most_tests
  pub tests : Each (λ k r. TestAllowed t r) 0 t.tests
  -- "processes (1 to 8)"
  pub process_count : OneOf (length t.processes) most
  pub processes : Each (λ p states. ProcessAllowed t p states) 1 t.processes
