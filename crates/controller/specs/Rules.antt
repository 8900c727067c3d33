-- The rules of the actions, each under its line of paper 003 as document 01 settles it; the counter goes on as in paper 000, to n + 1. A rule is over values: the variables, the record of the process that acts (p_i) and
-- the record of the one other process that the action names (p_k). What a rule does not mention stays as it is.
-- Assumes nothing: these are definitions.
use Rattle.std.specs.Prelude.{ℕ, ◌+◌, ◌%◌, Bool, List, set, ltb, eqb}
use Rattle.ranges.specs.Limits.{err_state}
use Rattle.ranges.specs.Values.{pick}
use Rattle.controller.specs.State.{none, stop, body_end, up, goes, timed, entering, stopped, value_at, record_at, with_record}
use Rattle.controller.specs.declared.Process.{Process}
use Rattle.controller.specs.declared.Controller.{Controller}
use Rattle.controller.specs.declared.Outcome.{Outcome}
use Rattle.controller.specs.declared.Outcome.TheVariants.{Stays, Passes, NoRule}
use Rattle.controller.specs.declared.Done.{Done}
use Rattle.controller.specs.declared.Acted.{Acted}
use Rattle.controller.specs.declared.Update.{Update}
use Rattle.controller.specs.declared.Update.TheVariants.{Constant, Copy, Add}
use Rattle.controller.specs.declared.Action.{Action}
use Rattle.controller.specs.declared.Action.TheVariants.{Skip, End, Updates, Tout, Reset, StartP, StopP, Start, Set, Next, Stop, Err}

-- The rule applies and leaves the turn with the process; it applies and the counter goes on (pc' = i + 1); there is no rule.
abbrev pub stays : List ℕ → Process → Process → Done
stays v p q = record { outcome = Stays; variables = v; own = p; other = q }

abbrev pub passes : List ℕ → Process → Process → Done
passes v p q = record { outcome = Passes; variables = v; own = p; other = q }

abbrev pub no_rule_done : List ℕ → Process → Process → Done
no_rule_done v p q = record { outcome = NoRule; variables = v; own = p; other = q }

-- "op 1, x takes the number y; 2, x takes variable y; 3, x takes its own value plus y, modulo 65,536"
-- "adding to an unset one leaves it unset; copying copies unset"
abbrev pub new_value : List ℕ → ℕ → Update → ℕ
new_value v x (Constant d) = d
new_value v x (Copy y) = value_at v y
new_value v x (Add d) = pick (eqb (value_at v x) none) none ((value_at v x + d) % 65536)

-- upd: (v'_x = d, a'_i = next(a))
unfoldable pub updated : ℕ → Update → ℕ → List ℕ → Process → Process → Done
updated x u k v p q = stays (set v x (new_value v x u)) (goes p k) q

-- "equal to the bound clears it and goes on": when a timer has elapsed
unfoldable pub elapsed : ℕ → ℕ → Bool
elapsed t bound = eqb t bound

-- tout: (t_i = ⊥) to (a'_i = 1, t'_i = 0, pc' = i + 1); (t_i < N) to (a'_i = 1, pc' = i + 1); (t_i = N) to (a'_i = next(a), t'_i = ⊥)
-- "A timer above its bound .. no rule"
unfoldable pub waited : ℕ → ℕ → List ℕ → Process → Process → Done
waited bound k v p q =
    pick (eqb p.timer none) (passes v (timed (goes p 1) 0) q)
    (pick (ltb p.timer bound) (passes v (goes p 1) q)
    (pick (elapsed p.timer bound) (stays v (timed (goes p k) none) q) (no_rule_done v p q)))

-- reset: (t_i ≠ ⊥) to (a'_i = 1, t'_i = 0, pc' = i + 1); "reset with no timer" has no rule
unfoldable pub restarted : List ℕ → Process → Process → Done
restarted v p q = pick (eqb p.timer none) (no_rule_done v p q) (passes v (timed (goes p 1) 0) q)

-- The rule of an action; k is next(a).
abbrev pub rule_of : Action → ℕ → List ℕ → Process → Process → Done
-- skip: (pc' = i + 1)
rule_of Skip k v p q = passes v p q
-- end: (a'_i = 1, pc' = i + 1)
rule_of End k v p q = passes v (goes p 1) q
rule_of (Updates x u) k v p q = updated x u k v p q
rule_of (Tout bound) k v p q = waited bound k v p q
rule_of Reset k v p q = restarted v p q
-- startP: (f'_k = f_k^1, a'_k = 1, t'_k = ⊥, a'_i = next(a))
rule_of (StartP x) k v p q = stays v (goes p k) (entering 1 1)
-- stopP: (f'_k = stop, a'_k = ⊥, t'_k = ⊥, a'_i = next(a))
rule_of (StopP x) k v p q = stays v (goes p k) stopped
-- set, start, next: (f'_i = .., a'_i = 1, t'_i = ⊥), of next the state f_i^(j+1); "set, start and next leave the turn with the same process"
rule_of Start k v p q = stays v (entering 1 1) q
rule_of (Set j) k v p q = stays v (entering j 1) q
rule_of Next k v p q = stays v (entering (up p.state) 1) q
-- stop, err: (f'_i = stop or err, a'_i = ⊥, t'_i = ⊥)
rule_of Stop k v p q = stays v (entering stop body_end) q
rule_of Err k v p q = stays v (entering err_state body_end) q

-- The other process that an action of process i names; i itself where it names none.
abbrev pub named_by : Action → ℕ → ℕ
named_by Skip i = i
named_by End i = i
named_by (Updates x u) i = i
named_by (Tout bound) i = i
named_by Reset i = i
named_by (StartP x) i = x
named_by (StopP x) i = x
named_by Start i = i
named_by (Set j) i = i
named_by Next i = i
named_by Stop i = i
named_by Err i = i

-- The counter after an action: "pc' = i + 1" where the turn passes.
abbrev pub counter_after : Outcome → ℕ → ℕ
counter_after Stays pc = pc
counter_after Passes pc = up pc
counter_after NoRule pc = pc

-- "The controller's state goes in, one action is done, and the state comes out": process i does an action. Of the two records the other's is stored first.
unfoldable pub act_of : ℕ → Action → ℕ → Controller → Acted
act_of i action k c =
    let d = rule_of action k c.variables (record_at c.processes i) (record_at c.processes (named_by action i)) in
    record {
      outcome = d.outcome;
      state = record {
        variables = d.variables;
        processes = with_record (with_record c.processes (named_by action i) d.other) i d.own;
        counter = counter_after d.outcome c.counter;
      };
    }
