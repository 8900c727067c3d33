-- The look-ups find what a table is made up of, and its numbers tell what it is made up of.
-- Assumes nothing.
use Prim.Native.Nat.{ℕ, ◌+◌, ◌-◌, ◌*◌, ◌≤◌, ◌<◌}
use mathlib.Core.Path.{◌≡◌, refl, sym, ap, ◌∙◌}
use mathlib.Core.List.{List, [], ◌∷◌, ◌++◌, append-nil}
use native.Mathlib.Omega.{arith}
use lib.ListN.{length, get_or}
use lib.Seq.{ext_get_or}
use Rattle.lookups.specs.declared.TestRow.{TestRow}
use Rattle.lookups.specs.declared.ActionRow.{ActionRow}
use Rattle.lookups.specs.Places.{outputs_of, source_of, tests_of, test_place, test_of, processes_place, processes_of}
use Rattle.lookups.specs.Places.{after_states, after_processes, process_place, state_place, states_of, actions_of, row_from, no_action, action_from, action_of}
use Rattle.lookups.specs.Structure.{Table, action_numbers, test_numbers, in_order, state_numbers, process_numbers, numbers_of}
use Rattle.lookups.proofs.Order.{From, nth, first, front, past, next, Walk, after_all, item, blocks}

-- A test of zeros.
abbrev pub no_test : TestRow
no_test = record { kind = 0; a = 0; b = 0 }

-- Process p of a table, state s of that, and action a of that; each from 1.
abbrev pub process_in : Table → ℕ → List (List ActionRow)
process_in t p = get_or t.processes (p - 1) []

abbrev pub state_in : Table → ℕ → ℕ → List ActionRow
state_in t p s = get_or (process_in t p) (s - 1) []

abbrev pub action_in : Table → ℕ → ℕ → ℕ → ActionRow
action_in t p s a = get_or (state_in t p s) (a - 1) no_action

-- n, from 1, is one of m.
abbrev pub OneOf : ℕ → ℕ → Type 0
OneOf n m = (1 ≤ n) × (n ≤ m)

-- Each look-up in the numbers of a table finds what the table has there.
pub record Joined (t : Table) : Type 0 where
  pub inputs : get_or (numbers_of t) 0 0 ≡ t.inputs
  pub internals : get_or (numbers_of t) 1 0 ≡ t.internals
  pub outputs : outputs_of (numbers_of t) ≡ length t.sources
  pub source : (k : ℕ) → k < length t.sources → source_of (numbers_of t) k ≡ get_or t.sources k 0
  pub tests : tests_of (numbers_of t) ≡ length t.tests
  pub test : (k : ℕ) → k < length t.tests → test_of (numbers_of t) k ≡ get_or t.tests k no_test
  pub processes : processes_of (numbers_of t) ≡ length t.processes
  pub states : (p : ℕ) → OneOf p (length t.processes) → states_of (numbers_of t) p ≡ length (process_in t p)
  pub actions : (p s : ℕ) → OneOf p (length t.processes) → OneOf s (length (process_in t p)) → actions_of (numbers_of t) p s ≡ length (state_in t p s)
  pub action :
      (p s a : ℕ) → OneOf p (length t.processes) → OneOf s (length (process_in t p)) → OneOf a (length (state_in t p s))
      → action_of (numbers_of t) p s a ≡ action_in t p s a

-- The walks over tests and actions, over states, and over processes.
tests_walk : (T : List ℕ) → Walk T test_numbers (λ (at : ℕ). at + 3) (λ (k at : ℕ). at + 3 * k)
tests_walk T = blocks T test_numbers 3 (λ x. refl)

actions_walk : (T : List ℕ) → Walk T action_numbers (λ (at : ℕ). at + 6) (λ (k at : ℕ). at + 6 * k)
actions_walk T = blocks T action_numbers 6 (λ x. refl)

states_walk : (T : List ℕ) → Walk T state_numbers (λ (at : ℕ). at + 1 + 6 * get_or T at 0) (after_states T)
unfolding after_states state_numbers
states_walk T =
    record {
      none = λ at. refl;
      more = λ k at. refl;
      pass = λ x at s h. rw (first h) (after_all (actions_walk T) x s (at + 1) (next h));
    }

processes_walk : (T : List ℕ) → Walk T process_numbers (λ (at : ℕ). after_states T (get_or T at 0) (at + 1)) (after_processes T)
unfolding after_processes process_numbers
processes_walk T =
    record {
      none = λ at. refl;
      more = λ k at. refl;
      pass = λ x at s h. rw (first h) (after_all (states_walk T) x s (at + 1) (next h));
    }

-- A test and an action, read where their numbers stand.
test_from : (T : List ℕ) (k : ℕ) (r : TestRow) → From T (test_place T k) (test_numbers r) → test_of T k ≡ r
unfolding test_of
test_from T k r h = rw (first h, nth h 1 (omega arith), nth h 2 (omega arith)) refl

row_from_lem : (T : List ℕ) (at : ℕ) (r : ActionRow) → From T at (action_numbers r) → row_from T at ≡ r
unfolding row_from
row_from_lem T at r h =
    rw (first h, nth h 1 (omega arith), nth h 2 (omega arith), nth h 3 (omega arith), nth h 4 (omega arith), nth h 5 (omega arith)) refl

-- The processes with their count, and before them the tests with theirs.
abbrev processes_part : Table → List ℕ
processes_part t = length t.processes ∷ in_order process_numbers t.processes

abbrev tests_part : Table → List ℕ
tests_part t = length t.tests ∷ (in_order test_numbers t.tests ++ processes_part t)

module _ (t : Table) where
  outputs : outputs_of (numbers_of t) ≡ length t.sources
  unfolding numbers_of
  outputs = refl

  sources_from : From (numbers_of t) 3 (t.sources ++ tests_part t)
  unfolding numbers_of
  sources_from = record { rest = []; is = sym (append-nil (t.sources ++ tests_part t)) }

  tests_from_lem : From (numbers_of t) (3 + outputs_of (numbers_of t)) (tests_part t)
  tests_from_lem = rw outputs (past t.sources sources_from)

  tests : tests_of (numbers_of t) ≡ length t.tests
  tests = first tests_from_lem

  tests_rows : From (numbers_of t) (4 + outputs_of (numbers_of t)) (in_order test_numbers t.tests ++ processes_part t)
  tests_rows =
      let e : 3 + outputs_of (numbers_of t) + 1 ≡ 4 + outputs_of (numbers_of t) = omega arith in
      rw e at (next tests_from_lem)

  processes_from : From (numbers_of t) (processes_place (numbers_of t)) (processes_part t)
  processes_from = rw tests (after_all (tests_walk (numbers_of t)) t.tests (processes_part t) _ tests_rows)

  module _ (p : ℕ) (hp : OneOf p (length t.processes)) where
    process_from : From (numbers_of t) (process_place (numbers_of t) p) (process_numbers (process_in t p))
    unfolding process_place
    process_from = item (processes_walk (numbers_of t)) t.processes [] (p - 1) _ (omega arith) (next processes_from)

    states : states_of (numbers_of t) p ≡ length (process_in t p)
    unfolding process_numbers
    states = first process_from

    module _ (s : ℕ) (hs : OneOf s (length (process_in t p))) where
      state_from : From (numbers_of t) (state_place (numbers_of t) p s) (state_numbers (state_in t p s))
      unfolding state_place process_numbers
      state_from = item (states_walk (numbers_of t)) (process_in t p) [] (s - 1) _ (omega arith) (next process_from)

      actions : actions_of (numbers_of t) p s ≡ length (state_in t p s)
      unfolding state_numbers
      actions = first state_from

      action : (a : ℕ) → OneOf a (length (state_in t p s)) → action_of (numbers_of t) p s a ≡ action_in t p s a
      unfolding action_of action_from state_numbers
      action a ha =
          row_from_lem (numbers_of t) _ (action_in t p s a)
          (item (actions_walk (numbers_of t)) (state_in t p s) no_action (a - 1) _ (omega arith) (next state_from))

  pub joined : Joined t
  unfolding numbers_of source_of
  joined =
      record {
        inputs = refl;
        internals = refl;
        outputs = outputs;
        source = λ k h. nth (front t.sources (tests_part t) sources_from) k h;
        tests = tests;
        test = λ k h. test_from (numbers_of t) k (get_or t.tests k no_test)
            (item (tests_walk (numbers_of t)) t.tests no_test k _ h (front (in_order test_numbers t.tests) (processes_part t) tests_rows));
        processes = first processes_from;
        states = states;
        actions = λ p s hp hs. actions p hp s hs;
        action = λ p s a hp hs ha. action p hp s hs a ha;
      }

-- Two lists are the same if they are as long and, counted from 1, have the same things.
same_list : {A : Type 0} (d : A) (l m : List A) → length l ≡ length m → ((n : ℕ) → OneOf n (length l) → get_or l (n - 1) d ≡ get_or m (n - 1) d) → l ≡ m
same_list d l m e h =
    ext_get_or d l m e (λ i b. let z : i + 1 - 1 ≡ i = omega arith in rw z at (h (i + 1) (omega arith)))

-- The numbers of a table fix the table.
module _ (t u : Table) (e : numbers_of t ≡ numbers_of u) where
  same : {A : Type 0} (look : List ℕ → A) {a b : A} → look (numbers_of t) ≡ a → look (numbers_of u) ≡ b → a ≡ b
  same look p q = sym p ∙ ap look e ∙ q

  same_sources : t.sources ≡ u.sources
  same_sources =
      let l = same outputs_of (joined t).outputs (joined u).outputs in
      ext_get_or 0 _ _ l (λ k h. same (λ (T : List ℕ). source_of T k) ((joined t).source k h) ((joined u).source k (rw l at h)))

  same_tests : t.tests ≡ u.tests
  same_tests =
      let l = same tests_of (joined t).tests (joined u).tests in
      ext_get_or no_test _ _ l (λ k h. same (λ (T : List ℕ). test_of T k) ((joined t).test k h) ((joined u).test k (rw l at h)))

  same_state :
      (p s : ℕ) → OneOf p (length t.processes) → OneOf p (length u.processes) → OneOf s (length (process_in t p)) → OneOf s (length (process_in u p))
      → state_in t p s ≡ state_in u p s
  same_state p s hp gp hs gs =
      let l = same (λ (T : List ℕ). actions_of T p s) ((joined t).actions p s hp hs) ((joined u).actions p s gp gs) in
      same_list no_action _ _ l (λ a ha. same (λ (T : List ℕ). action_of T p s a) ((joined t).action p s a hp hs ha) ((joined u).action p s a gp gs (rw l at ha)))

  same_process : (p : ℕ) → OneOf p (length t.processes) → OneOf p (length u.processes) → process_in t p ≡ process_in u p
  same_process p hp gp =
      let l = same (λ (T : List ℕ). states_of T p) ((joined t).states p hp) ((joined u).states p gp) in
      same_list [] _ _ l (λ s hs. same_state p s hp gp hs (rw l at hs))

  same_processes : t.processes ≡ u.processes
  same_processes =
      let l = same processes_of (joined t).processes (joined u).processes in
      same_list [] _ _ l (λ p hp. same_process p hp (rw l at hp))

  pub one_structure : t ≡ u
  one_structure =
      λ i. record {
        inputs = same (λ (T : List ℕ). get_or T 0 0) (joined t).inputs (joined u).inputs i;
        internals = same (λ (T : List ℕ). get_or T 1 0) (joined t).internals (joined u).internals i;
        sources = same_sources i;
        tests = same_tests i;
        processes = same_processes i;
      }
