-- The grammar of a table accepts just the numbers of the tables that are allowed.
-- Assumes nothing.
use Prim.Native.Nat.{ℕ, ◌+◌, ◌≤◌}
use mathlib.Core.Path.{◌≡◌, refl, sym, ap, ◌∙◌}
use mathlib.Core.List.{List, [], ◌++◌, append-nil}
use native.Mathlib.Omega.{arith}
use lib.ListN.{length}
use borrow.Author.Tests.{leb-true, le-leb}
use Rattle.std.specs.Prelude.{Ok}
use Rattle.coding.specs.Code.{Code, numbered, values}
use Rattle.coding.proofs.Trips.{Clean}
use Rattle.coding.proofs.Grammars.{numbered_is}
use Rattle.ranges.specs.Limits.{most_variables, most_states, most_actions, most_tests}
use Rattle.ranges.specs.Values.{total_ok, is_internal}
use Rattle.table.specs.Table.{no_counts, table_start, table_grammar}
use Rattle.lookups.specs.declared.ActionRow.{ActionRow}
use Rattle.lookups.specs.Structure.{Table, numbers_of}
use Rattle.lookups.proofs.Structured.{one_structure}
use Rattle.structure.specs.Allowed.{Allowed, OneOf, StateAllowed, ProcessAllowed}
use Rattle.structure.proofs.Looks.{Passes, read, read_back}
use Rattle.structure.proofs.Parts.{StatePasses, ProcessPasses, counts_of}
use Rattle.structure.proofs.Front.{TablePasses, table}
use Rattle.structure.proofs.Values.{each, range, in_range, shape_of, internal, is_internal_lem, action_allowed, action_passes}
use Rattle.structure.proofs.Counts.{test_allowed, test_passes}

-- ---- what the looks ask of a table is what is allowed
module _ (t : Table) where
  state_allowed : (p n s : ℕ) (l : List ActionRow) → StatePasses (shape_of t) p n s l → StateAllowed t p n s l
  state_allowed p n s l h = (range 1 (length l) most_actions h.0, each (λ a r. action_allowed t p n s (length l) a r) 1 l h.1)

  state_passes : (p n s : ℕ) (l : List ActionRow) → StateAllowed t p n s l → StatePasses (shape_of t) p n s l
  state_passes p n s l h = (in_range 1 (length l) most_actions h.0, each (λ a r. action_passes t p n s (length l) a r) 1 l h.1)

  process_allowed : (p : ℕ) (l : List (List ActionRow)) → ProcessPasses (shape_of t) p l → ProcessAllowed t p l
  process_allowed p l h = (range 1 (length l) most_states h.0, each (λ s actions. state_allowed p (length l) s actions) 1 l h.1)

  process_passes : (p : ℕ) (l : List (List ActionRow)) → ProcessAllowed t p l → ProcessPasses (shape_of t) p l
  process_passes p l h = (in_range 1 (length l) most_states h.0, each (λ s actions. state_passes p (length l) s actions) 1 l h.1)

  module _ (most : ℕ) (few : most ≤ 64) where
    table_allowed : TablePasses most (counts_of t.processes) t → Allowed most t
    unfolding total_ok is_internal
    table_allowed h =
        let count : OneOf (length t.processes) most = range 1 (length t.processes) most h.processes.0 in
        record {
          total = leb-true _ _ h.outputs;
          sources = each (λ k v. internal t v) 0 t.sources h.sources;
          test_count = (range 0 (length t.tests) most_tests h.test_count).1;
          tests = each (λ k r. test_allowed t (omega arith) r) 0 t.tests h.tests;
          process_count = count;
          processes = each process_allowed 1 t.processes h.processes.1;
        }

    table_passes : Allowed most t → TablePasses most (counts_of t.processes) t
    unfolding total_ok is_internal
    table_passes h =
        let total = h.total in
        let count = h.process_count in
        record {
          inputs = le-leb (0 + 0 + t.inputs) most_variables (omega arith);
          internals = le-leb (t.inputs + 0 + t.internals) most_variables (omega arith);
          outputs = le-leb _ _ total;
          sources = each (λ k v. is_internal_lem t v) 0 t.sources h.sources;
          test_count = in_range 0 (length t.tests) most_tests (omega arith, h.test_count);
          tests = each (λ k r. test_passes t (omega arith) r) 0 t.tests h.tests;
          processes = (in_range 1 (length t.processes) most count, each process_passes 1 t.processes h.processes);
        }

-- ---- the theorems
module _ (most : ℕ) (few : most ≤ 64) where
  -- What is accepted is the numbers of an allowed table, as many as were counted.
  pub accepted_is_allowed : (c : Code) (n : ℕ) → table_grammar most c ≡ Ok n →
      (t : Table) × (values c ≡ numbers_of t) × Allowed most t × Clean c × (n ≡ length (numbers_of t))
  accepted_is_allowed c n e =
      let r = read most c n e in
      let f = r.final in
      let a = (table most f).out (values c) r.passes in
      let t = a.thing in
      let same : values c ≡ numbers_of t = a.is ∙ ap (λ (l : List ℕ). numbers_of t ++ l) a.goes_on.0 ∙ append-nil (numbers_of t) in
      (t, same, table_allowed t most few (rw a.goes_on.1 a.ok), r.clean, r.count ∙ ap length same)

  -- The numbers of an allowed table are accepted, wherever they stand.
  pub allowed_is_accepted : (c : Code) (t : Table) → Allowed most t → values c ≡ numbers_of t → Clean c → table_grammar most c ≡ Ok (length (numbers_of t))
  allowed_is_accepted c t h e l =
      let f = counts_of t.processes in
      let p : Passes most f no_counts table_start (numbers_of t) = rw append-nil at ((table most f).into t [] (table_passes t most few h) (refl, refl)) in
      rw (← e) (read_back most f c l (rw e p))

  -- So are they as the writer is handed them.
  pub numbers_accepted : (t : Table) → Allowed most t → table_grammar most (numbered 0 (numbers_of t)) ≡ Ok (length (numbers_of t))
  numbers_accepted t h = let n = numbered_is 0 (numbers_of t) in allowed_is_accepted (numbered 0 (numbers_of t)) t h n.0 n.1

  -- An accepted code is the code of exactly one table, and that is allowed.
  pub exactly_one : (c : Code) (n : ℕ) → table_grammar most c ≡ Ok n →
      (t : Table) × (values c ≡ numbers_of t) × Allowed most t × ((u : Table) → values c ≡ numbers_of u → u ≡ t)
  exactly_one c n e =
      let a = accepted_is_allowed c n e in
      (a.0, a.1, a.2, λ u h. one_structure u a.0 (sym h ∙ a.1))
