-- What is known of a table and inputs that were accepted.
-- Assumes nothing.
use Prim.Native.Nat.{ℕ, ◌<◌, ◌≤◌}
use native.Mathlib.Omega.{arith}
use mathlib.Core.Path.{◌≡◌, refl, ap, ◌∙◌}
use mathlib.Core.Bool.{Bool, true, false}
use lib.ListN.{length, get_or}
use lib.Dec.{ltb, leb}
use borrow.Author.Tests.{leb-false}
use Rattle.coding.specs.Refusal.{refused_at}
use Rattle.std.specs.Prelude.{Ok}
use Rattle.coding.specs.Code.{Code, item, end, broken, values}
use Rattle.coding.specs.declared.Cause.{Cause}
use Rattle.ranges.specs.Limits.{most_variables, most_scans, most_processes}
use Rattle.ranges.specs.Values.{within}
use Rattle.ranges.specs.Order.{allowed}
use Rattle.ranges.specs.declared.Want.TheVariants.{Scans, Return}
use Rattle.table.specs.Table.{check, table_grammar, inputs_grammar}
use Rattle.lookups.specs.Places.{tests_of, processes_of, scans_of, return_of}
use Rattle.lookups.proofs.Structured.{joined}
use Rattle.structure.proofs.Whole.{accepted_is_allowed}

-- "processes (1 to 8)"
pub some_process : (c : Code) (n : ℕ) → table_grammar most_processes c ≡ Ok n → 1 ≤ processes_of (values c)
some_process c n e =
    let (t, same, ok, _, _) = accepted_is_allowed most_processes (omega arith) c n e in
    let count : processes_of (values c) ≡ length t.processes = ap processes_of same ∙ (joined t).processes in
    omega (arith, ok.process_count.0)

-- "count of tests (0 to 32)"
pub few_tests : (c : Code) (n : ℕ) → table_grammar most_processes c ≡ Ok n → tests_of (values c) ≤ 32
few_tests c n e =
    let (t, same, ok, _, _) = accepted_is_allowed most_processes (omega arith) c n e in
    let count : tests_of (values c) ≡ length t.tests = ap tests_of same ∙ (joined t).tests in
    omega (arith, ok.test_count)

-- "return scan b (below q)"
refused : {cause : Cause} {p n : ℕ} → refused_at cause p ≡ Ok n → ⊥
refused e = let z : ◌≡◌ {A = ℕ} 0 1 = cc in omega arith

second : (inputs q at n : ℕ) (c : Code) → check 0 (Return inputs q) at c ≡ Ok n → get_or (values c) 0 0 < q
unfolding check
second inputs q at n (end p) e = absurd (refused e)
second inputs q at n (broken cause p) e = absurd (refused e)
second inputs q at n (item p v c) e = go (leb q v) refl
  where
    go : (b : Bool) → leb q v ≡ b → v < q
    go false f = leb-false q v f
    go true f = absurd (refused (rw (f, check) at e))

first : (inputs n : ℕ) (c : Code) → check 0 (Scans inputs) 0 c ≡ Ok n → return_of (values c) < scans_of (values c)
unfolding check allowed
first inputs n (end p) e = absurd (refused e)
first inputs n (broken cause p) e = absurd (refused e)
first inputs n (item p v c) e = go (within 1 v most_scans) refl
  where
    go : (b : Bool) → within 1 v most_scans ≡ b → get_or (values c) 0 0 < v
    go false f = absurd (refused (rw (f, check) at e))
    go true f = second inputs v 1 n c (rw (f, check) at e)

pub returns_below : (inputs n : ℕ) (c : Code) → inputs_grammar inputs c ≡ Ok n → return_of (values c) < scans_of (values c)
unfolding inputs_grammar
returns_below inputs n c e = go (ltb most_variables inputs) refl
  where
    go : (b : Bool) → ltb most_variables inputs ≡ b → return_of (values c) < scans_of (values c)
    go true f = absurd (refused (rw f at e))
    go false f = first inputs n c (rw f at e)
