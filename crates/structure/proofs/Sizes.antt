-- How many numbers a table and an inputs record have at most, so that a reader lent so much room never wants for more;
-- and that some have so many.
-- Assumes nothing.
use Prim.Native.Nat.{ℕ, zero, suc, ◌+◌, ◌*◌, ◌≤◌}
use mathlib.Core.Path.{◌≡◌, refl}
use mathlib.Core.List.{List, [], ◌∷◌}
use native.Mathlib.Nat.{suc-mul, mul-le-mul}
use native.Mathlib.Omega.{arith}
use lib.ListN.{length, replicate, length-append, length-replicate}
use lib.Dec.{lit≤}
use Rattle.std.specs.Prelude.{Ok}
use Rattle.coding.specs.Code.{Code}
use Rattle.ranges.specs.Limits.{most_processes}
use Rattle.table.specs.Table.{table_grammar, inputs_grammar}
use Rattle.lookups.specs.declared.ActionRow.{ActionRow}
use Rattle.lookups.specs.Structure.{Table, action_numbers, test_numbers, in_order, state_numbers, process_numbers, numbers_of}
use Rattle.lookups.specs.Recorded.{Inputs, input_numbers, EachHas}
use Rattle.lookups.proofs.Recorded.{input_numbers_length}
use Rattle.structure.specs.Allowed.{IsInternal, Each, TestAllowed, equals, ActionAllowed, reset, StateAllowed, ProcessAllowed, Allowed}
use Rattle.structure.specs.AllowedInputs.{InputsAllowed}
use Rattle.structure.proofs.Whole.{accepted_is_allowed}
use Rattle.structure.proofs.Records.{accepted_inputs_allowed}

-- ---- a table
-- Things of at most k numbers each.
in_order_most : {A : Type 0} (f : A → List ℕ) (k : ℕ) {P : ℕ → A → Type 0} →
    ((n : ℕ) (x : A) → P n x → length (f x) ≤ k) →
    (n : ℕ) (l : List A) → Each P n l → length (in_order f l) ≤ length l * k
unfolding Each in_order
in_order_most f k small n [] h = omega arith
in_order_most f k small n (x ∷ l) h =
    let rest = in_order_most f k small (suc n) l h.1 in
    omega (arith, length-append (f x) (in_order f l), suc-mul (length l) k, small n x h.0)

-- 1 + 16 * 6, and 1 + 8 * 97
state_most : (t : Table) (p n s : ℕ) (l : List ActionRow) → StateAllowed t p n s l → length (state_numbers l) ≤ 97
unfolding state_numbers
state_most t p n s l h =
    let few = h.0.1 in
    omega (arith, in_order_most action_numbers 6 (λ a r o. omega arith) 1 l h.1)

process_most : (t : Table) (p : ℕ) (l : List (List ActionRow)) → ProcessAllowed t p l → length (process_numbers l) ≤ 777
unfolding process_numbers
process_most t p l h =
    let few = h.0.1 in
    omega (arith, in_order_most state_numbers 97 (state_most t p (length l)) 1 l h.1)

-- 32 outputs would leave no internal variable to be their source.
outputs_most : (t : Table) → Allowed most_processes t → length t.sources ≤ 31
unfolding Each
outputs_most t h = go t.sources h.sources h.total
  where
    go : (l : List ℕ) → Each (λ k v. IsInternal t v) 0 l → t.inputs + t.internals + length l ≤ 32 → length l ≤ 31
    go [] a b = omega arith
    go (v ∷ l) a b = let first = a.0 in omega arith

-- 3 + 31 + 1 + 32 * 3 + 1 + 8 * 777
numbers_most : (t : Table) → Allowed most_processes t → length (numbers_of t) ≤ 6348
unfolding numbers_of
numbers_most t h =
    let outputs = outputs_most t h in
    let tests = h.test_count in
    let few = h.process_count.1 in
    let a = in_order_most test_numbers 3 (λ k r o. omega arith) 0 t.tests h.tests in
    let b = in_order_most process_numbers 777 (process_most t) 1 t.processes h.processes in
    simp length-append (omega arith)

pub table_size : (c : Code) (n : ℕ) → table_grammar most_processes c ≡ Ok n → n ≤ 6348
table_size c n e =
    let a = accepted_is_allowed most_processes (omega arith) c n e in
    rw a.4 (numbers_most a.0 a.2)

-- ---- an inputs record: 2 + 1,365 * 32
pub inputs_size : (inputs : ℕ) (c : Code) (n : ℕ) → inputs_grammar inputs c ≡ Ok n → n ≤ 43682
inputs_size inputs c n e =
    let (r, is, fine, clean, count) = accepted_inputs_allowed inputs c n e in
    let size = input_numbers_length inputs r fine.readings in
    let most = mul-le-mul {n₁ = length r.readings} {m₁ = inputs} {n₂ = 1365} {m₂ = 32} fine.scans.1 fine.told in
    omega arith

-- ---- some table, and some inputs record, has so many
-- The same thing so many times.
each_same : {A : Type 0} (P : ℕ → A → Type 0) (x : A) → ((n : ℕ) → P n x) → (k n : ℕ) → Each P n (replicate k x)
unfolding Each
each_same P x h zero n = tt
each_same P x h (suc k) n = (h n, each_same P x h k (suc n))

-- A reset in every action; tests of the one internal variable; and 31 outputs whose source it is.
abbrev resets : List ActionRow
resets = replicate 16 (record { op = 5; x = 0; y = 0; guard = 0; next_if = 0; next_else = 0 })

abbrev longest : Table
longest =
    record {
      inputs = 0;
      internals = 1;
      sources = replicate 31 0;
      tests = replicate 32 (record { kind = 0; a = 0; b = 0 });
      processes = replicate 8 (replicate 8 resets);
    }

resets_allowed : (p s : ℕ) → StateAllowed longest p 8 s resets
resets_allowed p s = (
  (lit≤ tt, lit≤ tt),
  each_same (λ a r. ActionAllowed longest (record { process = p; states = 8; state = s; actions = 16 }) r) _
      (λ a. reset refl refl refl (record { guard = refl; taken = refl; other = refl })) 16 1,
)

states_allowed : (p : ℕ) → ProcessAllowed longest p (replicate 8 resets)
states_allowed p = (
  (lit≤ tt, lit≤ tt),
  each_same (λ s actions. StateAllowed longest p 8 s actions) resets (resets_allowed p) 8 1,
)

pub longest_table : (t : Table) × Allowed most_processes t × (length (numbers_of t) ≡ 6348)
unfolding numbers_of in_order state_numbers process_numbers
longest_table = (
  longest,
  record {
    total = lit≤ tt;
    sources = each_same (λ k v. IsInternal longest v) 0 (λ k. (lit≤ tt, lit≤ tt)) 31 0;
    test_count = lit≤ tt;
    tests = each_same (λ k r. TestAllowed longest r) _ (λ k. equals refl (lit≤ tt)) 32 0;
    process_count = (lit≤ tt, lit≤ tt);
    processes = each_same (λ p states. ProcessAllowed longest p states) (replicate 8 resets) states_allowed 8 1;
  },
  refl,
)

-- Scans of 32 readings each.
abbrev zero_scans : ℕ → List (List ℕ)
zero_scans k = replicate k (replicate 32 0)

scans_have : (k : ℕ) → EachHas 32 (zero_scans k)
unfolding EachHas
scans_have zero = tt
scans_have (suc k) = (length-replicate {A = ℕ} 32 0, scans_have k)

pub longest_inputs : (r : Inputs) × InputsAllowed 32 r × (length (input_numbers r) ≡ 43682)
longest_inputs =
    let r : Inputs = record { readings = zero_scans 1365; return = 0 } in (
      r,
      record { told = lit≤ tt; scans = (lit≤ tt, lit≤ tt); return = lit≤ tt; readings = scans_have 1365 },
      input_numbers_length 32 r (scans_have 1365),
    )
