-- The parts of a table in front of its processes, the sources and the tests, as both looks take them; and the whole table.
-- Assumes nothing.
use Prim.Native.Nat.{ℕ, zero, suc, ◌-◌, ◌<◌}
use mathlib.Core.Path.{◌≡◌, refl, ap}
use mathlib.Core.Bool.{Bool, true, false}
use mathlib.Core.List.{List, [], ◌∷◌}
use native.Mathlib.Omega.{arith}
use lib.ListN.{length, get_or}
use lib.Dec.{leb, eqb}
use borrow.Author.Tests.{lt-leb, ne_eqb}
use Rattle.ranges.specs.Limits.{most_tests}
use Rattle.ranges.specs.Values.{pick, within, total_ok, is_internal, test_a_ok}
use Rattle.ranges.specs.Order.{allowed, at_sources, after_source, at_tests, after_test, of_variables, with_tests, step_of}
use Rattle.ranges.specs.declared.Shape.{Shape}
use Rattle.ranges.specs.declared.Want.{Want}
use Rattle.ranges.specs.declared.Want.TheVariants.{Inputs, Internals, Outputs, Source, Tests, Kind, TestA, TestB, Processes}
use Rattle.ranges.specs.declared.Step.TheVariants.{More}
use Rattle.table.specs.declared.tests.Ruling.TheVariants.{Fine}
use Rattle.table.specs.Table.{role_of, noted, test_says, fine_if, state_ok, no_counts}
use Rattle.lookups.specs.declared.TestRow.{TestRow}
use Rattle.lookups.specs.Structure.{Table, test_numbers, in_order, numbers_of}
use Rattle.structure.specs.Allowed.{Each}
use Rattle.structure.proofs.Takes.{Takes, number, and_then, recast, One, many, single, counted, counted_numbers}
use Rattle.structure.proofs.Looks.{Ends, Unless, Passes, Passing}
use Rattle.structure.proofs.Parts.{ProcessesPass, counts_of, processes, through, past}

-- What the two looks ask of the three numbers of a test.
pub record TestPasses (sh : Shape) (counts : List ℕ) (r : TestRow) : Type 0 where
  pub kind : within 0 r.kind 2 ≡ true
  pub a : test_a_ok sh r.kind r.a ≡ true
  pub process : pick (eqb r.kind 2) (within 1 r.a (get_or counts 0 0)) true ≡ true
  pub state : pick (eqb r.kind 2) (state_ok (get_or counts r.a 0) r.b) true ≡ true

-- ---- a number that both looks are passed by
looked : (fine behind : Type 0) (ok : Bool) → Unless fine behind (fine_if ok) → (ok ≡ true) × fine
looked fine behind true h = (refl, h)
looked fine behind false h = absurd h

fine_if_lem : (second ok : Bool) → pick second (fine_if ok) Fine ≡ fine_if (pick second ok true)
fine_if_lem true ok = refl
fine_if_lem false ok = refl

module _ (most : ℕ) (final : List ℕ) where
  passes_number : (w : Want) (fine ok : ℕ → Bool) (next : ℕ → Want) → ((v : ℕ) → test_says final (role_of w) v ≡ fine_if (fine v)) →
      ((v : ℕ) → step_of most w v ≡ allowed (ok v) (next v)) →
      Takes number (λ (v : ℕ). (fine v ≡ true) × (ok v ≡ true)) (Passes most final no_counts w) (λ (v : ℕ). Passes most final (noted (role_of w) v no_counts) (next v))
  unfolding allowed
  passes_number w fine ok next f e =
      single (λ h. h)
      (λ v rest o h. rw (f v, o.0, e v) (past (Passing most final (noted (role_of w) v no_counts) no_counts rest) (ok v) (More (next v)) o.1 h))
      (λ v rest h.
      let l = looked (Passing most final (noted (role_of w) v no_counts) no_counts rest (step_of most w v)) (Ends most final no_counts w (v ∷ rest)) (fine v) (rw (f v) at h) in
      let t = through (Passing most final (noted (role_of w) v no_counts) no_counts rest) (λ z. z) (ok v) (More (next v)) (rw (e v) at l.1) in
      ((l.0, t.0), t.1))

  -- one that is nothing to the second look
  plain_number : (w : Want) (ok : ℕ → Bool) (next : ℕ → Want) → ((v : ℕ) → test_says final (role_of w) v ≡ Fine) →
      ((v : ℕ) → step_of most w v ≡ allowed (ok v) (next v)) →
      Takes number (λ (v : ℕ). ok v ≡ true) (Passes most final no_counts w) (λ (v : ℕ). Passes most final (noted (role_of w) v no_counts) (next v))
  plain_number w ok next f e =
      recast (passes_number w (λ v. true) ok next f e)
      (λ v. v) (λ v. v) (λ v. refl) (λ v. refl) (λ v o. o.1) (λ v o. (refl, o)) (λ v rest h. h) (λ v rest h. h)

  -- ---- things that are counted down: `next` is wanted where some are left, and `done` after the last
  module _ {A : Type 0} {f : A → List ℕ} {Ok : A → Type 0} (done : Want) (next : ℕ → Want)
      (one : (left : ℕ) → Takes f Ok (Passes most final no_counts (next left)) (λ (x : A). Passes most final no_counts (pick (leb left 1) done (next (left - 1))))) where
    one_of : (n : ℕ) → One f (λ (k : ℕ) (x : A). Ok x) (λ (k : ℕ) (x : A) (u : Unit {0}). u)
        (λ (k left : ℕ) (u : Unit {0}). Passes most final no_counts (next (suc left))) (λ (u : Unit {0}). Passes most final no_counts done) n
    one_of n =
        record {
          last = λ k u e. one 1;
          another = λ k left u e.
              let h : 1 < suc (suc left) = omega arith in
              let z : suc (suc left) - 1 ≡ suc left = omega arith in
              rw (lt-leb (suc (suc left)) 1 h, z) at (one (suc (suc left)));
        }

    counted_down : (v : ℕ) →
        Takes (in_order f) (λ (l : List A). (length l ≡ v) × Each (λ (k : ℕ) (x : A). Ok x) 0 l)
        (Passes most final no_counts (pick (eqb v 0) done (next v))) (λ (l : List A). Passes most final no_counts done)
    counted_down zero = many (one_of 0) 0 0 tt refl
    counted_down (suc n) =
        let h : suc n ≡ 0 → ⊥ = omega arith in
        rw (ne_eqb (suc n) 0 h) (many (one_of (suc n)) (suc n) 0 tt (omega arith))

  -- ---- a test
  test : (sh : Shape) (left : ℕ) →
      Takes test_numbers (TestPasses sh final) (Passes most final no_counts (Kind sh left)) (λ (r : TestRow). Passes most final no_counts (after_test sh left))
  unfolding allowed
  test sh left =
      recast
      (and_then (plain_number (Kind sh left) (λ v. within 0 v 2) (λ v. TestA sh left v) (λ v. refl) (λ v. refl))
      (λ kind. and_then
      (passes_number (TestA sh left kind) (λ v. pick (eqb kind 2) (within 1 v (get_or final 0 0)) true) (test_a_ok sh kind) (λ v. TestB sh left kind v)
      (λ v. fine_if_lem (eqb kind 2) (within 1 v (get_or final 0 0))) (λ v. refl))
      (λ a.
      passes_number (TestB sh left kind a) (λ v. pick (eqb kind 2) (state_ok (get_or final a 0) v) true) (λ v. true) (λ v. after_test sh left)
      (λ v. fine_if_lem (eqb kind 2) (state_ok (get_or final a 0) v)) (λ v. refl))))
      (λ p. record { kind = p.0; a = p.1.0; b = p.1.1 })
      (λ r. (r.kind, (r.a, r.b)))
      (λ p. refl) (λ r. refl)
      (λ p o. record { kind = o.0; a = o.1.0.1; process = o.1.0.0; state = o.1.1.0 })
      (λ r o. (o.kind, ((o.process, o.a), (o.state, refl))))
      (λ p rest h. h) (λ r rest h. h)

  tests : (sh : Shape) →
      Takes (counted_numbers test_numbers)
      (λ (l : List TestRow). (within 0 (length l) most_tests ≡ true) × Each (λ (k : ℕ) (r : TestRow). TestPasses (with_tests sh (length l)) final r) 0 l)
      (Passes most final no_counts (Tests sh)) (λ (l : List TestRow). Passes most final no_counts (Processes (with_tests sh (length l))))
  unfolding at_tests after_test
  tests sh =
      counted test_numbers (λ (n k : ℕ) (r : TestRow). TestPasses (with_tests sh n) final r) 0
      (λ (n : ℕ) (l : List TestRow). Passes most final no_counts (Processes (with_tests sh n)))
      (plain_number (Tests sh) (λ v. within 0 v most_tests) (λ v. at_tests (with_tests sh v)) (λ v. refl) (λ v. refl))
      (λ v few. counted_down (Processes (with_tests sh v)) (Kind (with_tests sh v)) (test (with_tests sh v)) v)

  -- ---- the sources
  sources : (i m : ℕ) →
      Takes (counted_numbers number)
      (λ (l : List ℕ). (total_ok i m (length l) ≡ true) × Each (λ (k x : ℕ). is_internal (of_variables i m (length l)) x ≡ true) 0 l)
      (Passes most final no_counts (Outputs i m)) (λ (l : List ℕ). Passes most final no_counts (Tests (of_variables i m (length l))))
  unfolding at_sources after_source
  sources i m =
      counted number (λ (n k x : ℕ). is_internal (of_variables i m n) x ≡ true) 0
      (λ (n : ℕ) (l : List ℕ). Passes most final no_counts (Tests (of_variables i m n)))
      (plain_number (Outputs i m) (total_ok i m) (λ v. at_sources (of_variables i m v)) (λ v. refl) (λ v. refl))
      (λ v few.
      let sh = of_variables i m v in
      counted_down (Tests sh) (Source sh)
      (λ left. plain_number (Source sh left) (is_internal sh) (λ x. after_source sh left) (λ x. refl) (λ x. refl)) v)

-- ---- the whole table
-- The shapes that a table has while it is read.
abbrev pub variables_of : Table → Shape
variables_of t = of_variables t.inputs t.internals (length t.sources)

abbrev pub tested_of : Table → Shape
tested_of t = with_tests (variables_of t) (length t.tests)

pub record TablePasses (most : ℕ) (counts : List ℕ) (t : Table) : Type 0 where
  pub inputs : total_ok 0 0 t.inputs ≡ true
  pub internals : total_ok t.inputs 0 t.internals ≡ true
  pub outputs : total_ok t.inputs t.internals (length t.sources) ≡ true
  pub sources : Each (λ (k v : ℕ). is_internal (variables_of t) v ≡ true) 0 t.sources
  pub test_count : within 0 (length t.tests) most_tests ≡ true
  pub tests : Each (λ (k : ℕ) (r : TestRow). TestPasses (tested_of t) counts r) 0 t.tests
  pub processes : ProcessesPass most (tested_of t) t.processes

numbers_are : (l : List ℕ) → in_order number l ≡ l
unfolding in_order
numbers_are [] = refl
numbers_are (v ∷ l) = ap (◌∷◌ v) (numbers_are l)

pub table : (most : ℕ) (final : List ℕ) →
    Takes numbers_of (TablePasses most final) (Passes most final no_counts Inputs) (λ (t : Table) (xs : List ℕ). (xs ≡ []) × (counts_of t.processes ≡ final))
unfolding numbers_of
table most final =
    recast
    (and_then (plain_number most final Inputs (total_ok 0 0) Internals (λ v. refl) (λ v. refl))
    (λ i. and_then (plain_number most final (Internals i) (total_ok i 0) (Outputs i) (λ v. refl) (λ v. refl))
    (λ m. and_then (sources most final i m)
    (λ ss. and_then (tests most final (of_variables i m (length ss)))
    (λ ts. processes most final (with_tests (of_variables i m (length ss)) (length ts)))))))
    (λ p. record { inputs = p.0; internals = p.1.0; sources = p.1.1.0; tests = p.1.1.1.0; processes = p.1.1.1.1 })
    (λ t. (t.inputs, (t.internals, (t.sources, (t.tests, t.processes)))))
    (λ p. rw (numbers_are p.1.1.0)) (λ t. rw (numbers_are t.sources))
    (λ p o. record {
      inputs = o.0;
      internals = o.1.0;
      outputs = o.1.1.0.0;
      sources = o.1.1.0.1;
      test_count = o.1.1.1.0.0;
      tests = o.1.1.1.0.1;
      processes = o.1.1.1.1;
    })
    (λ t o. (o.inputs, (o.internals, ((o.outputs, o.sources), ((o.test_count, o.tests), o.processes)))))
    (λ p rest h. h) (λ t rest h. h)
