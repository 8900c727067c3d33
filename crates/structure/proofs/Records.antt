-- The reader of inputs records accepts just the numbers of the records that are allowed, each of one record only.
-- Assumes nothing.
use Prim.Native.Nat.{ℕ, suc, ◌+◌, ◌-◌, ◌*◌, ◌≤◌, ◌<◌}
use native.Mathlib.Omega.{arith}
use mathlib.Core.Path.{◌≡◌, refl, sym, ap, ◌∙◌}
use mathlib.Core.Bool.{Bool, true, false}
use mathlib.Core.List.{List, [], ◌∷◌}
use lib.ListN.{length}
use lib.Dec.{ltb, leb, eqb}
use borrow.Author.Tests.{le-ltb, lt-leb, le-leb, ne_eqb, eq-eqb, ltb-false, leb-true, leb-false, eqb-true, eqb-false}
use Rattle.coding.specs.Refusal.{Answer, refused_at}
use Rattle.std.specs.Prelude.{Ok, Err}
use Rattle.coding.specs.Code.{Code, numbered, values}
use Rattle.coding.specs.declared.Cause.TheVariants.{NotAllowed}
use Rattle.coding.proofs.Trips.{Clean}
use Rattle.coding.proofs.Grammars.{numbered_is}
use Rattle.ranges.specs.Limits.{most_variables, most_scans}
use Rattle.ranges.specs.Values.{pick, within}
use Rattle.ranges.specs.Order.{allowed}
use Rattle.ranges.specs.declared.Want.TheVariants.{Scans, Return, Reading}
use Rattle.ranges.specs.declared.Step.TheVariants.{More, Last, NotAllowed as Bad}
use Rattle.table.specs.Table.{check, counts_from, inputs_grammar}
use Rattle.table.proofs.Fair.{fair_inputs}
use Rattle.lookups.specs.Recorded.{Inputs, input_numbers, EachHas}
use Rattle.lookups.proofs.Recorded.{all_read, all_read_length, chopped, chopping, one_record}
use Rattle.structure.specs.Allowed.{OneOf}
use Rattle.structure.specs.AllowedInputs.{InputsAllowed}
use Rattle.structure.proofs.Looks.{Ends, Ending, If, first, first_back}
use Rattle.structure.proofs.Parts.{through, past}
use Rattle.structure.proofs.Values.{range, in_range}

-- ---- the numbers that the machine takes for an inputs record: the scans, the return scan, and so many readings
-- what is taken where the scans are known, and from the beginning
record Returned (inputs scans : ℕ) (xs : List ℕ) : Type 0 where
  pub return : ℕ
  pub rest : List ℕ
  pub is : xs ≡ return ∷ rest
  pub below : return < scans
  pub size : length rest ≡ scans * inputs

record Scanned (inputs : ℕ) (xs : List ℕ) : Type 0 where
  pub scans : ℕ
  pub after : List ℕ
  pub is : xs ≡ scans ∷ after
  pub some : OneOf scans most_scans
  pub returned : Returned inputs scans after

module _ (final kept : List ℕ) where
  -- the readings: as many as are left
  reading_ends : (xs : List ℕ) (left : ℕ) → 1 ≤ left → Ends 0 final kept (Reading left) xs → length xs ≡ left
  reading_ends [] left some h = absurd h
  reading_ends (v ∷ xs) left some h = go (leb left 1) refl h (λ more g. reading_ends xs (left - 1) more g)
    where
      go : (t : Bool) → leb left 1 ≡ t → Ending 0 final kept kept xs (pick t Last (More (Reading (left - 1)))) →
          (1 ≤ left - 1 → Ends 0 final kept (Reading (left - 1)) xs → length xs ≡ left - 1) →
          suc (length xs) ≡ left
      go true e h ih = let one = leb-true left 1 e in rw h.0 (omega arith)
      go false e h ih =
          let more = leb-false left 1 e in
          let rest = ih (omega arith) h in
          omega arith

  ends_reading : kept ≡ final → (xs : List ℕ) (left : ℕ) → 1 ≤ left → length xs ≡ left →
      Ends 0 final kept (Reading left) xs
  ends_reading same [] left some e = absurd (omega arith)
  ends_reading same (v ∷ []) left some e = let one : left ≤ 1 = omega arith in rw (le-leb left 1 one) (refl, same)
  ends_reading same (v ∷ w ∷ xs) left some e =
      let more : 1 < left = omega arith in
      rw (lt-leb left 1 more) (ends_reading same (w ∷ xs) (left - 1) (omega arith) (omega arith))

  -- the return scan, and as many readings as scans times inputs
  return_ends : (inputs scans : ℕ) (xs : List ℕ) → Ends 0 final kept (Return inputs scans) xs → Returned inputs scans xs
  return_ends inputs scans [] h = absurd h
  return_ends inputs scans (v ∷ xs) h = go (leb scans v) refl (eqb (scans * inputs) 0) refl h
    where
      some : (k : ℕ) → (k ≡ 0 → ⊥) → 1 ≤ k
      some k h = omega arith

      go : (t : Bool) → leb scans v ≡ t → (z : Bool) → eqb (scans * inputs) 0 ≡ z →
          Ending 0 final kept kept xs (pick t Bad (pick z Last (More (Reading (scans * inputs))))) →
          Returned inputs scans (v ∷ xs)
      go true e z f h = absurd h
      go false e true f h =
          record {
            return = v;
            rest = xs;
            is = refl;
            below = leb-false scans v e;
            size = rw h.0 (sym (eqb-true (scans * inputs) 0 f));
          }
      go false e false f h =
          record {
            return = v;
            rest = xs;
            is = refl;
            below = leb-false scans v e;
            size = reading_ends xs (scans * inputs) (some (scans * inputs) (eqb-false _ 0 f)) h;
          }

  ends_return : kept ≡ final → (inputs scans return : ℕ) (rest : List ℕ) → return < scans →
      length rest ≡ scans * inputs → Ends 0 final kept (Return inputs scans) (return ∷ rest)
  ends_return same inputs scans return rest below size = rw (lt-leb scans return below) (go (scans * inputs) rest size)
    where
      go : (k : ℕ) (rest : List ℕ) → length rest ≡ k →
          Ending 0 final kept kept rest (pick (eqb k 0) Last (More (Reading k)))
      go k [] e = rw (eq-eqb k 0 (sym e)) (refl, same)
      go k (v ∷ rest) e =
          let some : k ≡ 0 → ⊥ = omega arith in
          rw (ne_eqb k 0 some) (ends_reading same (v ∷ rest) k (omega arith) e)

  -- the scans, and then these
  scans_ends : (inputs : ℕ) (xs : List ℕ) → Ends 0 final kept (Scans inputs) xs → Scanned inputs xs
  unfolding allowed
  scans_ends inputs [] h = absurd h
  scans_ends inputs (v ∷ xs) h =
      let t = through (Ending 0 final kept kept xs) (λ z. z) (within 1 v most_scans) (More (Return inputs v)) h in
      record {
        scans = v;
        after = xs;
        is = refl;
        some = range 1 v most_scans t.0;
        returned = return_ends inputs v xs t.1;
      }

  ends_scans : (inputs scans : ℕ) (xs : List ℕ) → OneOf scans most_scans → Ends 0 final kept (Return inputs scans) xs →
      Ends 0 final kept (Scans inputs) (scans ∷ xs)
  unfolding allowed
  ends_scans inputs scans xs some h =
      past (Ending 0 final kept kept xs) (within 1 scans most_scans) (More (Return inputs scans))
      (in_range 1 scans most_scans some) h

-- ---- the grammar
module _ (inputs : ℕ) where
  -- what is accepted is told at most 32 input variables, and is taken
  record Read (c : Code) : Type 0 where
    pub told : inputs ≤ most_variables
    pub taken : Scanned inputs (values c)

  read : (c : Code) (n : ℕ) → inputs_grammar inputs c ≡ Ok n → Read c
  unfolding inputs_grammar
  read c n e = go (ltb most_variables inputs) refl e
    where
      by_answer : (a : Answer) → If a (Ends 0 (counts_from 0 (Scans inputs) [] c) [] (Scans inputs) (values c)) →
          a ≡ Ok n → Scanned inputs (values c)
      by_answer (Ok m) h t = scans_ends (counts_from 0 (Scans inputs) [] c) [] inputs (values c) h
      by_answer (Err why) h t = let z : ◌≡◌ {A = ℕ} 0 1 = cc in absurd (omega arith)

      go : (t : Bool) → ltb most_variables inputs ≡ t →
          pick t (refused_at NotAllowed 0) (check 0 (Scans inputs) 0 c) ≡ Ok n → Read c
      go true q e = let z : ◌≡◌ {A = ℕ} 0 1 = cc in absurd (omega arith)
      go false q e =
          record {
            told = ltb-false most_variables inputs q;
            taken = by_answer (check 0 (Scans inputs) 0 c) (first 0 c (Scans inputs) 0 []) e;
          }

  -- ---- the theorems
  -- What is accepted is the numbers of an inputs record that is allowed, as many as were counted.
  pub accepted_inputs_allowed : (c : Code) (n : ℕ) → inputs_grammar inputs c ≡ Ok n →
      (r : Inputs) × (values c ≡ input_numbers r) × InputsAllowed inputs r × Clean c × (n ≡ length (input_numbers r))
  unfolding input_numbers
  accepted_inputs_allowed c n e =
      let h = read c n e in
      let t = h.taken in
      let b = t.returned in
      let k = chopping t.scans inputs b.rest b.size in
      let r : Inputs = record { readings = chopped t.scans inputs b.rest; return = b.return } in
      let same : values c ≡ input_numbers r =
      t.is ∙ rw (k.as_many, k.same) (ap (λ (l : List ℕ). t.scans ∷ l) b.is) in
      let fine : InputsAllowed inputs r =
      record {
        told = h.told;
        scans = rw k.as_many t.some;
        return = rw k.as_many b.below;
        readings = k.each;
      } in
      (r, same, fine, (fair_inputs inputs).clean c n e, (fair_inputs inputs).counts c n e ∙ ap length same)

  -- The numbers of an inputs record that is allowed are accepted, wherever they stand.
  pub allowed_inputs_accepted : (c : Code) (r : Inputs) → InputsAllowed inputs r → values c ≡ input_numbers r → Clean c →
      inputs_grammar inputs c ≡ Ok (length (input_numbers r))
  unfolding inputs_grammar input_numbers
  allowed_inputs_accepted c r h e l =
      let q = length r.readings in
      let all = all_read r.readings in
      let size = all_read_length inputs r.readings h.readings in
      let returned = ends_return [] [] refl inputs q r.return all h.return size in
      let ends = ends_scans [] [] inputs q (r.return ∷ all) h.scans returned in
      let f = first_back 0 [] c (Scans inputs) 0 [] l (rw e ends) in
      let zero_on : 0 + length (values c) ≡ length (values c) = omega arith in
      rw (le-ltb most_variables inputs h.told) (f.0 ∙ ap Ok (zero_on ∙ ap length e))

  -- So are they as the writer is handed them.
  pub inputs_accepted : (r : Inputs) → InputsAllowed inputs r →
      inputs_grammar inputs (numbered 0 (input_numbers r)) ≡ Ok (length (input_numbers r))
  inputs_accepted r h =
      let n = numbered_is 0 (input_numbers r) in
      allowed_inputs_accepted (numbered 0 (input_numbers r)) r h n.0 n.1

  -- An accepted code is the code of exactly one record that has so many readings in each scan, and that is allowed.
  pub exactly_one_record : (c : Code) (n : ℕ) → inputs_grammar inputs c ≡ Ok n →
      (r : Inputs) × (values c ≡ input_numbers r) × InputsAllowed inputs r
      × ((u : Inputs) → EachHas inputs u.readings → values c ≡ input_numbers u → u ≡ r)
  exactly_one_record c n e =
      let a = accepted_inputs_allowed c n e in
      (a.0, a.1, a.2, λ u f h. one_record inputs u a.0 f a.2.readings (sym h ∙ a.1))
