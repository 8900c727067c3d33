-- Bytes are accepted as a table, or as an inputs record, exactly if they are the bytes of one that is allowed and whose
-- numbers are all of the coding; and they are the bytes of one only.
-- Assumes nothing.
use Prim.Native.Nat.{ℕ, zero, suc, ◌+◌, ◌/◌, ◌%◌, ◌≤◌, ◌<◌}
use native.Mathlib.Omega.{arith}
use mathlib.Core.Path.{◌≡◌, refl, sym, ap, ◌∙◌}
use mathlib.Core.Logic.{◌↔◌, ⊎_elim}
use mathlib.Core.Bool.{Bool, true, false}
use mathlib.Core.List.{List, [], ◌∷◌, ◌++◌}
use lib.ListN.{length, get_or, drop}
use lib.Seq.{drop-append_seam, drop-drop}
use lib.Dec.{ltb, lit<}
use borrow.Author.Tests.{lt-ltb, le-ltb, ne_eqb, ltb-true, ltb-false}
use Rattle.coding.specs.Refusal.{Answer, value_then, refused_at}
use Rattle.std.specs.Prelude.{Ok}
use Rattle.coding.specs.Number.{bytes_of, first, none, number_at}
use Rattle.coding.specs.Code.{Code, code_at, values, bytes_of_all}
use Rattle.coding.specs.declared.Cause.TheVariants.{TooLarge}
use Rattle.coding.proofs.Bytes.{bytes₃}
use Rattle.coding.proofs.Trip.{read_written}
use Rattle.coding.specs.Working.Rows.{Row, row}
use Rattle.coding.proofs.Trips.{Clean, read_back, write_back}
use Rattle.table.specs.Table.{table_grammar, inputs_grammar}
use Rattle.lookups.specs.Structure.{Table, numbers_of}
use Rattle.lookups.specs.Recorded.{Inputs, input_numbers, EachHas}
use Rattle.lookups.proofs.Structured.{one_structure}
use Rattle.lookups.proofs.Recorded.{one_record}
use Rattle.structure.specs.Allowed.{Allowed}
use Rattle.structure.specs.AllowedInputs.{InputsAllowed}
use Rattle.structure.specs.ByBytes.{OfCoding, Encodes, IsTable, IsInputs}
use Rattle.structure.proofs.Whole.{accepted_is_allowed, allowed_is_accepted}
use Rattle.structure.proofs.Records.{accepted_inputs_allowed, allowed_inputs_accepted}

-- ---- numbers whose bytes are read without a fault are of the coding
none_coded : OfCoding []
none_coded i = lit< tt

one_more_coded : (v : ℕ) (xs : List ℕ) → v < 65536 → OfCoding xs → OfCoding (v ∷ xs)
one_more_coded v xs h rest zero = h
one_more_coded v xs h rest (suc i) = rest i

-- "a third byte above 03 is too large": such is the third byte of a larger number.
too_large : (v : ℕ) (rest : List ℕ) → 65536 ≤ v → first (bytes_of v ++ rest) ≡ none TooLarge
too_large v rest large =
    let three : 16384 ≤ v = omega arith in
    let hi : 128 ≤ v % 128 + 128 = omega arith in
    let hi₁ : 128 ≤ v / 128 % 128 + 128 = omega arith in
    let n₁ : v / 128 % 128 + 128 ≡ 0 → ⊥ = omega arith in
    let n₂ : v / 16384 ≡ 0 → ⊥ = omega arith in
    let above : 3 < v / 16384 = omega arith in
    rw (bytes₃ v three, le-ltb _ _ hi, ne_eqb _ _ n₁, le-ltb _ _ hi₁, ne_eqb _ _ n₂, lt-ltb _ _ above)

-- The bytes of a number stand at a place of s, and a rest behind them.
module _ (s : List ℕ) (p v : ℕ) (rest : List ℕ) (e : drop p s ≡ bytes_of v ++ rest) where
  small_there : v < 65536 → number_at s p ≡ value_then v (p + length (bytes_of v))
  unfolding number_at
  small_there h = rw (e, read_written v rest h)

  large_there : 65536 ≤ v → number_at s p ≡ refused_at TooLarge p
  unfolding number_at
  large_there h = rw (e, too_large v rest h)

  behind_it : drop (p + length (bytes_of v)) s ≡ rest
  behind_it = sym (drop-drop (length (bytes_of v)) p s) ∙ rw e (drop-append_seam (bytes_of v) rest)

  -- Where the code has no fault from there on, the number is of the coding, and the code goes on behind its bytes.
  no_fault : Clean (code_at s p) → (v < 65536) × Clean (code_at s (p + length (bytes_of v)))
  no_fault clean = go (ltb v 65536) refl
    where
      go : (t : Bool) → ltb v 65536 ≡ t → (v < 65536) × Clean (code_at s (p + length (bytes_of v)))
      go true q =
          let small = ltb-true v 65536 q in
          let r : Row s p (value_then v (p + length (bytes_of v))) = rw (small_there small) at (row s p) in
          (small, rw r.0 at clean)
      go false q =
          let r : Row s p (refused_at TooLarge p) = rw (large_there (ltb-false v 65536 q)) at (row s p) in
          absurd (⊎_elim (λ o. let z : ◌≡◌ {A = ℕ} 0 1 = cc in omega arith) (λ o. rw o.1 at clean) r.1)

-- So for all the numbers whose bytes stand there, and for a code that is nothing else.
coded_from : (s xs : List ℕ) (p : ℕ) → drop p s ≡ bytes_of_all xs → Clean (code_at s p) → OfCoding xs
coded_from s [] p e clean = none_coded
coded_from s (v ∷ vs) p e clean =
    let n = no_fault s p v (bytes_of_all vs) e clean in
    let rest = coded_from s vs (p + length (bytes_of v)) (behind_it s p v (bytes_of_all vs) e) n.1 in
    one_more_coded v vs n.0 rest

clean_is_coded : (xs : List ℕ) → Clean (code_at (bytes_of_all xs) 0) → OfCoding xs
clean_is_coded xs clean = coded_from (bytes_of_all xs) xs 0 refl clean

-- The bytes of numbers of the coding are the bytes of no others, of the coding or not.
pub same_numbers : (xs ys : List ℕ) → OfCoding xs → bytes_of_all xs ≡ bytes_of_all ys → xs ≡ ys
same_numbers xs ys coded e =
    let x = read_back xs coded in
    let y = read_back ys (clean_is_coded ys (rw e at x.1)) in
    sym x.0 ∙ ap (λ (s : List ℕ). values (code_at s 0)) e ∙ y.0

-- ---- from numbers to bytes, said once for tables and for inputs records
-- What has the bytes of something that is encoded has its numbers too.
same_encoded : {A : Type 0} {numbers : A → List ℕ} {IsAllowed : A → Type 0} {s : List ℕ}
    (e : Encodes numbers IsAllowed s) (y : A) → s ≡ bytes_of_all (numbers y) → numbers y ≡ numbers e.thing
same_encoded {numbers = numbers} e y b =
    sym (same_numbers (numbers e.thing) (numbers y) e.of_coding (sym e.bytes ∙ b))

-- The grammar accepts the numbers of what is allowed, and nothing else; and it counts them.
record Just {A : Type 0} (numbers : A → List ℕ) (IsAllowed : A → Type 0) (grammar : Code → Answer) : Type 0 where
  pub only : (c : Code) (n : ℕ) → grammar c ≡ Ok n →
      (x : A) × (values c ≡ numbers x) × IsAllowed x × Clean c × (n ≡ length (numbers x))
  pub all : (c : Code) (x : A) → IsAllowed x → values c ≡ numbers x → Clean c → grammar c ≡ Ok (length (numbers x))

module _ {A : Type 0} {numbers : A → List ℕ} {IsAllowed : A → Type 0} {grammar : Code → Answer}
    (just : Just numbers IsAllowed grammar) where
  -- The bytes are accepted: they read as the numbers they were made of.
  bytes_accepted : (x : A) → IsAllowed x → OfCoding (numbers x) →
      grammar (code_at (bytes_of_all (numbers x)) 0) ≡ Ok (length (numbers x))
  bytes_accepted x a coded =
      let r = read_back (numbers x) coded in
      just.all (code_at (bytes_of_all (numbers x)) 0) x a r.0 r.1

  module _ (s : List ℕ) (small : (i : ℕ) → get_or s i 0 < 256) where
    -- What is accepted are such bytes: the bytes of the numbers that were read.
    encoded : (n : ℕ) → grammar (code_at s 0) ≡ Ok n →
        (e : Encodes numbers IsAllowed s) × (n ≡ length (numbers e.thing))
    encoded n h =
        let (x, is, a, clean, count) = just.only (code_at s 0) n h in
        let bytes : s ≡ bytes_of_all (numbers x) = sym (write_back s small clean) ∙ ap bytes_of_all is in
        let coded = clean_is_coded (numbers x) (rw bytes at clean) in
        (record { thing = x; allowed = a; of_coding = coded; bytes = bytes }, count)

    accepted_encodes : ((n : ℕ) × (grammar (code_at s 0) ≡ Ok n)) ↔ Encodes numbers IsAllowed s
    accepted_encodes = (
      λ (n, h). (encoded n h).0,
      λ e. rw e.bytes (_, bytes_accepted e.thing e.allowed e.of_coding),
    )

-- ---- the theorems of a table
module _ (most : ℕ) (few : most ≤ 64) where
  just_tables : Just numbers_of (Allowed most) (table_grammar most)
  just_tables = record { only = accepted_is_allowed most few; all = allowed_is_accepted most few }

  -- The bytes of a table that is allowed, and whose numbers are of the coding, are accepted, and its numbers counted.
  pub table_bytes_accepted : (t : Table) → Allowed most t → OfCoding (numbers_of t) →
      table_grammar most (code_at (bytes_of_all (numbers_of t)) 0) ≡ Ok (length (numbers_of t))
  table_bytes_accepted = bytes_accepted just_tables

  module _ (s : List ℕ) (small : (i : ℕ) → get_or s i 0 < 256) where
    -- Bytes are accepted as a table exactly if they are the bytes of such a table.
    pub accepted_is_table : ((n : ℕ) × (table_grammar most (code_at s 0) ≡ Ok n)) ↔ IsTable most s
    accepted_is_table = accepted_encodes just_tables s small

    -- They are then the bytes of one table only, whether another is allowed or not; and its numbers are counted.
    pub exactly_one_table : (n : ℕ) → table_grammar most (code_at s 0) ≡ Ok n →
        (e : IsTable most s) × (n ≡ length (numbers_of e.thing))
        × ((u : Table) → s ≡ bytes_of_all (numbers_of u) → u ≡ e.thing)
    exactly_one_table n h =
        let (e, count) = encoded just_tables s small n h in
        (e, count, λ u b. one_structure u e.thing (same_encoded e u b))

-- ---- and of an inputs record
module _ (inputs : ℕ) where
  just_records : Just input_numbers (InputsAllowed inputs) (inputs_grammar inputs)
  just_records = record { only = accepted_inputs_allowed inputs; all = allowed_inputs_accepted inputs }

  -- The bytes of an inputs record that is allowed, and whose numbers are of the coding, are accepted.
  pub inputs_bytes_accepted : (r : Inputs) → InputsAllowed inputs r → OfCoding (input_numbers r) →
      inputs_grammar inputs (code_at (bytes_of_all (input_numbers r)) 0) ≡ Ok (length (input_numbers r))
  inputs_bytes_accepted = bytes_accepted just_records

  module _ (s : List ℕ) (small : (i : ℕ) → get_or s i 0 < 256) where
    -- Bytes are accepted as an inputs record exactly if they are the bytes of such a record.
    pub accepted_is_inputs : ((n : ℕ) × (inputs_grammar inputs (code_at s 0) ≡ Ok n)) ↔ IsInputs inputs s
    accepted_is_inputs = accepted_encodes just_records s small

    -- They are then the bytes of one record only, where it is known how many readings each scan has.
    pub exactly_one_inputs : (n : ℕ) → inputs_grammar inputs (code_at s 0) ≡ Ok n →
        (e : IsInputs inputs s) × (n ≡ length (input_numbers e.thing))
        × ((u : Inputs) → EachHas inputs u.readings → s ≡ bytes_of_all (input_numbers u) → u ≡ e.thing)
    exactly_one_inputs n h =
        let (e, count) = encoded just_records s small n h in
        (e, count, λ u has b. one_record inputs u e.thing has e.allowed.readings (same_encoded e u b))
