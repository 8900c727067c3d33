-- The look-ups find what an inputs record is made up of, and its numbers tell what it is made up of.
-- Assumes nothing.
use Prim.Native.Nat.{ℕ, zero, suc, ◌+◌, ◌*◌, ◌<◌}
use native.Mathlib.Omega.{arith}
use native.Mathlib.Nat.{suc-mul, mul-suc}
use mathlib.Core.Path.{◌≡◌, refl, sym, ap, ◌∙◌}
use mathlib.Core.List.{List, [], ◌∷◌}
use lib.ListN.{length, get_or, take, drop, length-append, length-drop, get_or-append, take-append-drop}
use lib.Seq.{get_or-append-add, take-append_seam, drop-append_seam, length-take-le}
use Rattle.lookups.specs.Places.{scans_of, return_of, reading_of}
use Rattle.lookups.specs.Structure.{in_order}
use Rattle.lookups.specs.Recorded.{Inputs, input_numbers, EachHas}

-- The readings one after another.
abbrev pub all_read : List (List ℕ) → List ℕ
all_read scans = in_order (λ (scan : List ℕ). scan) scans

-- There are so many of them: as many as scans, times the inputs.
pub all_read_length : (inputs : ℕ) (scans : List (List ℕ)) → EachHas inputs scans →
    length (all_read scans) ≡ length scans * inputs
unfolding in_order EachHas
all_read_length inputs [] h = omega arith
all_read_length inputs (scan ∷ scans) h =
    let e = h.0 in
    let rest = all_read_length inputs scans h.1 in
    length-append scan (all_read scans) ∙ omega (arith, suc-mul (length scans) inputs)

pub input_numbers_length : (inputs : ℕ) (r : Inputs) → EachHas inputs r.readings →
    length (input_numbers r) ≡ 2 + length r.readings * inputs
unfolding input_numbers
input_numbers_length inputs r h = let e = all_read_length inputs r.readings h in omega arith

-- Reading k of a scan stands so many scans on, and k readings more.
all_read_at : (inputs : ℕ) (scans : List (List ℕ)) (done k : ℕ) → EachHas inputs scans → done < length scans →
    k < inputs → get_or (all_read scans) (inputs * done + k) 0 ≡ get_or (get_or scans done []) k 0
unfolding in_order EachHas
all_read_at inputs [] done k h l m = absurd (omega arith)
all_read_at inputs (scan ∷ scans) zero k h l m =
    let e : inputs * 0 + k ≡ k = omega arith in
    let size = h.0 in
    rw e (get_or-append scan (all_read scans) 0 k (omega arith))
all_read_at inputs (scan ∷ scans) (suc done) k h l m =
    let e : inputs * suc done + k ≡ length scan + (inputs * done + k) = omega (arith, mul-suc inputs done, h.0) in
    let rest = all_read_at inputs scans done k h.1 (omega arith) m in
    rw e (get_or-append-add scan (all_read scans) (inputs * done + k) 0 ∙ rest)

-- Each look-up in the numbers of an inputs record finds what the record has there.
pub record Recorded (inputs : ℕ) (r : Inputs) : Type 0 where
  pub scans : scans_of (input_numbers r) ≡ length r.readings
  pub return : return_of (input_numbers r) ≡ r.return
  pub reading : (done k : ℕ) → done < length r.readings → k < inputs →
      reading_of (input_numbers r) inputs done k ≡ get_or (get_or r.readings done []) k 0

pub recorded : (inputs : ℕ) (r : Inputs) → EachHas inputs r.readings → Recorded inputs r
unfolding input_numbers reading_of
recorded inputs r h =
    record {
      scans = refl;
      return = refl;
      reading = λ done k l m.
          let e : 2 + inputs * done + k ≡ suc (suc (inputs * done + k)) = omega arith in
          rw e (all_read_at inputs r.readings done k h l m);
    }

-- ---- any numbers, so many times so many, are the readings of so many scans
abbrev pub chopped : ℕ → ℕ → List ℕ → List (List ℕ)
chopped zero inputs xs = []
chopped (suc scans) inputs xs = take inputs xs ∷ chopped scans inputs (drop inputs xs)

pub record Chopped (scans inputs : ℕ) (xs : List ℕ) : Type 0 where
  pub as_many : length (chopped scans inputs xs) ≡ scans
  pub each : EachHas inputs (chopped scans inputs xs)
  pub same : all_read (chopped scans inputs xs) ≡ xs

pub chopping : (scans inputs : ℕ) (xs : List ℕ) → length xs ≡ scans * inputs → Chopped scans inputs xs
unfolding in_order EachHas
chopping zero inputs [] e = record { as_many = refl; each = tt; same = refl }
chopping zero inputs (x ∷ xs) e = absurd (omega arith)
chopping (suc scans) inputs xs e =
    let size : length xs ≡ scans * inputs + inputs = e ∙ suc-mul scans inputs in
    let rest : length (drop inputs xs) ≡ scans * inputs = simp length-drop (omega arith) in
    let c = chopping scans inputs (drop inputs xs) rest in
    record {
      as_many = ap suc c.as_many;
      each = (length-take-le inputs xs (omega arith), c.each);
      same = rw c.same (take-append-drop inputs xs);
    }

-- ---- the numbers of an inputs record fix the record, where it is known how many inputs there are
same_scans : (inputs : ℕ) (scans others : List (List ℕ)) → EachHas inputs scans → EachHas inputs others →
    length scans ≡ length others → all_read scans ≡ all_read others → scans ≡ others
unfolding in_order EachHas
same_scans inputs [] [] h g l e = refl
same_scans inputs [] (other ∷ others) h g l e = absurd (omega arith)
same_scans inputs (scan ∷ scans) [] h g l e = absurd (omega arith)
same_scans inputs (scan ∷ scans) (other ∷ others) h g l e =
    let size : length scan ≡ length other = h.0 ∙ sym g.0 in
    let one : scan ≡ other = sym (take-append_seam scan (all_read scans)) ∙ rw (size, e) (take-append_seam other (all_read others)) in
    let rest : all_read scans ≡ all_read others =
    sym (drop-append_seam scan (all_read scans)) ∙ rw (size, e) (drop-append_seam other (all_read others)) in
    rw (one, same_scans inputs scans others h.1 g.1 (omega arith) rest)

pub one_record : (inputs : ℕ) (r u : Inputs) → EachHas inputs r.readings → EachHas inputs u.readings →
    input_numbers r ≡ input_numbers u → r ≡ u
unfolding input_numbers
one_record inputs r u h g e =
    let same = same_scans inputs r.readings u.readings h g (ap scans_of e) (ap (λ (I : List ℕ). drop 2 I) e) in
    λ i. record { readings = same i; return = ap return_of e i }
