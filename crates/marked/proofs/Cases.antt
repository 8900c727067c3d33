-- The marked cases hold of the definitions: one computed test over their list. Assumes nothing.
use Prim.Native.Nat.{ℕ}
use mathlib.Core.Path.{◌≡◌, refl, sym, ap, ◌∙◌}
use mathlib.Core.Bool.{Bool, true, false, So, not as neg, ◌&&◌, decide, false≢true}
use mathlib.Core.List.{List, [], ◌∷◌}
use lib.Dec.{eqb}
use borrow.Author.Tests.{eqb-true}
use Rattle.std.specs.Prelude.{Ok}
use Rattle.requirement.specs.declared.Phase.TheVariants.{Input}
use Rattle.requirement.specs.declared.One.TheVariants.{Not}
use Rattle.requirement.specs.declared.Two.TheVariants.{And}
use Rattle.requirement.specs.Requirement.{mark, one, two}
use Rattle.requirement.specs.Tags.{code_of}
use Rattle.coding.specs.Number.{bytes_of}
use Rattle.meaning.specs.Translation.{translate}
use Rattle.meaning.specs.Trace.{Trace, WellFormed, position}
use Rattle.meaning.specs.Rows.{judge, walk}
use Rattle.meaning.specs.Findings.{select}
use Rattle.marked.specs.Marked.{answered, bench, bench_bytes, one_input, one_input_bytes, marked, slips, one_input_cases}
use Rattle.marked.specs.Marked.{Case, holds, fails, finds, gives, bytes, StatedOn, Stated, All}
use Rattle.bits.specs.Bits.{bit_b}
use Rattle.lasso.specs.Bytes.{atom_at, atom_b}
use Rattle.lasso.specs.Checking.{check_trace, check_by, length_ok, may_follow, steps_from, output_from}
use Rattle.lasso.proofs.WellFormed.{accepted_is_well_formed}
use Rattle.meaning.proofs.Walk.{and_both}
use Rattle.meaning.proofs.Judged.{judged}
use Rattle.meaning.proofs.Found.{found}

-- Both traces are well-formed, by the check of their bytes.
bench_checked : check_trace bench_bytes 4 ≡ Ok 12
unfolding check_by length_ok may_follow steps_from output_from
bench_checked = refl

bench_well : WellFormed bench
bench_well = (accepted_is_well_formed bench_bytes 4 12 bench_checked).well_formed

one_input_checked : check_trace one_input_bytes 4 ≡ Ok 8
unfolding check_by length_ok may_follow steps_from output_from
one_input_checked = refl

one_input_well : WellFormed one_input
one_input_well = (accepted_is_well_formed one_input_bytes 4 8 one_input_checked).well_formed

same : List ℕ → List ℕ → Bool
same [] [] = true
same [] (y ∷ ys) = false
same (x ∷ xs) [] = false
same (x ∷ xs) (y ∷ ys) = eqb x y && same xs ys

same_is : (xs ys : List ℕ) → So (same xs ys) → xs ≡ ys
unfolding same
same_is [] [] h = refl
same_is [] (y ∷ ys) h = absurd (false≢true h)
same_is (x ∷ xs) [] h = absurd (false≢true h)
same_is (x ∷ xs) (y ∷ ys) h =
    let (p, q) = and_both (eqb x y) _ h in
    let e : x ≡ y = eqb-true x y p in
    let r : xs ≡ ys = same_is xs ys q in
    cc

-- Whether a case is so, computed by rows.
test : Trace → Case → Bool
test t (holds f n) = judge t f (position t n)
test t (fails f n) = neg (judge t f (position t n))
test t (finds f l) = same (select (judge t (two And (mark Input) (one Not f))) t.len 0) l
test t (gives f l) = same (code_of (translate f)) l
test t (bytes n l) = same (bytes_of n) l

tests : Trace → List Case → Bool
tests t [] = true
tests t (c ∷ cs) = test t c && tests t cs

module _ {t : Trace} (well : WellFormed t) where
  passed : (c : Case) → So (test t c) → StatedOn t c
  unfolding test
  passed (holds f n) h = ((judged well f).at n).1 h
  passed (fails f n) h = λ x. false≢true (sym (ap neg (((judged well f).at n).0 x)) ∙ h)
  passed (finds f l) h = rw (same_is _ l h) at (found well f)
  passed (gives f l) h = same_is _ l h
  passed (bytes n l) h = same_is _ l h

  all_passed : (cs : List Case) → So (tests t cs) → All (StatedOn t) cs
  unfolding tests
  all_passed [] h = tt
  all_passed (c ∷ cs) h = let (x, y) = and_both (test t c) _ h in (passed c x, all_passed cs y)

pub shown : All Stated marked
unfolding tests test select judge walk decide position same translate code_of bytes_of atom_at atom_b bit_b
shown = all_passed bench_well marked refl

pub slips_shown : All Stated slips
unfolding tests test select judge walk decide position same translate atom_at atom_b bit_b
slips_shown = all_passed bench_well slips refl

-- The verdict that the bench case prints.
pub verdict_shown : Stated (holds answered 0)
unfolding test judge walk decide position atom_at atom_b bit_b
verdict_shown = passed bench_well (holds answered 0) refl

pub one_input_shown : All (StatedOn one_input) one_input_cases
unfolding tests test select judge walk decide position same atom_at atom_b bit_b
one_input_shown = all_passed one_input_well one_input_cases refl
