-- A verdict and findings that are right of the trace of a run are right of the endless run of the rules.
-- Assumes nothing.
use Prim.Native.Nat.{ℕ, ◌<◌}
use native.Mathlib.Omega.{arith}
use mathlib.Core.Path.{◌≡◌, sym, ap, ◌∙◌}
use mathlib.Core.Logic.{◌↔◌}
use mathlib.Core.Bool.{Bool, true}
use mathlib.Core.List.{List}
use Rattle.run.specs.Running.{closes_at}
use Rattle.requirement.specs.declared.Phase.TheVariants.{Input}
use Rattle.requirement.specs.Requirement.{Requirement}
use Rattle.meaning.specs.Meaning.{Run, Holds}
use Rattle.meaning.specs.Trace.{endless}
use Rattle.meaning.specs.Findings.{Findings}
use Rattle.meaning.proofs.Judged.{stored}
use Rattle.lasso.specs.Bytes.{trace_of}
use Rattle.run.specs.Trace.{trace_bytes, numbers_in, run_of}
use Rattle.endless.specs.Unrolled.{rules_run}
use Rattle.endless.specs.ByTheRules.{ByTheRules}
use Rattle.endless.proofs.Ended.{Ended, ended}
use Rattle.endless.proofs.Stored.{positions_is}
use Rattle.endless.proofs.Formed.{lasso_of, formed}
use Rattle.endless.proofs.Moments.{same_run}

module _ {T I : List ℕ} {n start : ℕ} (h : Ended T I n start) (f : Requirement) where
  meant : (m : ℕ) → Holds (endless (lasso_of h)) f m ≡ Holds (rules_run T I) f m
  meant m = ap (λ (r : Run). Holds r f m) (same_run h)

  -- position i is moment i
  input_then : (i : ℕ) → i < n → ((lasso_of h).phase_at i ≡ Input) ↔ ((rules_run T I).phase i ≡ Input)
  input_then i l =
      let inside : i < (lasso_of h).len = omega (arith, positions_is T I n) in
      let same : (lasso_of h).phase_at i ≡ (rules_run T I).phase i =
      sym (ap (lasso_of h).phase_at (stored (formed h) i inside)) ∙ ap (λ (r : Run). r.phase i) (same_run h) in
      (λ e. sym same ∙ e, λ e. same ∙ e)

  by_run : (holds : Bool) (found : List ℕ) → (holds ≡ true) ↔ Holds (endless (lasso_of h)) f 0 →
      Findings (lasso_of h) f found → ByTheRules T I f n holds found
  by_run holds found v g = record {
    verdict = rw (meant 0) at v;
    ascending = g.ascending;
    exactly = λ i. (
      λ x. let (l, e, not_met) = (g.exactly i).0 x in
          let below : i < n = omega (arith, positions_is T I n) in
          (below, (input_then i below).0 e, rw (meant i) at not_met),
      λ (l, e, not_met). (g.exactly i).1 (omega (arith, positions_is T I n), (input_then i l).1 e, rw (← meant i) at not_met),
    );
  }

-- From the bytes of a table and of an inputs record.
pub by_the_rules : (room n start : ℕ) (table inputs : List ℕ) → run_of room table inputs ≡ closes_at n start →
    (f : Requirement) (holds : Bool) (found : List ℕ) →
    let T = numbers_in table in
    let I = numbers_in inputs in
    let lasso = trace_of (trace_bytes T I n) start in
    (holds ≡ true) ↔ Holds (endless lasso) f 0 → Findings lasso f found → ByTheRules T I f n holds found
by_the_rules room n start table inputs e f holds found = by_run (ended room n start table inputs e) f holds found
