-- Demands 2 and 3 in one statement, from bytes to bytes: whatever table bytes, inputs bytes and requirement bytes are
-- accepted, running and then judging answer what the published rules and the published meaning give on the endless run.
-- No trace, lasso or row stands between the bytes and that run.
-- Assumes nothing.
use Prim.Native.Nat.{ℕ, ◌*◌, ◌≤◌}
use mathlib.Core.Path.{◌≡◌, refl, sym, ap, ◌∙◌}
use mathlib.Core.Logic.Iff
use mathlib.Core.Logic.{◌↔◌}
use mathlib.Core.Bool.{Bool}
use mathlib.Core.List.{List}
use lib.ListN.{length, take}
use contract.Lifetimes.{Lfts}
use borrow.Fn.Kinds.{Dens, ended_of}
use denote.Triple.Clauses.{AtExit}
use Rattle.run.specs.Running.{Ran, closes_at}
use Rattle.std.specs.Prelude.{Ok, Err}
use Rattle.coding.specs.Code.{code_at}
use Rattle.requirement.specs.Requirement.{Requirement}
use Rattle.requirement.specs.Reading.{whole, parsed}
use Rattle.requirement.specs.declared.Kind.{Kind}
use Rattle.requirement.specs.declared.Kind.TheVariants.{Untranslated, Translated}
use Rattle.meaning.specs.Meaning.{Holds}
use Rattle.meaning.specs.Translation.{translate}
use Rattle.lasso.specs.Bytes.{trace_of}
use Rattle.lasso.proofs.WellFormed.{accepted_is_well_formed}
use Rattle.translate.specs.Writing.{translated}
use Rattle.translate.proofs.Agreement.{translation_is_read, same_verdicts}
use Rattle.judge.specs.Judging.{go, work_asked, list_asked, checks_of, Judges, Judgement, holds_with}
use Rattle.judge.proofs.judge.Kinds as judge
use Rattle.judge.proofs.judge.Reads as judge_reads
use Rattle.run.specs.Trace.{trace_bytes, numbers_in, run_of}
use Rattle.run.proofs.run.Kinds as run
use Rattle.run.proofs.run.Reads as run_reads
use Rattle.endless.specs.Unrolled.{rules_run}
use Rattle.endless.specs.ByTheRules.{ByTheRules}
use Rattle.endless.proofs.Closed.{run_is_lasso, unrolled}
use Rattle.endless.proofs.Sized.{in_front, front_accepted}
use Rattle.endless.proofs.ByTheRules.{by_the_rules}
use Rattle.agreement.specs.Alike.{first_written}
use Rattle.agreement.specs.FromBytes.{handed_on, RightlyJudged}
use Rattle.agreement.proofs.Judging.{judged_when}

-- An accepted judging of the run's trace is right.
module _ (room n start : ℕ) (table inputs : List ℕ) (e : run_of room table inputs ≡ closes_at n start) (f : Requirement) (work list work' list' : List ℕ) where
  right_when : (answer : Judgement) →
      Judges (go f) (trace_of (trace_bytes (numbers_in table) (numbers_in inputs) n) start) work list work' list' answer →
      RightlyJudged table inputs f n work list work' list' answer
  right_when (Ok verdict) a = record {
    holds = verdict.holds;
    found = a.found;
    right = by_the_rules room n start table inputs e f verdict.holds a.found a.verdict a.findings;
    answered = ap (holds_with verdict.holds) a.counted;
    listed = a.listed;
    cleared = a.cleared;
  }
  right_when (Err why) a = absurd a

-- The bytes handed in, and the buffers lent to the run (trace) and to judging (work, list).
module _ (kind : Kind) (table inputs code trace work list : List ℕ) (n start : ℕ) (f : Requirement) where
  -- The table, the inputs and the run are accepted; the requirement is accepted, and the rooms that document 01 asks
  -- for are there. Then whatever judging promises to answer and to leave in its buffers is right by the rules: a
  -- verdict is given, and it is the true one; the list holds the true findings.
  pub from_bytes : run_of (length trace) table inputs ≡ closes_at n start → parsed kind (code_at code 0) ≡ whole f →
      work_asked (handed_on table inputs trace n start) f ≤ length work →
      list_asked (handed_on table inputs trace n start) ≤ length list →
      (work' list' : List ℕ) (answer : Judgement) →
      Judges (checks_of kind code (handed_on table inputs trace n start) start (length work) (length list)) (trace_of (handed_on table inputs trace n start) start)
      work list work' list' answer →
      RightlyJudged table inputs f n work list work' list' answer
  from_bytes e read room space work' list' answer j =
      let well = front_accepted (length trace) n start table inputs e trace refl in
      let checks = judged_when kind code (handed_on table inputs trace n start) start (length work) (length list) n f read well room space in
      let bytes = in_front (length trace) n start table inputs e trace refl in
      right_when (length trace) n start table inputs e f work list work' list' answer (rw (checks, bytes) at j)

-- The same of two calls, one after the other, by the promises of the functions `run::run` and `judge::judge`
-- themselves: the first is answered by a position count and a loop start, and the second is given what the first left
-- in its buffer, 5 bytes a position, and that loop start.
pub calls_right : (κs : Lfts 3) (a : Dens κs run.ps) (ran : Ran) (e : AtExit (ended_of 3 run.ps run.r) κs) →
    run_reads.Post κs a ran e →
    (n start : ℕ) → ran ≡ closes_at n start →
    (λs : Lfts 4) (b : Dens λs judge.ps) (answer : Judgement) (d : AtExit (ended_of 4 judge.ps judge.r) λs) →
    judge_reads.Post λs b answer d →
    (f : Requirement) → parsed b.0 (code_at b.1.0.now 0) ≡ whole f →
    b.1.1.0.now ≡ take (n * 5) e.1.1.0.now → b.1.1.1.0 ≡ start →
    work_asked b.1.1.0.now f ≤ length b.1.1.1.1.0.now →
    list_asked b.1.1.0.now ≤ length b.1.1.1.1.1.0.now →
    RightlyJudged a.0.now a.1.0.now f n b.1.1.1.1.0.now b.1.1.1.1.1.0.now d.1.1.1.1.0.now d.1.1.1.1.1.0.now answer
calls_right κs a ran e p n start closed λs b answer d q f read bytes same room space =
    let given : b.1.1.0.now ≡ handed_on a.0.now a.1.0.now a.1.1.0.now n start = bytes ∙ ap (take (n * 5)) (rw closed at p.1) in
    from_bytes b.0 a.0.now a.1.0.now b.1.0.now a.1.1.0.now b.1.1.1.1.0.now b.1.1.1.1.1.0.now n start f
    (sym p.0 ∙ closed) read (rw given at room) (rw given at space) _ _ answer (rw (given, same) at q)

-- What translating a code wrote is read as the translation of the requirement that the code is.
translation_again : (code out : List ℕ) (m : ℕ) (f : Requirement) → parsed Untranslated (code_at code 0) ≡ whole f →
    translated code out ≡ Ok m →
    parsed Translated (code_at (first_written code out m) 0) ≡ whole (translate f)
translation_again code out m f read written =
    let (g, first, again) = translation_is_read code out m written in
    let twice : whole g ≡ whole f = sym first ∙ read in
    let same : g ≡ f = cc in
    rw written (rw same at again)

-- "The translation .. agrees with the requirement at every position": so a requirement that is judged in its
-- translation is rightly judged.
module _ (table inputs trace : List ℕ) (n start : ℕ) (e : run_of (length trace) table inputs ≡ closes_at n start) (f : Requirement) where
  translated_means : (m : ℕ) →
      Holds (rules_run (numbers_in table) (numbers_in inputs)) (translate f) m ↔ Holds (rules_run (numbers_in table) (numbers_in inputs)) f m
  translated_means m =
      let bytes = trace_bytes (numbers_in table) (numbers_in inputs) n in
      let well = (accepted_is_well_formed bytes start n (run_is_lasso (length trace) n start table inputs e)).well_formed in
      rw (unrolled (length trace) n start table inputs e) at (same_verdicts well f m)

  as_its_own : (holds : Bool) (found : List ℕ) →
      ByTheRules (numbers_in table) (numbers_in inputs) (translate f) n holds found →
      ByTheRules (numbers_in table) (numbers_in inputs) f n holds found
  as_its_own holds found r = record {
    verdict = Iff.trans r.verdict (translated_means 0);
    ascending = r.ascending;
    exactly = λ i. (
      λ x. let (l, input, fails) = (r.exactly i).0 x in (l, input, λ h. fails ((translated_means i).1 h)),
      λ (l, input, fails). (r.exactly i).1 (l, input, λ h. fails ((translated_means i).0 h)),
    );
  }

  pub translation_right : (code out work list : List ℕ) (m : ℕ) → parsed Untranslated (code_at code 0) ≡ whole f →
      translated code out ≡ Ok m →
      work_asked (handed_on table inputs trace n start) (translate f) ≤ length work →
      list_asked (handed_on table inputs trace n start) ≤ length list →
      (work' list' : List ℕ) (answer : Judgement) →
      Judges (checks_of Translated (first_written code out m) (handed_on table inputs trace n start) start (length work) (length list))
      (trace_of (handed_on table inputs trace n start) start) work list work' list' answer →
      RightlyJudged table inputs f n work list work' list' answer
  translation_right code out work list m read written room space work' list' answer j =
      let again = translation_again code out m f read written in
      let r = from_bytes Translated table inputs (first_written code out m) trace work list n start (translate f) e again room space work' list' answer j in
      record {
        holds = r.holds;
        found = r.found;
        right = as_its_own r.holds r.found r.right;
        answered = r.answered;
        listed = r.listed;
        cleared = r.cleared;
      }
