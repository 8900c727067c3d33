-- The promise of the program leaves no choice: one text is printed for an input.
-- Assumes nothing.
use Prim.Native.Nat.{ℕ}
use mathlib.Core.Path.{◌≡◌, refl, sym, ap, ◌∙◌}
use mathlib.Core.Logic.{◌↔◌}
use mathlib.Core.Bool.{Bool, true, false}
use mathlib.Core.List.{List}
use lib.ListN.{length}
use contract.Lifetimes.{Lfts}
use borrow.Fn.Kinds.{Dens, ended_of}
use denote.Triple.Clauses.{AtExit}
use Rattle.run.specs.declared.Stop.TheVariants.{Halted, Refused}
use Rattle.run.specs.Running.{Ran}
use Rattle.std.specs.Prelude.{Ok, Err}
use Rattle.requirement.specs.Requirement.{Requirement}
use Rattle.requirement.specs.declared.Kind.TheVariants.{Untranslated}
use Rattle.meaning.specs.Trace.{Trace}
use Rattle.meaning.proofs.Ascends.{one_list}
use Rattle.lasso.specs.Bytes.{trace_of}
use Rattle.judge.specs.Judging.{Checks, stop, go, checks_of}
use Rattle.run.specs.Limits.{trace_room}
use Rattle.run.specs.Trace.{trace_bytes, numbers_in, run_of}
use Rattle.report.specs.Framing.{framing_of, between, Framing}
use Rattle.report.specs.Reporting.{work_room, list_room, Answered, OfJudging, OfRun, Reports}
use Rattle.report.proofs.report.Kinds as report
use Rattle.report.proofs.report.Reads as report_reads

-- What says the same is told by the same answer.
one_verdict : (P : Type 0) (a b : Bool) → (a ≡ true) ↔ P → (b ≡ true) ↔ P → a ≡ b
one_verdict P true true h k = refl
one_verdict P false false h k = refl
one_verdict P true false h k = sym (k.1 (h.0 refl))
one_verdict P false true h k = h.1 (k.0 refl)

module _ (x y : List ℕ) where
  one_answer : (t : Trace) (f : Requirement) (n start : ℕ) → Answered t f n start x → Answered t f n start y → x ≡ y
  one_answer t f n start a b =
      let v : a.holds ≡ b.holds = one_verdict _ a.holds b.holds a.verdict b.verdict in
      let e : a.found ≡ b.found = one_list a.findings b.findings in
      a.lines ∙ rw (v, e) (sym b.lines)

  one_judging : (c : Checks) (t : Trace) (n start : ℕ) → OfJudging c t n start x → OfJudging c t n start y → x ≡ y
  one_judging (stop cause place) t n start a b = a ∙ sym b
  one_judging (go f) t n start a b = one_answer t f n start a b

  one_run : (r : Ran) (T I code : List ℕ) → OfRun r T I code x → OfRun r T I code y → x ≡ y
  one_run (Ok closed) T I code a b =
      one_judging (checks_of Untranslated code (trace_bytes T I closed.positions) closed.start work_room list_room) (trace_of (trace_bytes T I closed.positions) closed.start) closed.positions closed.start a b
  one_run (Err (Halted cause scan process)) T I code a b = a ∙ sym b
  one_run (Err (Refused why)) T I code a b = a ∙ sym b

  one_framed : (s : List ℕ) (w : Framing) → Reports s w x → Reports s w y → x ≡ y
  one_framed s (Err why) p q = p ∙ sym q
  one_framed s (Ok blocks) p q =
      one_run (run_of trace_room (between blocks.table.begin blocks.table.end s) (between blocks.inputs.begin blocks.inputs.end s)) (numbers_in (between blocks.table.begin blocks.table.end s)) (numbers_in (between blocks.inputs.begin blocks.inputs.end s)) (between blocks.requirement.begin blocks.requirement.end s) p q

  pub one_text : (s : List ℕ) → Reports s (framing_of s) x → Reports s (framing_of s) y → x ≡ y
  one_text s p q = one_framed s (framing_of s) p q

pub report_unique : (κs : Lfts 2) (r t : ℕ) (a : Dens κs report.ps) (e f : AtExit (ended_of 2 report.ps report.r) κs) → report_reads.Post κs a r e → report_reads.Post κs a t f
    → (r ≡ t) × (e.1.0.now ≡ f.1.0.now)
report_unique κs r t a e f p q =
    let same : p.text ≡ q.text = one_text p.text q.text a.0.now p.true_of q.true_of in
    (p.count ∙ ap length same ∙ sym q.count, p.stands ∙ rw same (sym q.stands))
