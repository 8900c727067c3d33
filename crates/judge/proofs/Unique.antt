-- The promise of judging leaves no choice: two answers and buffers that satisfy it are equal.
-- Assumes nothing.
use Prim.Native.Nat.{ℕ}
use mathlib.Core.Path.{◌≡◌, refl, sym, ap, ◌∙◌}
use mathlib.Core.Logic.{◌↔◌}
use mathlib.Core.Bool.{Bool, true, false}
use mathlib.Core.List.{List}
use lib.ListN.{length}
use contract.Lifetimes.{Lfts}
use borrow.Fn.Kinds.{Dens, ended_of}
use denote.Triple.Clauses.{AtExit}
use Rattle.std.specs.Prelude.{Ok, Err}
use Rattle.meaning.specs.Trace.{Trace}
use Rattle.meaning.proofs.Ascends.{one_list}
use Rattle.lasso.specs.Bytes.{trace_of}
use Rattle.judge.specs.Judging.{Checks, stop, go, checks_of, Judges, Judgement}
use Rattle.judge.proofs.judge.Kinds as judge
use Rattle.judge.proofs.judge.Reads as judge_reads

-- What says the same is told by the same answer.
one_verdict : (P : Type 0) (a b : Bool) → (a ≡ true) ↔ P → (b ≡ true) ↔ P → a ≡ b
one_verdict P true true h k = refl
one_verdict P false false h k = refl
one_verdict P true false h k = sym (k.1 (h.0 refl))
one_verdict P false true h k = h.1 (k.0 refl)

module _ (t : Trace) (work list work₁ list₁ work₂ list₂ : List ℕ) where
  pub one_judging : (c : Checks) (r s : Judgement) → Judges c t work list work₁ list₁ r → Judges c t work list work₂ list₂ s → (r ≡ s) × (work₁ ≡ work₂) × (list₁ ≡ list₂)
  one_judging (stop cause place) r s a b = (a.0 ∙ sym b.0, a.1 ∙ sym b.1, a.2 ∙ sym b.2)
  one_judging (go f) (Ok verdict) (Ok verdict₁) a b =
      let e : a.found ≡ b.found = one_list a.findings b.findings in
      let v : verdict.holds ≡ verdict₁.holds = one_verdict _ verdict.holds verdict₁.holds a.verdict b.verdict in
      let c : verdict.count ≡ verdict₁.count = a.counted ∙ ap length e ∙ sym b.counted in
      (rw (v, c), a.cleared ∙ sym b.cleared, a.listed ∙ rw e (sym b.listed))
  one_judging (go f) (Err why) s a b = absurd a
  one_judging (go f) (Ok verdict) (Err why) a b = absurd b

pub judging_unique : (κs : Lfts 4) (r t : Judgement) (a : Dens κs judge.ps) (e f : AtExit (ended_of 4 judge.ps judge.r) κs) → judge_reads.Post κs a r e → judge_reads.Post κs a t f
    → (r ≡ t) × (e.1.1.1.1.0.now ≡ f.1.1.1.1.0.now) × (e.1.1.1.1.1.0.now ≡ f.1.1.1.1.1.0.now)
judging_unique κs r t a e f =
    let trace = a.1.1.0.now in
    let start = a.1.1.1.0 in
    let work = a.1.1.1.1.0.now in
    let list = a.1.1.1.1.1.0.now in
    one_judging (trace_of trace start) work list _ _ _ _ (checks_of a.0 a.1.0.now trace start (length work) (length list)) r t
