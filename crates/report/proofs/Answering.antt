-- What the program's functions print, by the ways through them.
-- Assumes nothing.
use Rattle.run.specs.declared.Stop.{Stop}
use Rattle.coding.specs.declared.Refusal.{Refusal}
use Rattle.coding.proofs.Refusing.{same_cause, same_place}
use Prim.Native.Nat.{ℕ, ◌+◌, ◌-◌, ◌*◌, ◌≤◌}
use native.Mathlib.Omega.{arith}
use mathlib.Core.Path.{◌≡◌, sym, ◌∙◌, ap}
use mathlib.Core.Bool.{Bool}
use mathlib.Core.List.{List, ◌++◌}
use lib.ListN.{length, take, drop, replicate, length-replicate}
use lib.Seq.{take-append_seam}
use Rattle.std.specs.Prelude.{Err}
use Rattle.run.specs.declared.Stop.TheVariants.{Halted, Refused}
use Rattle.run.specs.Running.{Ran, closes_at, run_refused}
use Rattle.coding.specs.Refusal.{number_of, refused_at}
use Rattle.coding.specs.Room.{over}
use Rattle.coding.specs.declared.Cause.{Cause}
use Rattle.coding.proofs.Bytes.{over_eq, over_length}
use Rattle.requirement.specs.declared.Kind.TheVariants.{Untranslated}
use Rattle.lasso.specs.Bytes.{trace_of}
use Rattle.judge.specs.Judging.{Checks, stop, go, checks_of, Judges, position_bytes, Judgement, holds_with}
use Rattle.run.specs.Trace.{trace_bytes, numbers_in, run_of, left_in, stop_told}
use Rattle.endless.proofs.Sized.{trace_length, closed_small}
use Rattle.report.specs.Framing.{framing_of, between, blocks_from}
use Rattle.report.specs.Lines.{refused_line, positions_line, verdict_line, count_line, at_lines, answer_lines}
use Rattle.report.specs.Placing.{Put, pairs_from}
use Rattle.report.specs.Printing.{Prints}
use Rattle.report.specs.Reporting.{work_room, list_room, OfJudging, OfBlocks, Reports}
use Rattle.report.proofs.Few.{Small, small, findings_few, pairs_back}

pub printed : (P : List ℕ → Type 0) (text : List ℕ) (r : ℕ) (d e : List ℕ) → P text → Put text 0 r d e × (r ≤ 100000) → Prints P r d e
printed P text r d e h ((p, q), l) = record { text = text; true_of = h; count = omega (arith, p); short = l; stands = q }

-- ---- a judging's answer
module _ (n start : ℕ) (trace work list work' list' : List ℕ) (holds : Bool) (count : ℕ) where
  abbrev AnswerText : List ℕ
  AnswerText = positions_line n start ++ (verdict_line holds ++ (count_line count ++ at_lines (pairs_from count 0 list')))

  answer_few : (c : Checks) → Small trace c → Judges c (trace_of trace start) work list work' list' (holds_with holds count) → count ≤ 4096
  answer_few (stop cause place) s j = let z : ◌≡◌ {A = ℕ} 0 1 = cc in absurd (omega arith)
  answer_few (go f) s j = omega (arith, s, j.counted, findings_few (trace_of trace start) f j.found j.findings)

  answer_text : length list ≡ 8192 → (c : Checks) → Small trace c → Judges c (trace_of trace start) work list work' list' (holds_with holds count) →
      OfJudging c (trace_of trace start) n start AnswerText
  unfolding answer_lines
  answer_text l (stop cause place) s j = let z : ◌≡◌ {A = ℕ} 0 1 = cc in absurd (omega arith)
  answer_text l (go f) s j =
      let back : pairs_from (length j.found) 0 (over list 0 (position_bytes j.found)) ≡ j.found =
      pairs_back j.found list (omega (arith, l, s, findings_few (trace_of trace start) f j.found j.findings)) in
      record { holds = holds; verdict = j.verdict; found = j.found; findings = j.findings; lines = rw (j.counted, j.listed, back) }

module _ (code trace work list work' list' : List ℕ) (start : ℕ) (r : Judgement) (w : length work ≡ 8192) (l : length list ≡ 8192)
    (judged : Judges (checks_of Untranslated code trace start (length work) (length list)) (trace_of trace start) work list work' list' r) where
  by_room_lem : Judges (checks_of Untranslated code trace start work_room list_room) (trace_of trace start) work list work' list' r
  by_room_lem = rw (w, l) at judged

  module _ (holds : Bool) (count : ℕ) (e : r ≡ holds_with holds count) where
    answered : Judges (checks_of Untranslated code trace start work_room list_room) (trace_of trace start) work list work' list' (holds_with holds count)
    answered = rw e at by_room_lem

    pub count_few : count ≤ 4096
    count_few = answer_few 0 start trace work list work' list' holds count (checks_of Untranslated code trace start work_room list_room) (small trace start Untranslated code work_room list_room) answered

    pub answer_prints : (n s : ℕ) (d e : List ℕ) →
        Put (positions_line n start ++ (verdict_line holds ++ (count_line count ++ at_lines (pairs_from count 0 list')))) 0 s d e × (s ≤ 100000) →
        Prints (OfJudging (checks_of Untranslated code trace start work_room list_room) (trace_of trace start) n start) s d e
    answer_prints n s d e p =
        printed _ _ s d e (answer_text n start trace work list work' list' holds count l (checks_of Untranslated code trace start work_room list_room) (small trace start Untranslated code work_room list_room) answered) p

  refusal_text : (n : ℕ) (cause : Cause) (place : ℕ) (c : Checks) → Judges c (trace_of trace start) work list work' list' (refused_at cause place) →
      OfJudging c (trace_of trace start) n start (refused_line (number_of cause) place)
  refusal_text n cause place (go f) j = absurd j
  refusal_text n cause place (stop cause' place') (e, _, _) = rw (same_cause e, same_place e)

  pub refusal_prints : (n : ℕ) (cause : Cause) (place : ℕ) → r ≡ refused_at cause place → (s : ℕ) (d e : List ℕ) → Put (refused_line (number_of cause) place) 0 s d e × (s ≤ 100000) →
      Prints (OfJudging (checks_of Untranslated code trace start work_room list_room) (trace_of trace start) n start) s d e
  refusal_prints n cause place e s d d' p = printed _ _ s d d' (refusal_text n cause place (checks_of Untranslated code trace start work_room list_room) (rw e at by_room_lem)) p

-- ---- a run's answer
module _ (table inputs code trace trace' : List ℕ) (r : Ran) (l : length trace ≡ 20480) (ran : r ≡ run_of (length trace) table inputs)
    (left : trace' ≡ left_in r (numbers_in table) (numbers_in inputs) trace) where
  by_ran : (x : Ran) → r ≡ x → run_of 20480 table inputs ≡ x
  by_ran x e = rw l at (sym ran) ∙ e

  module _ (n start : ℕ) (e : r ≡ closes_at n start) where
    pub closed_few : n ≤ 4096
    closed_few = closed_small (length trace) n start table inputs (sym ran ∙ e)

    abbrev Bytes : List ℕ
    Bytes = trace_bytes (numbers_in table) (numbers_in inputs) n

    abbrev Blank : List ℕ
    Blank = replicate (length trace) 0

    filled : trace' ≡ over Blank 0 Bytes
    filled = rw e at left

    blank_length : length Blank ≡ 20480
    blank_length = length-replicate {A = ℕ} (length trace) 0 ∙ l

    pub closed_inside : n * 5 ≤ length trace'
    closed_inside = omega (arith, ap length filled ∙ over_length Blank 0 Bytes ∙ blank_length, closed_few)

    closed_part : take (n * 5) trace' ≡ Bytes
    closed_part =
        let size = trace_length (numbers_in table) (numbers_in inputs) n in
        let k : n * 5 ≡ length Bytes = omega (arith, size) in
        let room : 0 + length Bytes ≤ length Blank = omega (arith, blank_length, size, closed_few) in
        rw (k, filled, over_eq Blank 0 Bytes room) (take-append_seam Bytes (drop (0 + length Bytes) Blank))

    pub closed_prints : (s : ℕ) (d e : List ℕ) →
        Prints (OfJudging (checks_of Untranslated code (take (n * 5) trace') start work_room list_room) (trace_of (take (n * 5) trace') start) n start) s d e →
        Prints (OfBlocks table inputs code) s d e
    closed_prints s d d' p =
        record { text = p.text; true_of = rw (by_ran (closes_at n start) e, ← closed_part) p.true_of; count = p.count; short = p.short; stands = p.stands }

  pub halted_prints : (cause : Cause) (scan process : ℕ) → r ≡ Err (Halted cause scan process) → (s : ℕ) (d e : List ℕ) → Put (refused_line (number_of cause) scan) 0 s d e × (s ≤ 100000) →
      Prints (OfBlocks table inputs code) s d e
  halted_prints cause scan process e s d d' p = printed _ (refused_line (number_of cause) scan) s d d' (rw (by_ran (Err (Halted cause scan process)) e)) p

  pub refused_prints : (cause : Cause) (place : ℕ) → r ≡ run_refused cause place → (s : ℕ) (d e : List ℕ) → Put (refused_line (number_of cause) place) 0 s d e × (s ≤ 100000) →
      Prints (OfBlocks table inputs code) s d e
  refused_prints cause place e s d d' p = printed _ (refused_line (number_of cause) place) s d d' (rw (by_ran (run_refused cause place) e)) p

  pub stop_prints : (stop : Stop) → r ≡ Err stop → (why : Refusal) → why ≡ stop_told stop → (s : ℕ) (d e : List ℕ) →
      Put (refused_line (number_of why.cause) why.place) 0 s d e × (s ≤ 100000) → Prints (OfBlocks table inputs code) s d e
  stop_prints (Halted cause scan process) e why w s d d' p = halted_prints cause scan process e s d d' (rw w at p)
  stop_prints (Refused why') e why w s d d' p = refused_prints why'.cause why'.place e s d d' (rw w at p)

-- ---- the whole answer
module _ (s : List ℕ) where
  pub faulty_prints : (cause : Cause) (place : ℕ) → refused_at cause place ≡ framing_of s → (r : ℕ) (d e : List ℕ) → Put (refused_line (number_of cause) place) 0 r d e × (r ≤ 100000) →
      Prints (Reports s (framing_of s)) r d e
  faulty_prints cause place h r d e p = printed _ (refused_line (number_of cause) place) r d e (rw (← h)) p

  pub blocks_print : (a b c d e f : ℕ) → blocks_from a b c d e f ≡ framing_of s → (r : ℕ) (x y : List ℕ) →
      Prints (OfBlocks (take (b - a) (drop a s)) (take (d - c) (drop c s)) (take (f - e) (drop e s))) r x y → Prints (Reports s (framing_of s)) r x y
  unfolding between
  blocks_print a b c d e f h r x y p = rw (← h) p
