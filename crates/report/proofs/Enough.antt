-- What judging a run's trace comes to: the trace is well-formed and the program's room for work and list is enough, so
-- that only the requirement can be refused.
-- Assumes nothing.
use Prim.Native.Nat.{ℕ, zero, suc, ◌+◌, ◌*◌, ◌/◌, ◌≤◌}
use native.Mathlib.Omega.{arith}
use native.Mathlib.Nat.{mul-le-mul}
use mathlib.Core.Path.{◌≡◌, refl}
use mathlib.Core.Bool.{Bool, true, false}
use mathlib.Core.List.{List}
use lib.ListN.{length}
use borrow.Author.Tests.{le-ltb}
use Rattle.run.specs.Running.{closes_at}
use Rattle.coding.specs.Code.{code_at}
use Rattle.coding.specs.Refusal.{number_of}
use Rattle.coding.specs.declared.Cause.{Cause}
use Rattle.coding.specs.declared.Cause.TheVariants.{ShortBuffer}
use Rattle.requirement.specs.Requirement.{Requirement, depth_of}
use Rattle.requirement.specs.Reading.{Parsed, whole, unread, parsed}
use Rattle.requirement.specs.declared.Kind.TheVariants.{Untranslated}
use Rattle.requirement.proofs.Codes.{read_is_code}
use Rattle.requirement.proofs.Causes.{NamedParsed, parsed_named, requirement_most}
use Rattle.bits.specs.Bits.{digit, count_b}
use Rattle.lasso.specs.Bytes.{positions, mark_b, inputs_in}
use Rattle.judge.specs.Judging.{stop, go, checks_of, by_room, work_asked}
use Rattle.run.specs.Limits.{trace_room}
use Rattle.run.specs.Trace.{trace_bytes, numbers_in, run_of}
use Rattle.endless.proofs.Closed.{run_is_lasso}
use Rattle.endless.proofs.Sized.{trace_length, closed_small}
use Rattle.report.specs.Reporting.{work_room, list_room}

-- ---- what is asked of work and list
count_most : (f : ℕ → Bool) (n : ℕ) → count_b f n ≤ n
unfolding count_b
count_most f zero = omega arith
count_most f (suc n) = omega (arith, count_most f n, most (f n))
  where
    most : (v : Bool) → digit v ≤ 1
    most true = omega arith
    most false = omega arith

module _ (trace : List ℕ) (few : length trace ≤ 20480) where
  enough_work : (f : Requirement) → depth_of f ≤ 16 → work_asked trace f ≤ 8192
  enough_work f h = mul-le-mul {n₁ = depth_of f} {m₁ = (positions trace + 7) / 8} {n₂ = 16} {m₂ = 512} h (omega arith)

  enough_list : 2 * inputs_in trace ≤ 8192
  enough_list = omega (arith, count_most (mark_b trace 0) (positions trace))

  enough_room : (f : Requirement) → depth_of f ≤ 16 → by_room trace work_room list_room f ≡ go f
  enough_room f h =
      rw (le-ltb work_room (work_asked trace f) (enough_work f h), le-ltb list_room (2 * inputs_in trace) enough_list)

-- ---- the checks before judging, by what the requirement's code is read as
module _ (code trace : List ℕ) (start : ℕ) where
  pub unread_stops : (cause : Cause) (place : ℕ) → parsed Untranslated (code_at code 0) ≡ unread cause place →
      checks_of Untranslated code trace start work_room list_room ≡ stop cause place
  unfolding checks_of
  unread_stops cause place e = rw e

module _ (table inputs code : List ℕ) (n start : ℕ) (closes : run_of trace_room table inputs ≡ closes_at n start) where
  abbrev RunTrace : List ℕ
  RunTrace = trace_bytes (numbers_in table) (numbers_in inputs) n

  pub closed_goes : (f : Requirement) → parsed Untranslated (code_at code 0) ≡ whole f →
      checks_of Untranslated code RunTrace start work_room list_room ≡ go f
  unfolding checks_of
  closed_goes f e =
      let size = trace_length (numbers_in table) (numbers_in inputs) n in
      let few : length RunTrace ≤ 20480 = omega (arith, size, closed_small trace_room n start table inputs closes) in
      rw (e, run_is_lasso trace_room n start table inputs closes)
      (enough_room RunTrace few f (read_is_code Untranslated (code_at code 0) f e).2.depth)

  -- No judging of a run that closed is refused for want of room.
  pub closed_never_short : (place : ℕ) →
      checks_of Untranslated code RunTrace start work_room list_room ≡ stop ShortBuffer place → ⊥
  closed_never_short place e = by_parsed (parsed Untranslated (code_at code 0)) refl (parsed_named Untranslated code)
    where
      by_parsed : (x : Parsed) → parsed Untranslated (code_at code 0) ≡ x → NamedParsed x → ⊥
      by_parsed (whole f) g o = let h = closed_goes f g in let z : ◌≡◌ {A = ℕ} 0 1 = cc in omega arith
      by_parsed (unread cause p) g o =
          let h = unread_stops code RunTrace start cause p g in
          let same : cause ≡ ShortBuffer = cc in
          let most : number_of ShortBuffer ≤ 4 = rw same at (requirement_most o).1 in
          omega arith
