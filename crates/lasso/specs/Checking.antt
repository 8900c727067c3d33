-- Refusal 9. Document 01, Numbers of refusal: "in this order: trace length 0, over 20,480 or not a multiple of 5 (place: length); loop start not below the
-- position count (place: that count); bad phase or followed by a phase not allowed (first such position); no Output in the loop (loop start)".
-- Assumes nothing: these are definitions.
use Rattle.coding.specs.Refusal.{Answer, refused_at}
use Rattle.std.specs.Prelude.{ℕ, zero, suc, ◌+◌, ◌-◌, ◌%◌, Bool, true, false, List, length, ltb, eqb, Ok}
use Rattle.coding.specs.Number.{pick}
use Rattle.coding.specs.declared.Cause.TheVariants.{BadTrace}
use Rattle.bits.specs.Rows.{after_of}
use Rattle.lasso.specs.Bytes.{positions, phase_byte}

-- "At most 4,096 positions", of 5 bytes each.
abbrev pub longest_trace : ℕ
longest_trace = 20480

unfoldable pub length_ok : ℕ → Bool
length_ok n = pick (eqb n 0) false (pick (ltb longest_trace n) false (eqb (n % 5) 0))

-- "Output is followed by Input, Input by Exe, Exe by Exe or Output", of phase bytes: no other is a phase.
unfoldable pub may_follow : ℕ → ℕ → Bool
may_follow p q =
    pick (eqb p 0) (eqb q 1)
    (pick (eqb p 1) (pick (eqb q 1) true (eqb q 2))
    (pick (eqb p 2) (eqb q 0) false))

-- The first of k positions from i on that is no phase or is followed by what may not follow it, "at the join too"; else what comes after that.
unfoldable pub steps_from : (ℕ → ℕ → Bool) → List ℕ → ℕ → ℕ → ℕ → Answer → Answer
steps_from rule s start zero i fine = fine
steps_from rule s start (suc k) i fine =
    pick (rule (phase_byte s i) (phase_byte s (after_of (positions s) start i))) (steps_from rule s start k (i + 1) fine) (refused_at BadTrace i)

-- Whether one of k positions from i on is an Output.
unfoldable pub output_from : List ℕ → ℕ → ℕ → Bool
output_from s zero i = false
output_from s (suc k) i = pick (eqb (phase_byte s i) 2) true (output_from s k (i + 1))

-- What a trace and a loop start are answered, by a successor rule.
unfoldable pub check_by : (ℕ → ℕ → Bool) → List ℕ → ℕ → Answer
check_by rule s start =
    pick (length_ok (length s))
    (pick (ltb start (positions s))
    (steps_from rule s start (positions s) 0
    (pick (output_from s (positions s - start) start) (Ok (positions s)) (refused_at BadTrace start)))
    (refused_at BadTrace (positions s)))
    (refused_at BadTrace (length s))

abbrev pub check_trace : List ℕ → ℕ → Answer
check_trace s start = check_by may_follow s start
