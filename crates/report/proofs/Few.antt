-- How many findings there can be, and that the list of bytes that they are put into gives them back.
-- Assumes nothing.
use Prim.Native.Nat.{ℕ, suc, ◌+◌, ◌-◌, ◌*◌, ◌/◌, ◌%◌, ◌≤◌, ◌<◌}
use native.Mathlib.Omega.{arith}
use mathlib.Core.Path.{◌≡◌, refl, sym, ◌∙◌, ap}
use mathlib.Core.List.{List, [], ◌∷◌, ◌++◌, Memᴰ}
use lib.ListN.{length, get_or, drop}
use lib.Seq.{get_or-drop, drop-drop}
use Rattle.coding.specs.Refusal.{Answer}
use Rattle.std.specs.Prelude.{Ok, Err}
use Rattle.coding.specs.Code.{code_at}
use Rattle.coding.specs.Room.{over}
use Rattle.coding.proofs.Bytes.{over_eq}
use Rattle.requirement.specs.Requirement.{Requirement}
use Rattle.requirement.specs.Reading.{Parsed, whole, unread, parsed}
use Rattle.requirement.specs.declared.Kind.{Kind}
use Rattle.meaning.specs.Trace.{Trace}
use Rattle.meaning.specs.Findings.{Ascending, Findings}
use Rattle.lasso.specs.Bytes.{positions}
use Rattle.lasso.specs.Checking.{check_trace}
use Rattle.lasso.proofs.WellFormed.{accepted_is_well_formed}
use Rattle.judge.specs.Judging.{Checks, stop, go, checks_of, by_requirement, by_trace, by_room, position_bytes}
use Rattle.report.specs.Placing.{pairs_from}

-- ---- a strictly ascending list of numbers below n
ascending_few : (n low : ℕ) (xs : List ℕ) → Ascending low xs → ((i : ℕ) → Memᴰ i xs → i < n) → length xs ≤ n - low
ascending_few n low [] a h = omega arith
ascending_few n low (x ∷ xs) a h =
    omega (arith, a.0, h x (Memᴰ.head refl), ascending_few n (suc x) xs a.1 (λ i m. h i (Memᴰ.tail m)))

pub findings_few : (t : Trace) (f : Requirement) (xs : List ℕ) → Findings t f xs → length xs ≤ t.len
findings_few t f xs a = let l = ascending_few t.len 0 xs a.ascending (λ i m. ((a.exactly i).0 m).0) in omega arith

-- ---- a trace that is judged is small
abbrev pub Small : List ℕ → Checks → Type 0
Small trace (stop cause place) = Unit {0}
Small trace (go f) = positions trace ≤ 4096

module _ (trace : List ℕ) where
  any_small : positions trace ≤ 4096 → (c : Checks) → Small trace c
  any_small h (stop cause place) = tt
  any_small h (go f) = h

  module _ (start : ℕ) where
    by_trace_lem : (a : Answer) (c : Checks) → check_trace trace start ≡ a → Small trace (by_trace a c)
    by_trace_lem (Err why) c e = tt
    by_trace_lem (Ok n) c e = let l = accepted_is_well_formed trace start n e in any_small (omega (arith, l.count, l.most)) c

    by_parsed : (work list : ℕ) (x : Parsed) → Small trace (by_requirement trace start work list x)
    by_parsed work list (unread cause place) = tt
    by_parsed work list (whole f) = by_trace_lem (check_trace trace start) (by_room trace work list f) refl

    pub small : (kind : Kind) (s : List ℕ) (work list : ℕ) → Small trace (checks_of kind s trace start work list)
    unfolding checks_of
    small kind s work list = by_parsed work list (parsed kind (code_at s 0))

-- ---- two bytes a position, read back
pairs_of : (found : List ℕ) (at : ℕ) (list rest : List ℕ) → drop at list ≡ position_bytes found ++ rest → pairs_from (length found) at list ≡ found
unfolding position_bytes pairs_from
pairs_of [] at list rest e = refl
pairs_of (p ∷ ps) at list rest e =
    let zero_more : at + 0 ≡ at = omega arith in
    let low : get_or list at 0 ≡ p % 256 = rw (zero_more) at (sym (get_or-drop at list 0 0)) ∙ ap (λ (l : List ℕ). get_or l 0 0) e in
    let high : get_or list (at + 1) 0 ≡ p / 256 = sym (get_or-drop at list 1 0) ∙ ap (λ (l : List ℕ). get_or l 1 0) e in
    let next : drop (at + 2) list ≡ position_bytes ps ++ rest = sym (drop-drop 2 at list) ∙ ap (drop 2) e in
    let whole_number : p % 256 + 256 * (p / 256) ≡ p = omega arith in
    rw (low, high, whole_number, pairs_of ps (at + 2) list rest next)

pairs_length : (found : List ℕ) → length (position_bytes found) ≡ 2 * length found
unfolding position_bytes
pairs_length [] = refl
pairs_length (p ∷ ps) = omega (arith, pairs_length ps)

pub pairs_back : (found list : List ℕ) → 2 * length found ≤ length list → pairs_from (length found) 0 (over list 0 (position_bytes found)) ≡ found
pairs_back found list h =
    pairs_of found 0 (over list 0 (position_bytes found)) (drop (0 + length (position_bytes found)) list) (over_eq list 0 (position_bytes found) (omega (arith, pairs_length found)))
