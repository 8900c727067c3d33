-- What the first look has noted of a table's processes in the end, and what the second look says of a test by it.
-- Assumes nothing.
use Prim.Native.Nat.{ℕ, zero, suc, ◌+◌, ◌-◌, ◌≤◌, ◌<◌}
use mathlib.Core.Path.{◌≡◌, refl, ◌∙◌}
use mathlib.Core.Logic.{◌⊎◌, inl, inr, ⊎_elim}
use mathlib.Core.Bool.{Bool, true, false}
use mathlib.Core.List.{List, [], ◌∷◌}
use native.Mathlib.Omega.{arith}
use lib.ListN.{length, get_or, set, length-set}
use lib.Seq.{get_or-set_same, get_or-set_other}
use lib.Dec.{leb, eqb}
use borrow.Author.Tests.{leb-true, eqb-true, eqb-false, le-leb}
use Rattle.ranges.specs.Limits.{err_state}
use Rattle.ranges.specs.Values.{pick, within, is_variable, test_a_ok}
use Rattle.table.specs.Table.{state_ok, no_counts}
use Rattle.lookups.specs.declared.TestRow.{TestRow}
use Rattle.lookups.specs.declared.ActionRow.{ActionRow}
use Rattle.lookups.specs.Structure.{Table}
use Rattle.structure.specs.Allowed.{OneOf, states_in, TestAllowed, equals, exceeds, in_state}
use Rattle.structure.proofs.Takes.{outcome}
use Rattle.structure.proofs.Parts.{note, counts_of}
use Rattle.structure.proofs.Front.{TestPasses, tested_of}
use Rattle.structure.proofs.Values.{range, in_range, variable, is_variable_lem, peel, none_left}

-- The processes from i on leave the counts before i as they are, and put in their own.
before : (l : List (List (List ActionRow))) (i : ℕ) (counts : List ℕ) (j : ℕ) → j < i → get_or (outcome note i l counts) j 0 ≡ get_or counts j 0
before [] i counts j h = refl
before (x ∷ l) i counts j h =
    before l (suc i) (set counts i (length x)) j (omega arith) ∙ get_or-set_other counts i j (length x) 0 (omega arith)

own : (l : List (List (List ActionRow))) (i : ℕ) (counts : List ℕ) (j : ℕ) → j < length l → i + length l ≤ length counts →
    get_or (outcome note i l counts) (i + j) 0 ≡ length (get_or l j [])
own [] i counts j h r = absurd (omega arith)
own (x ∷ l) i counts zero h r =
    let z : i + 0 ≡ i = omega arith in
    rw z (before l (suc i) (set counts i (length x)) i (omega arith) ∙ get_or-set_same counts i (length x) 0 (omega arith))
own (x ∷ l) i counts (suc j) h r =
    let z : i + suc j ≡ suc i + j = omega arith in
    rw z (own l (suc i) (set counts i (length x)) j (omega arith) (rw (length-set counts i (length x)) (omega arith)))

-- At 0 stands how many processes there are, at p how many active states process p has.
pub process_count : (l : List (List (List ActionRow))) → get_or (counts_of l) 0 0 ≡ length l
process_count l = before l 1 (set no_counts 0 (length l)) 0 (omega arith)

pub state_count : (l : List (List (List ActionRow))) (p : ℕ) → length l ≤ 64 → OneOf p (length l) → get_or (counts_of l) p 0 ≡ length (get_or l (p - 1) [])
state_count l p few h =
    let z : 1 + (p - 1) ≡ p = omega arith in
    rw z at (own l 1 (set no_counts 0 (length l)) (p - 1) (omega arith) (omega arith))

-- ---- a test
module _ (t : Table) (few : length t.processes ≤ 64) (r : TestRow) where
  abbrev counts : List ℕ
  counts = counts_of t.processes

  in_states : (n b : ℕ) → state_ok n b ≡ true → (b ≡ err_state) ⊎ (b ≤ n)
  unfolding state_ok
  in_states n b e = go (eqb b err_state) refl e
    where
      go : (c : Bool) → eqb b err_state ≡ c → pick c true (leb b n) ≡ true → (b ≡ err_state) ⊎ (b ≤ n)
      go true h e = inl (eqb-true _ _ h)
      go false h e = inr (leb-true _ _ e)

  is_in_states : (n b : ℕ) → (b ≡ err_state) ⊎ (b ≤ n) → state_ok n b ≡ true
  unfolding state_ok
  is_in_states n b h = go (eqb b err_state) refl
    where
      go : (c : Bool) → eqb b err_state ≡ c → pick c true (leb b n) ≡ true
      go true e = refl
      go false e = le-leb _ _ (⊎_elim (λ (z : b ≡ err_state). absurd (eqb-false _ _ e z)) (λ (l : b ≤ n). l) h)

  -- what the looks ask under a kind
  abbrev Fields : ℕ → Type 0
  Fields v =
      (test_a_ok (tested_of t) v r.a ≡ true) × (pick (eqb v 2) (within 1 r.a (get_or counts 0 0)) true ≡ true)
      × (pick (eqb v 2) (state_ok (get_or counts r.a 0) r.b) true ≡ true)

  abbrev Says : ℕ → Type 0
  Says v = r.kind ≡ v → Fields v → TestAllowed t r

  second_look : Says 2
  second_look e o =
      let h : OneOf r.a (length t.processes) = range 1 r.a (length t.processes) (rw (process_count t.processes) at o.1) in
      in_state e h (in_states (states_in t r.a) r.b (rw (state_count t.processes r.a few h) at o.2))

  pub test_allowed : TestPasses (tested_of t) counts r → TestAllowed t r
  unfolding test_a_ok is_variable
  test_allowed h =
      peel Says 0 (λ e o. equals e (variable t r.a o.0))
      (peel Says 1 (λ e o. exceeds e (variable t r.a o.0))
      (peel Says 2 second_look
      (none_left Says)))
      r.kind (range 0 r.kind 2 h.kind) refl (h.a, h.process, h.state)

  packed : (v : ℕ) → v ≤ 2 → r.kind ≡ v → Fields v → TestPasses (tested_of t) counts r
  packed v l e f =
      let o : Fields r.kind = rw e f in
      record { kind = in_range 0 r.kind 2 (omega arith); a = o.0; process = o.1; state = o.2 }

  pub test_passes : TestAllowed t r → TestPasses (tested_of t) counts r
  unfolding test_a_ok is_variable
  test_passes (equals e h) = packed 0 (omega arith) e (is_variable_lem t r.a h, refl, refl)
  test_passes (exceeds e h) = packed 1 (omega arith) e (is_variable_lem t r.a h, refl, refl)
  test_passes (in_state e h b) =
      packed 2 (omega arith) e (
        refl,
        rw (process_count t.processes) (in_range 1 r.a (length t.processes) h),
        rw (state_count t.processes r.a few h) (is_in_states (states_in t r.a) r.b b),
      )
