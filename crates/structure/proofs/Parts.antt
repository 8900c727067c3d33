-- The processes of a table as the machine takes them: an action, the actions of a state, the states of a process, and all the processes.
-- Assumes nothing.
use Prim.Native.Nat.{ℕ, zero, suc, ◌+◌, ◌≤◌, ◌<◌}
use mathlib.Core.Path.{◌≡◌, refl}
use mathlib.Core.Bool.{Bool, true, false}
use mathlib.Core.List.{List, [], ◌∷◌}
use native.Mathlib.Omega.{arith}
use native.Mathlib.Numerals.{add-one}
use lib.ListN.{length, set}
use lib.Dec.{ltb}
use borrow.Author.Tests.{lt-ltb, le-ltb}
use Rattle.ranges.specs.Limits.{most_states, most_actions}
use Rattle.ranges.specs.Values.{pick, within, op_ok, x_ok, y_ok, uses_nexts, guard_ok, uses_else, next_ok}
use Rattle.ranges.specs.Order.{allowed, after_action, with_processes, step_of}
use Rattle.ranges.specs.declared.Shape.{Shape}
use Rattle.ranges.specs.declared.Spot.{Spot}
use Rattle.ranges.specs.declared.Want.{Want}
use Rattle.ranges.specs.declared.Want.TheVariants.{Processes, States, Actions, Op, X, Y, Guard, NextIf, NextElse}
use Rattle.ranges.specs.declared.Step.{Step}
use Rattle.ranges.specs.declared.Step.TheVariants.{More, Last, NotAllowed}
use Rattle.table.specs.Table.{role_of, noted, no_counts}
use Rattle.lookups.specs.declared.ActionRow.{ActionRow}
use Rattle.lookups.specs.Structure.{action_numbers, in_order, state_numbers, process_numbers}
use Rattle.structure.specs.Allowed.{Each}
use Rattle.structure.proofs.Takes.{Takes, number, and_then, recast, restated, One, outcome, many, single, counted, counted_numbers}
use Rattle.structure.proofs.Looks.{Ends, Ending, Passes}

-- Where an action stands: action a of k, in state s of n of process p.
abbrev pub spot_at : ℕ → ℕ → ℕ → ℕ → ℕ → Spot
spot_at p n s k a = record { process = p; states = n; state = s; actions = k; action = a }

-- What the machine asks of the six numbers of an action.
pub record ActionPasses (sh : Shape) (spot : Spot) (r : ActionRow) : Type 0 where
  pub op : op_ok spot r.op ≡ true
  pub x : x_ok sh spot r.op r.x ≡ true
  pub y : y_ok sh r.op r.y ≡ true
  pub guard : guard_ok sh r.op r.guard ≡ true
  pub taken : next_ok spot (uses_nexts r.op) r.next_if ≡ true
  pub other : next_ok spot (uses_else r.op r.guard) r.next_else ≡ true

-- Of the actions of a state, the states of a process and the processes.
abbrev pub StatePasses : Shape → ℕ → ℕ → ℕ → List ActionRow → Type 0
StatePasses sh p n s l = (within 1 (length l) most_actions ≡ true) × Each (λ a r. ActionPasses sh (spot_at p n s (length l) a) r) 1 l

abbrev pub ProcessPasses : Shape → ℕ → List (List ActionRow) → Type 0
ProcessPasses sh p l = (within 1 (length l) most_states ≡ true) × Each (λ s actions. StatePasses sh p (length l) s actions) 1 l

abbrev pub ProcessesPass : ℕ → Shape → List (List (List ActionRow)) → Type 0
ProcessesPass most sh l = (within 1 (length l) most ≡ true) × Each (λ p states. ProcessPasses (with_processes sh (length l)) p states) 1 l

-- What is noted of process p, and in the end of all the processes.
abbrev pub note : ℕ → List (List ActionRow) → List ℕ → List ℕ
note p l counts = set counts p (length l)

abbrev pub counts_of : List (List (List ActionRow)) → List ℕ
counts_of l = outcome note 1 l (set no_counts 0 (length l))

-- What comes after all the actions of a state, and after all the states of a process.
abbrev pub after_states : Shape → ℕ → Step
after_states sh p = pick (ltb p sh.processes) (More (States sh (p + 1))) Last

abbrev pub after_body : Shape → ℕ → ℕ → ℕ → Step
after_body sh p n s = pick (ltb s n) (More (Actions sh p n (s + 1))) (after_states sh p)

-- a value that must be allowed to go on
pub through : (P : Step → Type 0) → (P NotAllowed → ⊥) → (ok : Bool) (s : Step) → P (pick ok s NotAllowed) → (ok ≡ true) × P s
through P never true s h = (refl, h)
through P never false s h = absurd (never h)

pub past : (P : Step → Type 0) (ok : Bool) (s : Step) → ok ≡ true → P s → P (pick ok s NotAllowed)
past P ok s e h = rw e h

-- a count of at least 1 is not 0
none_within : (most : ℕ) → within 1 0 most ≡ true → ⊥
unfolding within
none_within most e = let z : ◌≡◌ {A = ℕ} 0 1 = cc in omega arith

module _ (most : ℕ) (final : List ℕ) where
  -- what holds of the rest after a number that is not noted
  abbrev After : List ℕ → Step → List ℕ → Type 0
  After counts t xs = Ending most final counts counts xs t

  -- one number of the first look
  ends_number : (counts : List ℕ) (w : Want) (ok : ℕ → Bool) (next : ℕ → Want) → ((v : ℕ) → step_of most w v ≡ allowed (ok v) (next v)) →
      Takes number (λ (v : ℕ). ok v ≡ true) (Ends most final counts w) (λ (v : ℕ). Ends most final (noted (role_of w) v counts) (next v))
  unfolding allowed
  ends_number counts w ok next e =
      single (λ h. h)
      (λ v rest o h. rw (e v) (past (Ending most final (noted (role_of w) v counts) counts rest) (ok v) (More (next v)) o h))
      (λ v rest h. through (Ending most final (noted (role_of w) v counts) counts rest) (λ z. z) (ok v) (More (next v)) (rw (e v) at h))

  -- ---- an action
  module _ (counts : List ℕ) (sh : Shape) (spot : Spot) where
    last_number : (op guard : ℕ) →
        Takes number (λ (v : ℕ). next_ok spot (uses_else op guard) v ≡ true) (Ends most final counts (NextElse sh spot op guard))
        (λ (v : ℕ). After counts (after_action sh spot))
    last_number op guard =
        single (λ h. h)
        (λ v rest o h. past (Ending most final counts counts rest) (next_ok spot (uses_else op guard) v) (after_action sh spot) o h)
        (λ v rest h. through (Ending most final counts counts rest) (λ z. z) (next_ok spot (uses_else op guard) v) (after_action sh spot) h)

    action : Takes action_numbers (ActionPasses sh spot) (Ends most final counts (Op sh spot)) (λ (r : ActionRow). After counts (after_action sh spot))
    action =
        recast
        (and_then (ends_number counts (Op sh spot) (op_ok spot) (X sh spot) (λ v. refl))
        (λ op. and_then (ends_number counts (X sh spot op) (x_ok sh spot op) (λ v. Y sh spot op) (λ v. refl))
        (λ x. and_then (ends_number counts (Y sh spot op) (y_ok sh op) (λ v. Guard sh spot op) (λ v. refl))
        (λ y. and_then (ends_number counts (Guard sh spot op) (guard_ok sh op) (NextIf sh spot op) (λ v. refl))
        (λ guard. and_then (ends_number counts (NextIf sh spot op guard) (next_ok spot (uses_nexts op)) (λ v. NextElse sh spot op guard) (λ v. refl))
        (λ n. last_number op guard))))))
        (λ p. record { op = p.0; x = p.1.0; y = p.1.1.0; guard = p.1.1.1.0; next_if = p.1.1.1.1.0; next_else = p.1.1.1.1.1 })
        (λ r. (r.op, (r.x, (r.y, (r.guard, (r.next_if, r.next_else))))))
        (λ p. refl) (λ r. refl)
        (λ p o. record { op = o.0; x = o.1.0; y = o.1.1.0; guard = o.1.1.1.0; taken = o.1.1.1.1.0; other = o.1.1.1.1.1 })
        (λ r o. (o.op, (o.x, (o.y, (o.guard, (o.taken, o.other))))))
        (λ p rest h. h) (λ r rest h. h)

  -- ---- things that are counted up: after thing i of v comes `want v (i + 1)`, and after the last one `done`
  module _ {A S : Type 0} (f : A → List ℕ) (Ok : ℕ → ℕ → A → Type 0) (note : ℕ → A → S → S) (counts : ℕ → S → List ℕ) (start : ℕ → S)
      (want : ℕ → ℕ → Want) (done : Step)
      (one : (v i : ℕ) (s : S) →
      Takes f (Ok v i) (Ends most final (counts v s) (want v i))
      (λ (x : A). After (counts v (note i x s)) (pick (ltb i v) (More (want v (i + 1))) done))) where
    one_of : (v : ℕ) → One f (Ok v) note (λ (i left : ℕ) (s : S). Ends most final (counts v s) (want v i)) (λ (s : S). After (counts v s) done) (suc v)
    one_of v =
        record {
          last = λ i s e. let h : v ≤ i = omega arith in rw (le-ltb i v h) at (one v i s);
          another = λ i left s e. let h : i < v = omega arith in rw (lt-ltb i v h, add-one) at (one v i s);
        }

    -- their count comes first, and is 1 at least
    counted_up : {From : List ℕ → Type 0} (top : ℕ) →
        Takes number (λ (v : ℕ). within 1 v top ≡ true) From (λ (v : ℕ). Ends most final (counts v (start v)) (want v 1)) →
        Takes (counted_numbers f) (λ (l : List A). (within 1 (length l) top ≡ true) × Each (Ok (length l)) 1 l) From
        (λ (l : List A). After (counts (length l) (outcome note 1 l (start (length l)))) done)
    counted_up top count =
        counted f Ok 1 (λ (v : ℕ) (l : List A). After (counts v (outcome note 1 l (start v))) done) count some
      where
        some : (v : ℕ) → within 1 v top ≡ true →
            Takes (in_order f) (λ (l : List A). (length l ≡ v) × Each (Ok v) 1 l) (Ends most final (counts v (start v)) (want v 1))
            (λ (l : List A). After (counts v (outcome note 1 l (start v))) done)
        some zero e = absurd (none_within top e)
        some (suc k) e = many (one_of (suc k)) (suc k) 1 (start (suc k)) (omega arith)

  state : (counts : List ℕ) (sh : Shape) (p n s : ℕ) →
      Takes state_numbers (StatePasses sh p n s) (Ends most final counts (Actions sh p n s)) (λ (l : List ActionRow). After counts (after_body sh p n s))
  unfolding state_numbers after_action
  state counts sh p n s =
      counted_up action_numbers (λ k a r. ActionPasses sh (spot_at p n s k a) r) (λ a r (u : Unit {0}). u) (λ k u. counts) (λ k. tt)
      (λ k a. Op sh (spot_at p n s k a)) (after_body sh p n s)
      (λ k a u. action counts sh (spot_at p n s k a))
      most_actions (ends_number counts (Actions sh p n s) (λ v. within 1 v most_actions) (λ v. Op sh (spot_at p n s v 1)) (λ v. refl))

  process : (counts : List ℕ) (sh : Shape) (p : ℕ) →
      Takes process_numbers (ProcessPasses sh p) (Ends most final counts (States sh p))
      (λ (l : List (List ActionRow)). After (set counts p (length l)) (after_states sh p))
  unfolding process_numbers
  process counts sh p =
      counted_up state_numbers (λ n s l. StatePasses sh p n s l) (λ s l (u : Unit {0}). u) (λ n u. set counts p n) (λ n. tt)
      (λ n s. Actions sh p n s) (after_states sh p)
      (λ n s u. state (set counts p n) sh p n s)
      most_states (ends_number counts (States sh p) (λ v. within 1 v most_states) (λ v. Actions sh p v 1) (λ v. refl))

  -- behind the tests, only the first look is left
  behind : (sh : Shape) (xs : List ℕ) → Passes most final no_counts (Processes sh) xs → Ends most final no_counts (Processes sh) xs
  behind sh [] h = h
  behind sh (v ∷ xs) h = h

  behind_back : (sh : Shape) (xs : List ℕ) → Ends most final no_counts (Processes sh) xs → Passes most final no_counts (Processes sh) xs
  behind_back sh [] h = h
  behind_back sh (v ∷ xs) h = h

  pub processes : (sh : Shape) →
      Takes (counted_numbers process_numbers) (ProcessesPass most sh) (Passes most final no_counts (Processes sh))
      (λ (l : List (List (List ActionRow))) (xs : List ℕ). (xs ≡ []) × (counts_of l ≡ final))
  processes sh =
      counted_up process_numbers (λ n p l. ProcessPasses (with_processes sh n) p l) note (λ n counts. counts) (λ n. set no_counts 0 n)
      (λ n p. States (with_processes sh n) p) Last
      (λ n p counts. process counts (with_processes sh n) p)
      most
      (restated (ends_number no_counts (Processes sh) (λ v. within 1 v most) (λ v. States (with_processes sh v) 1) (λ v. refl)) (behind sh) (behind_back sh))
