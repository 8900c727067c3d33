-- A trace is accepted just where its bytes are a well-formed lasso; one refused for its steps is refused at the first that is at fault, and one that has no
-- other fault but a loop without an Output at the loop start.
-- Assumes nothing.
use Prim.Native.Nat.{ℕ, zero, suc, ◌+◌, ◌-◌, ◌*◌, ◌%◌, ◌≤◌, ◌<◌}
use native.Mathlib.Omega.{arith}
use native.Mathlib.Nat.{eq-or-lt_of_le, le_refl}
use mathlib.Core.Path.{◌≡◌, refl, sym, ◌∙◌}
use mathlib.Core.Logic.{◌⊎◌, inl, inr, ⊎_elim}
use mathlib.Core.Bool.{Bool, true, false, false≢true}
use mathlib.Core.List.{List}
use lib.ListN.{length}
use lib.Dec.{ltb, eqb}
use borrow.Author.Tests.{ltb-true, ltb-false, eqb-true, eqb-false, eq-eqb}
use Rattle.coding.specs.Refusal.{Answer, refused_at}
use Rattle.std.specs.Prelude.{Ok}
use Rattle.coding.specs.Number.{pick}
use Rattle.coding.specs.declared.Cause.{Cause}
use Rattle.coding.specs.declared.Cause.TheVariants.{BadTrace}
use Rattle.requirement.specs.declared.Phase.TheVariants.{Output}
use Rattle.meaning.specs.Trace.{WellFormed, Follows}
use Rattle.bits.specs.Rows.{after_of}
use Rattle.coding.proofs.Refusing.{same_cause, same_place}
use Rattle.lasso.specs.Bytes.{positions, phase_from, phase_byte, trace_of}
use Rattle.lasso.specs.Checking.{length_ok, may_follow, steps_from, output_from, check_by, check_trace}
use Rattle.lasso.proofs.Positions.{after_inside}
use Rattle.lasso.proofs.Steps.{with_output, without_output}

-- Position i has a phase, and what follows it has one that may follow.
pub record Fine (s : List ℕ) (start i : ℕ) : Type 0 where
  pub phase : phase_byte s i ≤ 2
  pub next : phase_byte s (after_of (positions s) start i) ≤ 2
  pub follows : Follows (phase_from (phase_byte s i)) (phase_from (phase_byte s (after_of (positions s) start i))) ≡ true

-- Position p is the first that is not so.
pub record FirstFault (s : List ℕ) (start p : ℕ) : Type 0 where
  pub inside : p < positions s
  pub before : (i : ℕ) → i < p → Fine s start i
  pub here : Fine s start p → ⊥

-- No position is at fault, but the loop holds no Output: the place is the loop start.
pub record Unwritten (s : List ℕ) (start p : ℕ) : Type 0 where
  pub fine : (i : ℕ) → i < positions s → Fine s start i
  pub none : (i : ℕ) → start ≤ i → i < positions s → phase_byte s i ≡ 2 → ⊥
  pub place : p ≡ start

-- What an accepted trace is.
pub record Lasso (s : List ℕ) (start n : ℕ) : Type 0 where
  pub count : n ≡ positions s
  pub some : 0 < n
  pub most : n ≤ 4096
  pub size : length s ≡ n * 5
  pub phases : (p : ℕ) → p < n → phase_byte s p ≤ 2
  pub well_formed : WellFormed (trace_of s start)

not_both : {n p : ℕ} {cause : Cause} → refused_at cause p ≡ Ok n → ⊥
not_both e = let z : ◌≡◌ {A = ℕ} 0 1 = cc in omega arith

-- ---- one step, of bytes and of phases
abbrev Step : ℕ → ℕ → Type 0
Step p q = (p ≤ 2) × (q ≤ 2) × (Follows (phase_from p) (phase_from q) ≡ true)

by : (t : Bool) {x y : Bool} {P : Type 0} → (t ≡ true → x ≡ true → P) → (t ≡ false → y ≡ true → P) → pick t x y ≡ true → P
by true f g e = f refl e
by false f g e = g refl e

same : {p q : ℕ} (a b : ℕ) → Step a b → eqb p a ≡ true → eqb q b ≡ true → Step p q
same {p} {q} a b h e f = rw (eqb-true p a e, eqb-true q b f) h

follow : (p q : ℕ) → may_follow p q ≡ true → Step p q
unfolding may_follow
follow p q =
    by (eqb p 0) (same 0 1 (omega arith, omega arith, refl))
    (λ _. by (eqb p 1) (λ a. by (eqb q 1) (λ b _. same 1 1 (omega arith, omega arith, refl) a b) (λ _. same 1 2 (omega arith, omega arith, refl) a))
    (λ _. by (eqb p 2) (same 2 0 (omega arith, omega arith, refl)) (λ _ e. absurd (false≢true e))))

may : (p q : ℕ) → p ≤ 2 → q ≤ 2 → Follows (phase_from p) (phase_from q) ≡ true → may_follow p q ≡ true
unfolding may_follow
may zero zero h k e = absurd (false≢true e)
may zero (suc zero) h k e = refl
may zero (suc (suc q)) h k e = absurd (false≢true e)
may (suc zero) zero h k e = absurd (false≢true e)
may (suc zero) (suc zero) h k e = refl
may (suc zero) (suc (suc zero)) h k e = refl
may (suc zero) (suc (suc (suc q))) h k e = absurd (omega arith)
may (suc (suc zero)) zero h k e = refl
may (suc (suc zero)) (suc zero) h k e = absurd (false≢true e)
may (suc (suc zero)) (suc (suc q)) h k e = absurd (false≢true e)
may (suc (suc (suc p))) q h k e = absurd (omega arith)

-- ---- the steps from position i up to position e
module _ (s : List ℕ) (start : ℕ) where
  abbrev allowed : ℕ → Bool
  allowed i = may_follow (phase_byte s i) (phase_byte s (after_of (positions s) start i))

  fine_allowed : (i : ℕ) → Fine s start i → allowed i ≡ true
  fine_allowed i f = may _ _ f.phase f.next f.follows

  allowed_fine : (i : ℕ) → allowed i ≡ true → Fine s start i
  allowed_fine i e = let (h, k, f) = follow _ _ e in record { phase = h; next = k; follows = f }

  abbrev AllFine : ℕ → ℕ → Type 0
  AllFine i e = (j : ℕ) → i ≤ j → j < e → Fine s start j

  abbrev Walked : Answer → ℕ → ℕ → Answer → Type 0
  Walked fine i e a =
      ((a ≡ fine) × AllFine i e) ⊎
      ((p : ℕ) × (a ≡ refused_at BadTrace p) × (i ≤ p) × (p < e) × AllFine i p × (Fine s start p → ⊥))

  with_here : (i e : ℕ) → Fine s start i → AllFine (i + 1) e → AllFine i e
  with_here i e f all j h k = ⊎_elim (λ (q : i ≡ j). rw (← q) f) (λ (l : i < j). all j (omega arith) k) (eq-or-lt_of_le h)

  on : (fine : Answer) (i e : ℕ) (a : Answer) → Fine s start i → Walked fine (i + 1) e a → Walked fine i e a
  on fine i e a f (inl (q, all)) = inl (q, with_here i e f all)
  on fine i e a f (inr (p, q, h, k, all, bad)) = inr (p, q, omega arith, k, with_here i p f all, bad)

  turn : (fine : Answer) (i e : ℕ) (a : Answer) (b : Bool) → i < e → allowed i ≡ b →
      Walked fine (i + 1) e a → Walked fine i e (pick b a (refused_at BadTrace i))
  turn fine i e a true h q w = on fine i e a (allowed_fine i q) w
  turn fine i e a false h q w = inr (i, refl, le_refl i, h, (λ j l m. absurd (omega arith)), λ f. false≢true (sym q ∙ fine_allowed i f))

  walked : (fine : Answer) (k i e : ℕ) → i + k ≡ e → Walked fine i e (steps_from may_follow s start k i fine)
  unfolding steps_from
  walked fine zero i e q = inl (refl, λ j l m. absurd (omega arith))
  walked fine (suc k) i e q = turn fine i e _ _ (omega arith) refl (walked fine k (i + 1) e (omega arith))

  to_the_end : (fine : Answer) → Walked fine 0 (positions s) (steps_from may_follow s start (positions s) 0 fine)
  to_the_end fine = walked fine (positions s) 0 (positions s) (omega arith)

  abbrev Where : ℕ → Cause → Type 0
  Where p cause = (cause ≡ BadTrace) × (FirstFault s start p ⊎ Unwritten s start p)

  refused_by : (fine : Answer) (p : ℕ) (cause : Cause) → (fine ≡ refused_at cause p → AllFine 0 (positions s) → Where p cause) →
      (a : Answer) → Walked fine 0 (positions s) a → a ≡ refused_at cause p → Where p cause
  refused_by fine p cause last a (inl (q, all)) e = last (sym q ∙ e) all
  refused_by fine p cause last a (inr (p', q, h, k, all, bad)) e =
      let f : FirstFault s start p' = record { inside = k; before = λ i l. all i (omega arith) l; here = bad } in
      let r = sym q ∙ e in
      let p_is : p' ≡ p = same_place r in
      let cause_is : cause ≡ BadTrace = sym (same_cause r) in
      (cause_is, inl (rw p_is at f))

  all_fine : AllFine 0 (positions s) → (fine : Answer) → steps_from may_follow s start (positions s) 0 fine ≡ fine
  all_fine all fine = ⊎_elim (λ (q, _). q) (λ (p, q, h, k, _, bad). absurd (bad (all p h k))) (to_the_end fine)

  fine_all : (fine : Answer) (n : ℕ) → steps_from may_follow s start (positions s) 0 fine ≡ Ok n → (fine ≡ Ok n) × AllFine 0 (positions s)
  fine_all fine n e = ⊎_elim (λ (q, all). (sym q ∙ e, all)) (λ (p, q, h, k, _, _). absurd (not_both (sym q ∙ e))) (to_the_end fine)

-- ---- an Output from position i on
module _ (s : List ℕ) where
  output_found : (k i : ℕ) → output_from s k i ≡ true → (j : ℕ) × (i ≤ j) × (j < i + k) × (phase_byte s j ≡ 2)
  unfolding output_from
  output_found zero i e = absurd (false≢true e)
  output_found (suc k) i e =
      by (eqb (phase_byte s i) 2) (λ t _. (i, le_refl i, omega arith, eqb-true (phase_byte s i) 2 t))
      (λ _ f. let (j, h, l, q) = output_found k (i + 1) f in (j, omega arith, omega arith, q))
      e

  output_is : (k i j : ℕ) → i ≤ j → j < i + k → phase_byte s j ≡ 2 → output_from s k i ≡ true
  unfolding output_from
  output_is zero i j h l q = absurd (omega arith)
  output_is (suc k) i j h l q =
      ⊎_elim (λ (e : i ≡ j). rw (eq-eqb (phase_byte s i) 2 (rw e q)))
      (λ (m : i < j). or_else (eqb (phase_byte s i) 2) (output_is k (i + 1) j (omega arith) (omega arith) q))
      (eq-or-lt_of_le h)
    where
      or_else : (b : Bool) {x : Bool} → x ≡ true → pick b true x ≡ true
      or_else true e = refl
      or_else false e = e

two : (x : ℕ) → x ≤ 2 → phase_from x ≡ Output → x ≡ 2
two zero h e = absurd (let z : ◌≡◌ {A = ℕ} 0 1 = cc in omega arith)
two (suc zero) h e = absurd (let z : ◌≡◌ {A = ℕ} 0 1 = cc in omega arith)
two (suc (suc x)) h e = omega arith

-- ---- the length
length_is : (n : ℕ) → length_ok n ≡ true → (0 < n) × (n ≤ 20480) × (n % 5 ≡ 0)
unfolding length_ok
length_is n =
    by (eqb n 0) (λ _ e. absurd (false≢true e))
    (λ f. by (ltb 20480 n) (λ _ e. absurd (false≢true e))
    (λ g e. (omega (arith, eqb-false n 0 f), ltb-false 20480 n g, eqb-true (n % 5) 0 e)))

-- ---- the three theorems
module _ (s : List ℕ) (start : ℕ) where
  lasso : length_ok (length s) ≡ true → start < positions s → output_from s (positions s - start) start ≡ true →
      ((i : ℕ) → 0 ≤ i → i < positions s → Fine s start i) → Lasso s start (positions s)
  lasso ok inside out all =
      let (h, k, m) = length_is (length s) ok in
      let (j, l, below, q) = output_found s (positions s - start) start out in
      record {
        count = refl;
        some = omega arith;
        most = omega arith;
        size = omega arith;
        phases = λ p h. (all p (omega arith) h).phase;
        well_formed = record { inside = inside; steps = λ i h. (all i (omega arith) h).follows; written = (j, l, omega arith, rw q) };
      }

  pub accepted_is_well_formed : (n : ℕ) → check_trace s start ≡ Ok n → Lasso s start n
  unfolding check_by
  accepted_is_well_formed n = go (length_ok (length s)) refl (ltb start (positions s)) refl (output_from s (positions s - start) start) refl
    where
      go : (a : Bool) → length_ok (length s) ≡ a → (b : Bool) → ltb start (positions s) ≡ b → (c : Bool) → output_from s (positions s - start) start ≡ c →
          pick a
          (pick b (steps_from may_follow s start (positions s) 0 (pick c (Ok (positions s)) (refused_at BadTrace start))) (refused_at BadTrace (positions s)))
          (refused_at BadTrace (length s))
          ≡ Ok n →
          Lasso s start n
      go false ok b i c o e = absurd (not_both e)
      go true ok false i c o e = absurd (not_both e)
      go true ok true i false o e = absurd (not_both (fine_all s start (refused_at BadTrace start) n e).0)
      go true ok true i true o e =
          let (q, all) = fine_all s start (Ok (positions s)) n e in
          let n_is : positions s ≡ n = cc in
          rw n_is at (lasso ok (ltb-true start (positions s) i) o all)

  pub well_formed_is_accepted : length_ok (length s) ≡ true → ((p : ℕ) → p < positions s → phase_byte s p ≤ 2) → WellFormed (trace_of s start) →
      check_trace s start ≡ Ok (positions s)
  well_formed_is_accepted ok phases w =
      let (i, h, k, o) = w.written in
      let out = output_is s (positions s - start) start i h (omega arith) (two (phase_byte s i) (phases i k) o) in
      sym (with_output may_follow s start ok w.inside out)
      ∙ all_fine s start
      (λ j _ m. record { phase = phases j m; next = phases _ (after_inside j w.inside); follows = w.steps j m })
      (Ok (positions s))

  -- "bad phase or followed by a phase not allowed (first such position); no Output in the loop (loop start)"
  pub refused_where : (p : ℕ) (cause : Cause) → length_ok (length s) ≡ true → start < positions s → check_trace s start ≡ refused_at cause p →
      (cause ≡ BadTrace) × (FirstFault s start p ⊎ Unwritten s start p)
  refused_where p cause ok inside e = go (output_from s (positions s - start) start) refl
    where
      go : (b : Bool) → output_from s (positions s - start) start ≡ b → Where s start p cause
      go true out =
          refused_by s start (Ok (positions s)) p cause (λ q all. absurd (not_both (sym q))) _ (to_the_end s start _)
          (with_output may_follow s start ok inside out ∙ e)
      go false out =
          refused_by s start (refused_at BadTrace start) p cause
          (λ q all.
          let cause_is : cause ≡ BadTrace = sym (same_cause q) in
          let p_is : p ≡ start = sym (same_place q) in (
            cause_is,
            inr
                (record {
                  fine = λ i h. all i (omega arith) h;
                  none = λ i h k two. false≢true (sym out ∙ output_is s (positions s - start) start i h (omega arith) two);
                  place = p_is;
                }),
          ))
          _ (to_the_end s start _) (without_output may_follow s start ok inside out ∙ e)
