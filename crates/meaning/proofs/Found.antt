-- The findings, picked out of the row: the one list that `Findings` asks for. Assumes nothing.
use Prim.Native.Nat.{ℕ, suc, zero, ◌≤◌, ◌<◌, ◌+◌}
use native.Mathlib.Omega.{arith}
use native.Mathlib.Nat.{eq-or-lt_of_le}
use mathlib.Core.Path.{◌≡◌, refl, sym, ap, ◌∙◌}
use mathlib.Core.Logic.{◌⊎◌, inl, inr, ⊎_elim}
use mathlib.Core.Bool.{Bool, true, false, So, false≢true}
use mathlib.Core.List.Memᴰ
use mathlib.Core.List.{List, [], ◌∷◌, Memᴰ}
use Rattle.requirement.specs.declared.Phase.TheVariants.{Input}
use Rattle.requirement.specs.declared.One.TheVariants.{Not}
use Rattle.requirement.specs.declared.Two.TheVariants.{And}
use Rattle.requirement.specs.Requirement.{Requirement, mark, one, two}
use Rattle.meaning.specs.Trace.{Trace, WellFormed}
use Rattle.meaning.specs.Rows.{judge}
use Rattle.meaning.specs.Meaning.{Holds, Says, Says₂}
use Rattle.meaning.specs.Findings.{Ascending, Findings, put, select}
use Rattle.meaning.proofs.Judged.{judged, stored}

lower : (m n : ℕ) (l : List ℕ) → n ≤ m → Ascending m l → Ascending n l
lower m n [] h a = tt
lower m n (x ∷ xs) h a = (omega arith, a.1)

put_up : (c : Bool) (i n : ℕ) (l : List ℕ) → n ≤ i → Ascending (suc i) l → Ascending n (put c i l)
put_up true i n l h a = (h, a)
put_up false i n l h a = lower (suc i) n l (omega arith) a

put_in : (c : Bool) (i j : ℕ) (l : List ℕ) → Memᴰ j (put c i l) → ((j ≡ i) × So c) ⊎ Memᴰ j l
put_in true i j l m = ⊎_elim (λ e. inl (e, refl)) inr (Memᴰ.cases_cons m)
put_in false i j l m = inr m

in_put : (c : Bool) (i j : ℕ) (l : List ℕ) → ((j ≡ i) × So c) ⊎ Memᴰ j l → Memᴰ j (put c i l)
in_put true i j l (inl e) = Memᴰ.head e.0
in_put true i j l (inr m) = Memᴰ.tail m
in_put false i j l (inl e) = absurd (false≢true e.1)
in_put false i j l (inr m) = m

module _ (b : ℕ → Bool) where
  select_up : (k i n : ℕ) → n ≤ i → Ascending n (select b k i)
  unfolding select
  select_up zero i n h = tt
  select_up (suc k) i n h = put_up (b i) i n _ h (select_up k (suc i) (suc i) (omega arith))

  selected : (k i j : ℕ) → Memᴰ j (select b k i) → (i ≤ j) × (j < i + k) × So (b j)
  unfolding select
  selected zero i j m = absurd (Memᴰ.not-nil m)
  selected (suc k) i j m =
      ⊎_elim (λ (e, s). (omega arith, omega arith, rw e s)) (λ x. let (p, q, s) = selected k (suc i) j x in (omega arith, omega arith, s))
      (put_in (b i) i j _ m)

  selects : (k i j : ℕ) → i ≤ j → j < i + k → So (b j) → Memᴰ j (select b k i)
  unfolding select
  selects zero i j p q s = absurd (omega arith)
  selects (suc k) i j p q s =
      in_put (b i) i j _
      (⊎_elim (λ (e : i ≡ j). inl (sym e, rw e s)) (λ l. inr (selects k (suc i) j l (omega arith) s)) (eq-or-lt_of_le p))

-- Input positions at which f fails are those at which (Input and not f) holds, read off its row.
pub found : {t : Trace} (w : WellFormed t) (f : Requirement) → Findings t f (select (judge t (two And (mark Input) (one Not f))) t.len 0)
unfolding Holds Says Says₂
found {t} w f =
    record {
      ascending = select_up row t.len 0 0 (omega arith);
      exactly = λ i. (
        λ m.
            let (p, q, s) = selected row t.len 0 i m in
            let l : i < t.len = omega arith in
            let x = ((judged w (two And (mark Input) (one Not f))).at i).1 (rw (stored w i l) s) in
            (l, sym (ap t.phase_at (stored w i l)) ∙ x.0, x.1),
        λ (l, p, x).
            selects row t.len 0 i (omega arith) (omega arith)
            (rw (stored w i l) at (((judged w (two And (mark Input) (one Not f))).at i).0 (ap t.phase_at (stored w i l) ∙ p, x))),
      );
    }
  where
    row : ℕ → Bool
    row = judge t (two And (mark Input) (one Not f))
