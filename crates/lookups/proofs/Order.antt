-- Things that stand one after another in a list of numbers, and a walk from one to the next.
-- Assumes nothing.
use Prim.Native.Nat.{ℕ, zero, suc, ◌+◌, ◌*◌, ◌≤◌, ◌<◌}
use mathlib.Core.Path.{◌≡◌, refl, sym, ap, ◌∙◌}
use mathlib.Core.List.{List, [], ◌∷◌, ◌++◌, append_assoc, append-nil}
use native.Mathlib.Nat.{le_refl, le_of_lt}
use native.Mathlib.Omega.{arith}
use lib.ListN.{length, get_or, drop, get_or-append}
use lib.Seq.{get_or-drop, drop-drop, drop_at, drop-cons, drop-length}
use Rattle.lookups.specs.Structure.{in_order}

-- From a place on, T begins with these numbers.
pub record From (T : List ℕ) (at : ℕ) (s : List ℕ) : Type 0 where
  pub rest : List ℕ
  pub is : drop at T ≡ s ++ rest

module _ {T : List ℕ} {at : ℕ} where
  -- The number i places on, and the first.
  pub nth : {s : List ℕ} → From T at s → (i : ℕ) → i < length s → get_or T (at + i) 0 ≡ get_or s i 0
  nth {s} h i l = sym (get_or-drop at T i 0) ∙ ap (λ (r : List ℕ). get_or r i 0) h.is ∙ get_or-append s h.rest 0 i l

  pub first : {x : ℕ} {s : List ℕ} → From T at (x ∷ s) → get_or T at 0 ≡ x
  first h = let e : at ≡ at + 0 = omega arith in ap (λ (n : ℕ). get_or T n 0) e ∙ nth h 0 (omega arith)

  -- Of two parts, the first part stands there, and the second after it.
  pub front : (p s : List ℕ) → From T at (p ++ s) → From T at p
  front p s h = record { rest = s ++ h.rest; is = h.is ∙ append_assoc p s h.rest }

  pub past : {s : List ℕ} (p : List ℕ) → From T at (p ++ s) → From T (at + length p) s
  past {s} p h =
      record {
        rest = h.rest;
        is =
            sym (drop-drop (length p) at T)
            ∙ ap (drop (length p)) (h.is ∙ append_assoc p s h.rest)
            ∙ drop_at p (s ++ h.rest) (length p) refl;
      }

  pub next : {x : ℕ} {s : List ℕ} → From T at (x ∷ s) → From T (at + 1) s
  next {x} h = past (x ∷ []) h

-- A walk over things whose numbers `f` gives: by no step it stays, and each further step passes one thing.
pub record Walk {A : Type 0} (T : List ℕ) (f : A → List ℕ) (step : ℕ → ℕ) (walk : ℕ → ℕ → ℕ) : Type 0 where
  pub none : (at : ℕ) → walk 0 at ≡ at
  pub more : (k at : ℕ) → walk (suc k) at ≡ walk k (step at)
  pub pass : (x : A) (at : ℕ) (s : List ℕ) → From T at (f x ++ s) → From T (step at) s

module _ {A : Type 0} {T : List ℕ} {f : A → List ℕ} {step : ℕ → ℕ} {walk : ℕ → ℕ → ℕ} (w : Walk T f step walk) where
  pub walked : (xs : List A) (s : List ℕ) (k at : ℕ) → k ≤ length xs → From T at (in_order f xs ++ s) → From T (walk k at) (in_order f (drop k xs) ++ s)
  unfolding in_order
  walked xs s zero at l h = rw (w.none at) h
  walked [] s (suc k) at l h = absurd (omega arith)
  walked (x ∷ xs) s (suc k) at l h = rw (w.more k at) (walked xs s k (step at) (omega arith) (w.pass x at (in_order f xs ++ s) (rw append_assoc at h)))

  -- After all of them comes what follows them.
  pub after_all : (xs : List A) (s : List ℕ) (at : ℕ) → From T at (in_order f xs ++ s) → From T (walk (length xs) at) s
  unfolding in_order
  after_all xs s at h = rw (drop-length xs) at (walked xs s (length xs) at (le_refl (length xs)) h)

  -- After k of them comes the one with number k, from 0.
  pub item : (xs : List A) (d : A) (k at : ℕ) → k < length xs → From T at (in_order f xs) → From T (walk k at) (f (get_or xs k d))
  unfolding in_order
  item xs d k at l h =
      front (f (get_or xs k d)) (in_order f (drop (suc k) xs)) (rw (append-nil, drop-cons xs k d l) at (walked xs [] k at (le_of_lt l) (rw append-nil h)))

-- Things of n numbers each.
pub blocks : {A : Type 0} (T : List ℕ) (f : A → List ℕ) (n : ℕ) → ((x : A) → length (f x) ≡ n) → Walk T f (λ (at : ℕ). at + n) (λ (k at : ℕ). at + n * k)
blocks T f n e =
    record {
      none = λ at. omega arith;
      more = λ k at. omega arith;
      pass = λ x at s h. rw (e x) at (past (f x) h);
    }
