-- That a row of numbers begins with those of a thing: laws that go both ways, and how they are put together to laws of greater things.
-- Assumes nothing.
use Prim.Native.Nat.{ℕ, zero, suc, ◌+◌}
use mathlib.Core.Path.{◌≡◌, refl, sym, ap, ◌∙◌}
use mathlib.Core.List.{List, [], ◌∷◌, ◌++◌, append_assoc}
use native.Mathlib.Omega.{arith}
use lib.ListN.{length}
use Rattle.lookups.specs.Structure.{in_order}
use Rattle.structure.specs.Allowed.{Each}

-- These numbers are those of a thing that is in order, and of what follows it `To` holds.
pub record Taken {A : Type 0} (numbers : A → List ℕ) (Ok : A → Type 0) (To : A → List ℕ → Type 0) (xs : List ℕ) : Type 0 where
  pub thing : A
  pub rest : List ℕ
  pub is : xs ≡ numbers thing ++ rest
  pub ok : Ok thing
  pub goes_on : To thing rest

-- `From` holds of just the numbers of such a thing, followed by what `To` holds of.
pub record Takes {A : Type 0} (numbers : A → List ℕ) (Ok : A → Type 0) (From : List ℕ → Type 0) (To : A → List ℕ → Type 0) : Type 0 where
  pub into : (x : A) (rest : List ℕ) → Ok x → To x rest → From (numbers x ++ rest)
  pub out : (xs : List ℕ) → From xs → Taken numbers Ok To xs

-- two parts in front of a rest
joined : {xs ys : List ℕ} (a b rest : List ℕ) → xs ≡ a ++ ys → ys ≡ b ++ rest → xs ≡ (a ++ b) ++ rest
joined a b rest p q = p ∙ ap (λ (l : List ℕ). a ++ l) q ∙ sym (append_assoc a b rest)

-- One number.
abbrev pub number : ℕ → List ℕ
number v = v ∷ []

pub single : {Ok : ℕ → Type 0} {From : List ℕ → Type 0} {To : ℕ → List ℕ → Type 0} →
    (From [] → ⊥) → ((v : ℕ) (rest : List ℕ) → Ok v → To v rest → From (v ∷ rest)) →
    ((v : ℕ) (rest : List ℕ) → From (v ∷ rest) → Ok v × To v rest) →
    Takes number Ok From To
single {Ok} {From} {To} nothing enter leave = record { into = enter; out = begun }
  where
    begun : (xs : List ℕ) → From xs → Taken number Ok To xs
    begun [] h = absurd (nothing h)
    begun (v ∷ rest) h = let r = leave v rest h in record { thing = v; rest = rest; is = refl; ok = r.0; goes_on = r.1 }

-- A thing, and then a second one.
module _ {A B : Type 0} {f : A → List ℕ} {g : B → List ℕ} {Ok : A → Type 0} {Also : A → B → Type 0}
    {From : List ℕ → Type 0} {Mid : A → List ℕ → Type 0} {To : A → B → List ℕ → Type 0} where
  pub and_then : Takes f Ok From Mid → ((x : A) → Takes g (Also x) (Mid x) (To x)) →
      Takes (λ (p : A × B). f p.0 ++ g p.1) (λ (p : A × B). Ok p.0 × Also p.0 p.1) From (λ (p : A × B). To p.0 p.1)
  and_then s t =
      record {
        into = λ p rest o h. rw append_assoc (s.into p.0 (g p.1 ++ rest) o.0 ((t p.0).into p.1 rest o.1 h));
        out = λ xs h.
            let a = s.out xs h in
            let b = (t a.thing).out a.rest a.goes_on in
            record {
              thing = (a.thing, b.thing);
              rest = b.rest;
              is = joined (f a.thing) (g b.thing) b.rest a.is b.is;
              ok = (a.ok, b.ok);
              goes_on = b.goes_on;
            };
      }

-- The same law of the same things in another guise.
module _ {A B : Type 0} {f : A → List ℕ} {Ok : A → Type 0} {From : List ℕ → Type 0} {To : A → List ℕ → Type 0}
    {g : B → List ℕ} {Fine : B → Type 0} {On : B → List ℕ → Type 0} where
  pub recast : Takes f Ok From To → (to : A → B) (back : B → A) →
      ((x : A) → f x ≡ g (to x)) → ((y : B) → f (back y) ≡ g y) →
      ((x : A) → Ok x → Fine (to x)) → ((y : B) → Fine y → Ok (back y)) →
      ((x : A) (rest : List ℕ) → To x rest → On (to x) rest) → ((y : B) (rest : List ℕ) → On y rest → To (back y) rest) →
      Takes g Fine From On
  recast s to back e b p q h k =
      record {
        into = λ y rest o n. rw (← b y) (s.into (back y) rest (q y o) (k y rest n));
        out = λ xs n.
            let a = s.out xs n in
            record {
              thing = to a.thing;
              rest = a.rest;
              is = rw (← e a.thing) a.is;
              ok = p a.thing a.ok;
              goes_on = h a.thing a.rest a.goes_on;
            };
      }

-- The same law from what is said in another way.
pub restated : {A : Type 0} {f : A → List ℕ} {Ok : A → Type 0} {From Before : List ℕ → Type 0} {To : A → List ℕ → Type 0} →
    Takes f Ok From To → ((xs : List ℕ) → Before xs → From xs) → ((xs : List ℕ) → From xs → Before xs) → Takes f Ok Before To
restated {f} s p q = record { into = λ x rest o h. q (f x ++ rest) (s.into x rest o h); out = λ xs h. s.out xs (p xs h) }

-- Several things one after another, the first with number i; of each something may be noted, in s. `At` holds where thing i is next and k are left
-- behind it, and `Done` after all of them.
abbrev pub Left : {S : Type 0} → (ℕ → ℕ → S → List ℕ → Type 0) → (S → List ℕ → Type 0) → ℕ → ℕ → S → List ℕ → Type 0
Left At Done i zero s = Done s
Left At Done i (suc k) s = At i k s

-- what is noted after them
abbrev pub outcome : {A S : Type 0} → (ℕ → A → S → S) → ℕ → List A → S → S
outcome note i [] s = s
outcome note i (x ∷ l) s = outcome note (suc i) l (note i x s)

-- the laws of one of them, where they run up to the number before `end`: of the last one, and of one that another follows
pub record One {A S : Type 0} (f : A → List ℕ) (Ok : ℕ → A → Type 0) (note : ℕ → A → S → S)
    (At : ℕ → ℕ → S → List ℕ → Type 0) (Done : S → List ℕ → Type 0) (end : ℕ) : Type 0 where
  pub last : (i : ℕ) (s : S) → i + 1 ≡ end → Takes f (Ok i) (At i 0 s) (λ (x : A). Done (note i x s))
  pub another : (i k : ℕ) (s : S) → i + suc (suc k) ≡ end → Takes f (Ok i) (At i (suc k) s) (λ (x : A). At (suc i) k (note i x s))

module _ {A S : Type 0} {f : A → List ℕ} {Ok : ℕ → A → Type 0} {note : ℕ → A → S → S}
    {At : ℕ → ℕ → S → List ℕ → Type 0} {Done : S → List ℕ → Type 0} {end : ℕ} (one : One f Ok note At Done end) where
  law : (i k : ℕ) (s : S) → i + suc k ≡ end → Takes f (Ok i) (At i k s) (λ (x : A). Left At Done (suc i) k (note i x s))
  law i zero s e = one.last i s e
  law i (suc k) s e = one.another i k s e

  abbrev Many : ℕ → ℕ → S → Type 0
  Many k i s = Takes (in_order f) (λ (l : List A). (length l ≡ k) × Each Ok i l) (Left At Done i k s) (λ (l : List A). Done (outcome note i l s))

  pub many : (k i : ℕ) (s : S) → i + k ≡ end → Many k i s
  unfolding in_order Each
  many zero i s e =
      record {
        into = λ l rest o h. none l rest o h;
        out = λ xs h. record { thing = []; rest = xs; is = refl; ok = (refl, tt); goes_on = h };
      }
    where
      none : (l : List A) (rest : List ℕ) → (length l ≡ 0) × Each Ok i l → Done (outcome note i l s) rest → Done s (in_order f l ++ rest)
      none [] rest o h = h
      none (x ∷ l) rest o h = absurd (omega (arith, o.0))
  many (suc k) i s e =
      record {
        into = λ l rest o h. some l rest o h (λ t z. many k (suc i) t z);
        out = λ xs h.
            let a = (law i k s e).out xs h in
            let b = (many k (suc i) (note i a.thing s) (omega arith)).out a.rest a.goes_on in
            record {
              thing = a.thing ∷ b.thing;
              rest = b.rest;
              is = joined (f a.thing) (in_order f b.thing) b.rest a.is b.is;
              ok = (ap suc b.ok.0, (a.ok, b.ok.1));
              goes_on = b.goes_on;
            };
      }
    where
      some : (l : List A) (rest : List ℕ) → (length l ≡ suc k) × Each Ok i l → Done (outcome note i l s) rest →
          ((t : S) → suc i + k ≡ end → Many k (suc i) t) →
          At i k s (in_order f l ++ rest)
      some [] rest o h ih = absurd (omega (arith, o.0))
      some (x ∷ l) rest o h ih =
          rw append_assoc
          ((law i k s e).into x (in_order f l ++ rest) o.1.0 ((ih (note i x s) (omega arith)).into l rest (omega (arith, o.0), o.1.1) h))

-- A count, and then so many things.
abbrev pub counted_numbers : {A : Type 0} → (A → List ℕ) → List A → List ℕ
counted_numbers f l = length l ∷ in_order f l

module _ {A : Type 0} (f : A → List ℕ) (Ok : ℕ → ℕ → A → Type 0) (i : ℕ) {Few : ℕ → Type 0}
    {From : List ℕ → Type 0} {Mid : ℕ → List ℕ → Type 0} (To : ℕ → List A → List ℕ → Type 0) where
  pub counted : Takes number Few From Mid → ((v : ℕ) → Few v → Takes (in_order f) (λ (l : List A). (length l ≡ v) × Each (Ok v) i l) (Mid v) (To v)) →
      Takes (counted_numbers f) (λ (l : List A). Few (length l) × Each (Ok (length l)) i l) From (λ (l : List A). To (length l) l)
  counted s t =
      record {
        into = λ l rest o h. s.into (length l) (in_order f l ++ rest) o.0 ((t (length l) o.0).into l rest (refl, o.1) h);
        out = λ xs h.
            let a = s.out xs h in
            let b = (t a.thing a.ok).out a.rest a.goes_on in
            record {
              thing = b.thing;
              rest = b.rest;
              is = rw b.ok.0 (a.is ∙ ap (λ (l : List ℕ). a.thing ∷ l) b.is);
              ok = (rw b.ok.0 a.ok, rw b.ok.0 b.ok.1);
              goes_on = rw b.ok.0 b.goes_on;
            };
      }
