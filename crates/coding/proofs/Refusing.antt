-- What the exit of a `?` answers: the refusal that was met. And refusals told apart: of two that are equal, cause and place are. Definitions give them as one value; laws often speak of the parts.
-- Assumes nothing.
use Prim.Native.Nat.{ℕ}
use mathlib.Core.Path.{◌≡◌, ap}
use Rattle.std.specs.Prelude.{Result, Ok, Err}
use Rattle.std.specs.Result.{IsErrAnd}
use Rattle.std.proofs.lemmas.Result.{err_from_is_err_and}
use Rattle.coding.specs.Refusal.{refused_at}
use Rattle.coding.specs.declared.Cause.{Cause}
use Rattle.coding.specs.declared.Refusal.{Refusal}

pub handed_on : {A : Type 0} (r wanted : Result A Refusal) {why : Refusal} → IsErrAnd r (λ y. y ≡ why) → Err why ≡ wanted → r ≡ wanted
handed_on r wanted i e = let p = err_from_is_err_and r i in rw (p.1, p.2) e

-- what is refused, or d where nothing is
refusal_or : {A : Type 0} → Refusal → Result A Refusal → Refusal
refusal_or d (Ok x) = d
refusal_or d (Err why) = why

module _ {A : Type 0} {cause cause' : Cause} {place place' : ℕ} (e : refused_at {A = A} cause place ≡ refused_at cause' place') where
  same_refusal : ◌≡◌ {A = Refusal} (record { cause = cause; place = place }) (record { cause = cause'; place = place' })
  unfolding refusal_or
  same_refusal = ap (refusal_or (record { cause = cause; place = place })) e

  pub same_cause : cause ≡ cause'
  same_cause = ap (λ (why : Refusal). why.cause) same_refusal

  pub same_place : place ≡ place'
  same_place = ap (λ (why : Refusal). why.place) same_refusal
