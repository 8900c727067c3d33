-- From one stand of the first look to a later one, over numbers that are allowed and not kept.
-- Assumes nothing.
use Rattle.std.specs.Prelude.{Ok}
use Prim.Native.Nat.{ℕ, ◌+◌, ◌-◌, ◌≤◌, ◌<◌}
use native.Mathlib.Omega.{arith}
use mathlib.Core.Path.{◌≡◌, refl, sym, ◌∙◌, ap}
use mathlib.Core.Bool.{Bool, true}
use lib.Dec.{leb}
use borrow.Author.Tests.{lt-ltb, lt-leb}
use Rattle.coding.specs.declared.Number.{Number}
use Rattle.coding.specs.Refusal.{value_then}
use Rattle.coding.specs.Code.{Places, Turns}
use Rattle.ranges.specs.Values.{pick, op_ok, x_ok, y_ok, guard_ok, next_ok, uses_nexts, uses_else}
use Rattle.ranges.specs.Order.{allowed, after_action, step_of}
use Rattle.ranges.specs.declared.Shape.{Shape}
use Rattle.ranges.specs.declared.Spot.{Spot}
use Rattle.ranges.specs.declared.Want.{Want}
use Rattle.ranges.specs.declared.Want.TheVariants.{Op, Reading}
use Rattle.ranges.specs.declared.Step.TheVariants.{More, Last, NotAllowed}
use Rattle.table.specs.declared.Role.{Role}
use Rattle.table.specs.declared.Role.TheVariants.{Other}
use Rattle.table.specs.Table.{role_of, noted}
use Rattle.table.specs.Working.Skipping.{Passes, Taken, onward}
use Rattle.table.proofs.Steps.{check_item, counts_item, turned}

-- where a number leads that is allowed
pub leads : {ok : Bool} (to : Want) → ok ≡ true → More to ≡ allowed ok to
unfolding allowed
leads to h = rw h

pub leads_onward : {ok : Bool} (sh : Shape) (spot : Spot) → spot.action < spot.actions → ok ≡ true → More (Op sh (onward spot)) ≡ pick ok (after_action sh spot) NotAllowed
unfolding after_action
leads_onward sh spot l h = rw (h, lt-ltb _ _ l)

pub reads_on : (left : ℕ) → 1 < left → More (Reading (left - 1)) ≡ pick (leb left 1) Last (More (Reading (left - 1)))
reads_on left l = rw (lt-leb _ _ l)

module _ {source : Places} where
  pub joined : {want want' want'' : Want} {at n at' n' at'' n'' : ℕ} → Passes source want at n want' at' n' → Passes source want' at' n' want'' at'' n'' →
      Passes source want at n want'' at'' n''
  joined p q = record {
    answers = λ most. p.answers most ∙ q.answers most;
    counts = λ most kept. p.counts most kept ∙ q.counts most kept;
    later = omega (arith, p.later, q.later);
    few = omega (arith, p.few, q.few);
    inside = λ h. q.inside (p.inside h);
  }

  -- so many numbers behind, where no more were behind than places
  pub few_behind : {want want' : Want} {at n at' n' : ℕ} → Passes source want at n want' at' n' → n ≤ at → n' ≤ at'
  few_behind p h = omega (arith, p.few)

  module _ (turns : Turns source) {at v next : ℕ} (e : value_then v next ≡ source.number at) {want to : Want} (t : (most : ℕ) → More to ≡ step_of most want v) (o : Other ≡ role_of want) where
    pub passed : (n : ℕ) → Passes source want at n to next (n + 1)
    passed n =
        let u = turned source turns at v next e in
        record {
          answers = λ most. rw u.0 (sym (check_item most want at v _ (More to) (t most) n));
          counts = λ most kept.
              let k : kept ≡ noted (role_of want) v kept = ap (λ (r : Role). noted r v kept) o in
              rw (u.0, ← counts_item most want at v (source.code next) (More to) (t most) kept, ← k) refl;
          later = omega (arith, u.1);
          few = omega (arith, u.1);
          inside = λ h. u.2;
        }
    -- the last k + 1 numbers of an action, from the last k

  -- the count is what it comes to
  pub counted : {want want' : Want} {at n at' n' m : ℕ} → Passes source want at n want' at' n' → n' ≡ m → Passes source want at n want' at' m
  counted p e = rw (← e) p

  -- a whole action
  pub acted : {first : Want} {from behind at n next : ℕ} {sh : Shape} {spot : Spot} → Passes source first from behind (Op sh spot) at n →
      Taken source sh spot at next → Passes source first from behind (Op sh (onward spot)) next (n + 6)
  acted p t = joined p (t _)

  -- the six numbers of an action that is not the last of its body, each allowed
  pub six : (turns : Turns source) (sh : Shape) (spot : Spot) (at : ℕ) (op x y guard next_if next_else : Number) → spot.action < spot.actions →
      Ok op ≡ source.number at → op_ok spot op.value ≡ true →
      Ok x ≡ source.number op.next → x_ok sh spot op.value x.value ≡ true →
      Ok y ≡ source.number x.next → y_ok sh op.value y.value ≡ true →
      Ok guard ≡ source.number y.next → guard_ok sh op.value guard.value ≡ true →
      Ok next_if ≡ source.number guard.next → next_ok spot (uses_nexts op.value) next_if.value ≡ true →
      Ok next_else ≡ source.number next_if.next → next_ok spot (uses_else op.value guard.value) next_else.value ≡ true →
      Taken source sh spot at next_else.next
  six turns sh spot at op x y guard next_if next_else more e₁ k₁ e₂ k₂ e₃ k₃ e₄ k₄ e₅ k₅ e₆ k₆ n =
      counted
      (joined (passed turns e₁ (λ most. leads _ k₁) refl n)
      (joined (passed turns e₂ (λ most. leads _ k₂) refl (n + 1))
      (joined (passed turns e₃ (λ most. leads _ k₃) refl (n + 1 + 1))
      (joined (passed turns e₄ (λ most. leads _ k₄) refl (n + 1 + 1 + 1))
      (joined (passed turns e₅ (λ most. leads _ k₅) refl (n + 1 + 1 + 1 + 1))
      (passed turns e₆ (λ most. leads_onward sh spot more k₆) refl (n + 1 + 1 + 1 + 1 + 1)))))))
      (omega arith)

  -- one more reading
  pub seen : (turns : Turns source) {first : Want} {from behind at n left v next : ℕ} → Passes source first from behind (Reading left) at n →
      value_then v next ≡ source.number at → 1 < left → Passes source first from behind (Reading (left - 1)) next (n + 1)
  seen turns p e l = joined p (passed turns e (λ most. reads_on _ l) refl _)
