-- The first look at a source, a number at a time: what is left to do gives the final answer and the final counts.
-- Assumes nothing.
use Prim.Native.Nat.{ℕ, ◌+◌, ◌≤◌, ◌<◌}
use native.Mathlib.Omega.{arith}
use mathlib.Core.Path.{◌≡◌, sym, ◌∙◌, ap}
use mathlib.Core.Logic.{⊎_elim}
use mathlib.Core.List.{List}
use lib.ListN.{length}
use borrow.Author.Tests.{lt-ltb, le-ltb}
use Rattle.coding.specs.Refusal.{NumberRead, Answer, value_then, refused_at}
use Rattle.std.specs.Prelude.{Ok, Err}
use Rattle.coding.specs.Code.{Places, Turn, Turns}
use Rattle.coding.specs.declared.Refusal.{Refusal}
use Rattle.coding.specs.declared.Cause.TheVariants.{LeftOver, NotAllowed}
use Rattle.ranges.specs.Order.{step_of}
use Rattle.ranges.specs.declared.Want.{Want}
use Rattle.ranges.specs.declared.Step.TheVariants.{More, Last, NotAllowed as Bad}
use Rattle.table.specs.declared.Role.{Role}
use Rattle.table.specs.Table.{role_of, noted, no_counts, ended, ended_at, check, counts_from}
use Rattle.table.specs.Working.Skipping.{Passes}
use Rattle.table.proofs.Steps.{check_item, counts_item, turned, stopped}
use Rattle.table.proofs.Stands.{few_behind}

-- whether something is left over shows by the place
module _ (n next size : ℕ) where
  pub some_left : next < size → refused_at LeftOver next ≡ ended_at n next size
  unfolding ended_at
  some_left h = rw (lt-ltb _ _ h)

  pub none_left : size ≤ next → Ok n ≡ ended_at n next size
  unfolding ended_at
  none_left h = rw (le-ltb _ _ h)

ends_at : (source : Places) (at n : ℕ) (r : NumberRead) → Turn source at r → ended_at n at source.size ≡ ended n (source.code at)
ends_at source at n (Ok num) t = rw t.0 (sym (some_left n at source.size (omega arith)))
ends_at source at n (Err why) t =
    ⊎_elim (λ o. rw o.2 (sym (none_left n at source.size o.0))) (λ o. rw o.1 (sym (some_left n at source.size o.0))) t.1

pub record Looks (most : ℕ) (source : Places) (first : Want) (counts : List ℕ) (want : Want) (at n : ℕ) : Type 0 where
  pub left : check most want n (source.code at) ≡ check most first 0 (source.code 0)
  pub kept : counts_from most want counts (source.code at) ≡ counts_from most first no_counts (source.code 0)
  pub room : length counts ≡ 65
  pub few : n ≤ at
  pub inside : at ≤ source.size

module _ {most : ℕ} {source : Places} {first : Want} {counts : List ℕ} {want : Want} {at n : ℕ}
    (i : Looks most source first counts want at n) where
  -- what is gone over quickly is as if looked at number by number
  pub skipped : {want' : Want} {at' n' : ℕ} → Passes source want at n want' at' n' → Looks most source first counts want' at' n'
  skipped p = record {
    left = sym (p.answers most) ∙ i.left;
    kept = sym (p.counts most counts) ∙ i.kept;
    room = i.room;
    few = few_behind p i.few;
    inside = p.inside i.inside;
  }

module _ {most : ℕ} {source : Places} (turns : Turns source) {first : Want} {counts : List ℕ} {want : Want} {at n : ℕ}
    (i : Looks most source first counts want at n) where
  pub stops : (why : Refusal) → Err why ≡ source.number at → Err why ≡ check most first 0 (source.code 0)
  unfolding check
  stops why e =
      let t = stopped source turns at why e in
      rw (t.0, ← i.left) (⊎_elim (λ o. rw (o.2, o.1)) (λ o. rw o.1) t.1)

  module _ (v next : ℕ) (e : value_then v next ≡ source.number at) where
    pub passes : (at < next) × (next ≤ source.size) × (n + 1 ≤ next)
    passes = let u = turned source turns at v next e in (u.1, u.2, omega (arith, i.few))

    pub refuses : Bad ≡ step_of most want v → refused_at NotAllowed at ≡ check most first 0 (source.code 0)
    refuses t = rw (← i.left, (turned source turns at v next e).0) (check_item most want at v _ Bad t n)

    pub finishes : (size : ℕ) (r : Answer) → size ≡ source.size → r ≡ ended_at (n + 1) next size → Last ≡ step_of most want v →
        (r ≡ check most first 0 (source.code 0)) × (counts ≡ counts_from most first no_counts (source.code 0))
    finishes size r z a t =
        let ended_there = ends_at source next (n + 1) (source.number next) (turns next) in
        rw (a, z, ended_there, ← i.left, ← i.kept, (turned source turns at v next e).0)
        (check_item most want at v _ Last t n, counts_item most want at v (source.code next) Last t counts)

    pub goes_on : (to : Want) (role : Role) (counts' : List ℕ) → More to ≡ step_of most want v → role ≡ role_of want → counts' ≡ noted role v counts →
        length counts' ≡ length counts → Looks most source first counts' to next (n + 1)
    goes_on to role counts' t k m l =
        let u = turned source turns at v next e in
        let m' : counts' ≡ noted (role_of want) v counts = m ∙ ap (λ (r : Role). noted r v counts) k in
        record {
          left = rw (← i.left, u.0) (check_item most want at v _ (More to) t n);
          kept = rw (m', ← i.kept, u.0) (counts_item most want at v (source.code next) (More to) t counts);
          room = l ∙ i.room;
          few = passes.2;
          inside = u.2;
        }
