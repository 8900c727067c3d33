-- The second look at a source, a number at a time: what is left to do gives the final answer.
-- Assumes nothing.
use Prim.Native.Nat.{ℕ, ◌≤◌, ◌<◌}
use mathlib.Core.Path.{◌≡◌, refl, sym, ◌∙◌, ap}
use mathlib.Core.Logic.{⊎_elim}
use mathlib.Core.List.{List}
use Rattle.std.specs.Prelude.{Err}
use Rattle.coding.specs.Refusal.{Answer, value_then}
use Rattle.coding.specs.Code.{Places, Turns}
use Rattle.coding.specs.declared.Refusal.{Refusal}
use Rattle.ranges.specs.Order.{step_of}
use Rattle.ranges.specs.declared.Want.{Want}
use Rattle.ranges.specs.declared.Step.{Step}
use Rattle.ranges.specs.declared.Step.TheVariants.{More, Last, NotAllowed as Bad}
use Rattle.table.specs.declared.Role.{Role}
use Rattle.table.specs.declared.tests.Ruling.{Ruling}
use Rattle.table.specs.declared.tests.Ruling.TheVariants.{Fine}
use Rattle.table.specs.Table.{role_of, test_says, tests_from, table_start}
use Rattle.table.proofs.Steps.{tests, shows, tests_item, turned, stopped}

pub record Tests (most : ℕ) (counts : List ℕ) (accepted : Answer) (source : Places) (want : Want) (at : ℕ) : Type 0 where
  pub left : tests_from most counts want (source.code at) accepted ≡ tests_from most counts table_start (source.code 0) accepted
  pub inside : at ≤ source.size

module _ {most : ℕ} {counts : List ℕ} {accepted : Answer} {source : Places} {want : Want} {at : ℕ}
    (turns : Turns source) (i : Tests most counts accepted source want at) where
  pub stops : (why : Refusal) → Err why ≡ source.number at → accepted ≡ tests_from most counts table_start (source.code 0) accepted
  unfolding tests_from
  stops why e = rw (← i.left) (⊎_elim (λ o. rw o.2) (λ o. rw o.1) (stopped source turns at why e).1)

  module _ (v next : ℕ) (e : value_then v next ≡ source.number at) where
    pub passes : (at < next) × (next ≤ source.size)
    passes = let u = turned source turns at v next e in (u.1, u.2)

    module _ (role : Role) (k : role ≡ role_of want) (says : Ruling) (f : says ≡ test_says counts role v) where
      -- on every way, by what is said of the number
      pub says_so : (t : Step) → t ≡ step_of most want v →
          shows (tests most counts accepted (source.code next) t) at accepted says
          ≡ tests_from most counts table_start (source.code 0) accepted
      says_so t g =
          rw (← i.left, (turned source turns at v next e).0)
          (tests_item most want at v (source.code next) t g counts accepted says (f ∙ ap (λ (r : Role). test_says counts r v) k))

    -- where the machine does not go on the first look has refused or accepted already
    pub no_more : (role : Role) → role ≡ role_of want → Fine ≡ test_says counts role v → ((to : Want) → step_of most want v ≡ More to → ⊥) →
        accepted ≡ tests_from most counts table_start (source.code 0) accepted
    no_more role k f other = go (step_of most want v) refl
      where
        go : (t : Step) → t ≡ step_of most want v → accepted ≡ tests_from most counts table_start (source.code 0) accepted
        go (More to) g = absurd (other to (sym g))
        go Last g = says_so role k Fine f Last g
        go Bad g = says_so role k Fine f Bad g

    pub goes_on : (role : Role) (to : Want) → role ≡ role_of want → Fine ≡ test_says counts role v → More to ≡ step_of most want v →
        Tests most counts accepted source to next
    goes_on role to k f t = record { left = says_so role k Fine f (More to) t; inside = passes.1 }
