-- Rows of the same numbers are looked at alike, wherever the numbers stand.
-- Assumes nothing.
use Prim.Native.Nat.{ℕ, ◌+◌}
use native.Mathlib.Omega.{arith}
use mathlib.Core.Path.{◌≡◌, refl}
use mathlib.Core.List.{List}
use Rattle.coding.specs.Refusal.{Answer}
use Rattle.std.specs.Prelude.{Ok, Err}
use Rattle.coding.specs.Code.{Code, item, end, broken, values}
use Rattle.coding.proofs.Trips.{Clean}
use Rattle.ranges.specs.Order.{step_of}
use Rattle.ranges.specs.declared.Want.{Want}
use Rattle.ranges.specs.declared.Step.TheVariants.{More, Last, NotAllowed as Bad}
use Rattle.table.specs.declared.tests.Ruling.TheVariants.{Fine, Wrong, Behind}
use Rattle.table.specs.Table.{role_of, noted, test_says, ended, check, counts_from, tests_from}
use Rattle.table.proofs.Steps.{checks, counts, tests, shows}

pub data Alike : Code → Code → Type 0 where
  ends : {p q : ℕ} → Alike (end p) (end q)
  items : {p q v : ℕ} {c d : Code} → Alike c d → Alike (item p v c) (item q v d)

pub alike : (c d : Code) → Clean c → Clean d → values c ≡ values d → Alike c d
alike (end p) (end q) k l e = ends
alike (end p) (item q x d) k l e = let z : ◌≡◌ {A = ℕ} 0 1 = cc in absurd (omega arith)
alike (end p) (broken cause q) k l e = absurd l
alike (item p v c) (end q) k l e = let z : ◌≡◌ {A = ℕ} 0 1 = cc in absurd (omega arith)
alike (item p v c) (item q x d) k l e =
    let h : v ≡ x = cc in
    let t : values c ≡ values d = cc in
    rw h (items (alike c d k l t))
alike (item p v c) (broken cause q) k l e = absurd l
alike (broken cause p) d k l e = absurd k

-- what the first accepts so, the second accepts so
abbrev pub Follows : Answer → Answer → Type 0
Follows (Ok n) r = r ≡ Ok n
Follows (Err why) r = Unit {0}

pub follows_self : (a : Answer) → Follows a a
follows_self (Ok n) = refl
follows_self (Err why) = tt

ended_alike : {c d : Code} → Alike c d → (n : ℕ) → Follows (ended n c) (ended n d)
ended_alike ends n = refl
ended_alike (items a) n = tt

module _ (most : ℕ) where
  pub check_alike : {c d : Code} → Alike c d → (want : Want) (n : ℕ) → Follows (check most want n c) (check most want n d)
  unfolding check
  check_alike ends want n = tt
  check_alike (items {p} {q} {v} {c} {d} a) want n =
      elim (step_of most want v) as (λ t. Follows (checks most n p c t) (checks most n q d t))
      [ More to ↦ check_alike a to (n + 1) | Last ↦ ended_alike a (n + 1) | Bad ↦ tt ]

  pub counts_alike : {c d : Code} → Alike c d → (want : Want) (kept : List ℕ) → counts_from most want kept c ≡ counts_from most want kept d
  unfolding counts_from
  counts_alike ends want kept = refl
  counts_alike (items {p} {q} {v} {c} {d} a) want kept =
      let after = noted (role_of want) v kept in
      elim (step_of most want v) as (λ t. counts most kept after c t ≡ counts most kept after d t)
      [ More to ↦ counts_alike a to after | Last ↦ refl | Bad ↦ refl ]

  module _ (kept : List ℕ) (accepted : Answer) where
    pub tests_alike : {c d : Code} → Alike c d → (want : Want) → Follows (tests_from most kept want c accepted) (tests_from most kept want d accepted)
    unfolding tests_from
    tests_alike ends want = follows_self accepted
    tests_alike (items {p} {q} {v} {c} {d} a) want =
        let fine =
        elim (step_of most want v) as (λ t. Follows (tests most kept accepted c t) (tests most kept accepted d t))
        [ More to ↦ tests_alike a to | Last ↦ follows_self accepted | Bad ↦ follows_self accepted ]
        in
        elim (test_says kept (role_of want) v)
        as (λ says. Follows (shows (tests most kept accepted c (step_of most want v)) p accepted says) (shows (tests most kept accepted d (step_of most want v)) q accepted says))
        [ Fine ↦ fine | Wrong ↦ tt | Behind ↦ follows_self accepted ]

    -- the second look accepts nothing else than the first
    pub tests_pass : (c : Code) (want : Want) → Follows (tests_from most kept want c accepted) accepted
    unfolding tests_from
    tests_pass (end p) want = follows_self accepted
    tests_pass (broken cause p) want = follows_self accepted
    tests_pass (item p v c) want =
        let fine =
        elim (step_of most want v) as (λ t. Follows (tests most kept accepted c t) accepted)
        [ More to ↦ tests_pass c to | Last ↦ follows_self accepted | Bad ↦ follows_self accepted ]
        in
        elim (test_says kept (role_of want) v) as (λ says. Follows (shows (tests most kept accepted c (step_of most want v)) p accepted says) accepted)
        [ Fine ↦ fine | Wrong ↦ tt | Behind ↦ follows_self accepted ]
