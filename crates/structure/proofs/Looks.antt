-- The two looks at a row of numbers, said of the numbers alone: the grammar of a table accepts a row just if they are passed.
-- Assumes nothing.
use Prim.Native.Nat.{ℕ, suc, ◌+◌}
use mathlib.Core.Path.{◌≡◌, refl, ap, ◌∙◌}
use mathlib.Core.List.{List, [], ◌∷◌}
use native.Mathlib.Omega.{arith}
use lib.ListN.{length}
use Rattle.coding.specs.Refusal.{Answer}
use Rattle.std.specs.Prelude.{Ok, Err}
use Rattle.coding.specs.Code.{Code, item, end, broken, values}
use Rattle.coding.proofs.Trips.{Clean}
use Rattle.ranges.specs.Order.{step_of}
use Rattle.ranges.specs.declared.Want.{Want}
use Rattle.ranges.specs.declared.Step.{Step}
use Rattle.ranges.specs.declared.Step.TheVariants.{More, Last, NotAllowed}
use Rattle.table.specs.declared.tests.Ruling.{Ruling}
use Rattle.table.specs.declared.tests.Ruling.TheVariants.{Fine, Wrong, Behind}
use Rattle.table.specs.Table.{role_of, noted, test_says, no_counts, table_start, ended, check, counts_from, tests_from, tested, table_grammar}
use Rattle.table.proofs.Steps.{checks, counts, tests, shows}
use Rattle.table.proofs.Fair.{fair_table}

-- What holds after one number, by what the machine answers to it.
abbrev pub Then : (Want → Type 0) → Type 0 → Step → Type 0
Then more last (More next) = more next
Then more last Last = last
Then more last NotAllowed = ⊥

-- The first look: where `want` is wanted and `kept` is noted, the machine takes these numbers and no more, and in the end `final` is noted.
abbrev pub Ends : ℕ → List ℕ → List ℕ → Want → List ℕ → Type 0
Ends most final kept want [] = ⊥
Ends most final kept want (v ∷ xs) = Then (λ next. Ends most final (noted (role_of want) v kept) next xs) ((xs ≡ []) × (kept ≡ final)) (step_of most want v)

-- What holds by what the second look says of a number.
abbrev pub Unless : Type 0 → Type 0 → Ruling → Type 0
Unless fine behind Fine = fine
Unless fine behind Wrong = ⊥
Unless fine behind Behind = behind

-- Both looks: the tests are fine by the final counts, and what lies behind them passes the first look.
abbrev pub Passes : ℕ → List ℕ → List ℕ → Want → List ℕ → Type 0
Passes most final kept want [] = ⊥
Passes most final kept want (v ∷ xs) =
    Unless (Then (λ next. Passes most final (noted (role_of want) v kept) next xs) ((xs ≡ []) × (kept ≡ final)) (step_of most want v))
    (Ends most final kept want (v ∷ xs)) (test_says final (role_of want) v)

-- What holds of the rest of the numbers, by the machine's answer to the last: where more is wanted `after` is noted, and else `kept`.
abbrev pub Ending : ℕ → List ℕ → List ℕ → List ℕ → List ℕ → Step → Type 0
Ending most final after kept xs t = Then (λ next. Ends most final after next xs) ((xs ≡ []) × (kept ≡ final)) t

abbrev pub Passing : ℕ → List ℕ → List ℕ → List ℕ → List ℕ → Step → Type 0
Passing most final after kept xs t = Then (λ next. Passes most final after next xs) ((xs ≡ []) × (kept ≡ final)) t

-- What holds if an answer accepts.
abbrev pub If : Answer → Type 0 → Type 0
If (Ok n) P = P
If (Err why) P = Unit {0}

module _ (most : ℕ) where
  -- ---- from the grammar to the numbers
  pub first : (c : Code) (want : Want) (n : ℕ) (kept : List ℕ) → If (check most want n c) (Ends most (counts_from most want kept c) kept want (values c))
  unfolding check counts_from
  first (end p) want n kept = tt
  first (broken cause p) want n kept = tt
  first (item p v c) want n kept =
      let after = noted (role_of want) v kept in
      elim (step_of most want v) as (λ t. If (checks most n p c t) (Ending most (counts most kept after c t) after kept (values c) t))
      [ More to ↦ first c to (n + 1) after | Last ↦ last c | NotAllowed ↦ tt ]
    where
      last : (d : Code) → If (ended (n + 1) d) ((values d ≡ []) × (kept ≡ kept))
      last (item q x d) = tt
      last (end q) = (refl, refl)
      last (broken cause q) = tt

  module _ (final : List ℕ) (n : ℕ) where
    second : (c : Code) (want : Want) (kept : List ℕ) → Ends most final kept want (values c) →
        If (tests_from most final want c (Ok n)) (Passes most final kept want (values c))
    unfolding tests_from
    second (end p) want kept h = absurd h
    second (broken cause p) want kept h = absurd h
    second (item p v c) want kept h =
        let after = noted (role_of want) v kept in
        let fine =
        (elim (step_of most want v) as (λ t. Ending most final after kept (values c) t → If (tests most final (Ok n) c t) (Passing most final after kept (values c) t))
        [ More to ↦ λ k. second c to after k | Last ↦ λ k. k | NotAllowed ↦ λ k. absurd k ])
        h in
        elim (test_says final (role_of want) v)
        as (λ s.
        If (shows (tests most final (Ok n) c (step_of most want v)) p (Ok n) s)
        (Unless (Passing most final after kept (values c) (step_of most want v)) (Ends most final kept want (v ∷ values c)) s))
        [ Fine ↦ fine | Wrong ↦ tt | Behind ↦ h ]

  -- ---- from the numbers to the grammar
  module _ (final : List ℕ) where
    pub first_back : (c : Code) (want : Want) (n : ℕ) (kept : List ℕ) → Clean c → Ends most final kept want (values c) →
        (check most want n c ≡ Ok (n + length (values c))) × (counts_from most want kept c ≡ final)
    unfolding check counts_from
    first_back (end p) want n kept l h = absurd h
    first_back (broken cause p) want n kept l h = absurd h
    first_back (item p v c) want n kept l h =
        let after = noted (role_of want) v kept in
        (elim (step_of most want v)
        as (λ t. Ending most final after kept (values c) t → (checks most n p c t ≡ Ok (n + suc (length (values c)))) × (counts most kept after c t ≡ final)) [
          | More to ↦ λ k. let r = first_back c to (n + 1) after l k in (r.0 ∙ ap Ok (omega arith), r.1)
          | Last ↦ λ k. (none_left c l k.0, k.1)
          | NotAllowed ↦ λ k. absurd k
        ])
        h
      where
        none_left : (d : Code) → Clean d → values d ≡ [] → ended (n + 1) d ≡ Ok (n + suc (length (values d)))
        none_left (item q x d) k e = let z : ◌≡◌ {A = ℕ} 0 1 = cc in absurd (omega arith)
        none_left (end q) k e = ap Ok (omega arith)
        none_left (broken cause q) k e = absurd k

    second_back : (accepted : Answer) (c : Code) (want : Want) (kept : List ℕ) → Passes most final kept want (values c) →
        Ends most final kept want (values c) × (tests_from most final want c accepted ≡ accepted)
    unfolding tests_from
    second_back accepted (end p) want kept h = absurd h
    second_back accepted (broken cause p) want kept h = absurd h
    second_back accepted (item p v c) want kept h =
        let after = noted (role_of want) v kept in
        let fine =
        elim (step_of most want v)
        as (λ t. Passing most final after kept (values c) t → Ending most final after kept (values c) t × (tests most final accepted c t ≡ accepted))
        [ More to ↦ λ k. second_back accepted c to after k | Last ↦ λ k. (k, refl) | NotAllowed ↦ λ k. absurd k ]
        in
        (elim (test_says final (role_of want) v)
        as (λ s.
        Unless (Passing most final after kept (values c) (step_of most want v)) (Ends most final kept want (v ∷ values c)) s →
        Ends most final kept want (v ∷ values c) × (shows (tests most final accepted c (step_of most want v)) p accepted s ≡ accepted))
        [ Fine ↦ fine | Wrong ↦ λ k. absurd k | Behind ↦ λ k. (k, refl) ])
        h

  -- ---- the grammar
  -- An accepted row is all numbers, as many as were counted, and they pass.
  pub record Read (c : Code) (n : ℕ) : Type 0 where
    pub clean : Clean c
    pub count : n ≡ length (values c)
    pub final : List ℕ
    pub passes : Passes most final no_counts table_start (values c)

  pub read : (c : Code) (n : ℕ) → table_grammar most c ≡ Ok n → Read c n
  unfolding table_grammar
  read c n e =
      record {
        clean = (fair_table most).clean c n e;
        count = (fair_table most).counts c n e;
        final = counts_from most table_start no_counts c;
        passes = by_answer (check most table_start 0 c) (first c table_start 0 no_counts) e;
      }
    where
      by_answer : (a : Answer) → If a (Ends most (counts_from most table_start no_counts c) no_counts table_start (values c)) → tested most c a ≡ Ok n →
          Passes most (counts_from most table_start no_counts c) no_counts table_start (values c)
      by_answer (Ok m) h t = rw t at (second (counts_from most table_start no_counts c) m c table_start no_counts h)
      by_answer (Err why) h t = let z : ◌≡◌ {A = ℕ} 0 1 = cc in absurd (omega arith)

  -- A row that is all numbers, and whose numbers pass, is accepted.
  pub read_back : (final : List ℕ) (c : Code) → Clean c → Passes most final no_counts table_start (values c) → table_grammar most c ≡ Ok (length (values c))
  unfolding table_grammar
  read_back final c l h =
      let s = second_back final (Ok (length (values c))) c table_start no_counts h in
      let f = first_back final c table_start 0 no_counts l s.0 in
      let same : 0 + length (values c) ≡ length (values c) = omega arith in
      rw (f.0, same, f.1) s.1
