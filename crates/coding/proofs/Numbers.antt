-- What `number_at` says on each way through `read_number`.
-- Assumes nothing.
use Prim.Native.Nat.{ℕ, ◌+◌, ◌-◌, ◌*◌, ◌≤◌, ◌<◌}
use native.Mathlib.Nat.{add_assoc}
use mathlib.Core.Path.{◌≡◌}
use mathlib.Core.List.{List}
use lib.ListN.{length, get_or, drop, drop_of_length-le}
use borrow.Author.Tests.{lt-ltb, le-ltb, eq-eqb, ne_eqb}
use Rattle.coding.specs.Working.Rows.{drop_at}
use Rattle.coding.specs.Refusal.{value_then, refused_at}
use Rattle.coding.specs.Number.{number_at, second, third, placed}
use Rattle.coding.specs.declared.Cause.TheVariants.{CutShort, NotShortest, TooLarge}

module _ (s : List ℕ) (at : ℕ) where
  pub no_first : length s ≤ at → refused_at CutShort at ≡ number_at s at
  unfolding number_at
  no_first h = rw (drop_of_length-le s h)

  pub one : at < length s → get_or s at 0 < 128 → value_then (get_or s at 0) (at + 1) ≡ number_at s at
  unfolding number_at
  one h lo = rw (drop_at s at h, lt-ltb _ _ lo)

  module _ (h : at < length s) (hi : 128 ≤ get_or s at 0) where
    more : number_at s at ≡ placed at (second (get_or s at 0 - 128) (drop (at + 1) s))
    unfolding number_at
    more = rw (drop_at s at h, le-ltb _ _ hi)

    pub no_second : length s ≤ at + 1 → refused_at CutShort at ≡ number_at s at
    no_second h₁ = rw (more, drop_of_length-le s h₁)

    module _ (h₁ : at + 1 < length s) where
      pub zero_second : get_or s (at + 1) 0 ≡ 0 → refused_at NotShortest at ≡ number_at s at
      zero_second z = rw (more, drop_at s (at + 1) h₁, eq-eqb _ _ z)

      module _ (nz : get_or s (at + 1) 0 ≡ 0 → ⊥) where
        pub two : get_or s (at + 1) 0 < 128 → value_then (get_or s at 0 - 128 + get_or s (at + 1) 0 * 128) (at + 1 + 1) ≡ number_at s at
        two lo = rw (more, drop_at s (at + 1) h₁, ne_eqb _ _ nz, lt-ltb _ _ lo, add_assoc at 1 1)

        module _ (hi₁ : 128 ≤ get_or s (at + 1) 0) where
          more₂ : number_at s at ≡ placed at (third (get_or s at 0 - 128 + (get_or s (at + 1) 0 - 128) * 128) (drop (at + 1 + 1) s))
          more₂ = rw (more, drop_at s (at + 1) h₁, ne_eqb _ _ nz, le-ltb _ _ hi₁)

          pub no_third : length s ≤ at + 1 + 1 → refused_at CutShort at ≡ number_at s at
          no_third h₂ = rw (more₂, drop_of_length-le s h₂)

          module _ (h₂ : at + 1 + 1 < length s) where
            pub zero_third : get_or s (at + 1 + 1) 0 ≡ 0 → refused_at NotShortest at ≡ number_at s at
            zero_third z = rw (more₂, drop_at s (at + 1 + 1) h₂, eq-eqb _ _ z)

            module _ (nz₂ : get_or s (at + 1 + 1) 0 ≡ 0 → ⊥) where
              pub big_third : 3 < get_or s (at + 1 + 1) 0 → refused_at TooLarge at ≡ number_at s at
              big_third big = rw (more₂, drop_at s (at + 1 + 1) h₂, ne_eqb _ _ nz₂, lt-ltb _ _ big)

              pub three : get_or s (at + 1 + 1) 0 ≤ 3 →
                  value_then (get_or s at 0 - 128 + (get_or s (at + 1) 0 - 128) * 128 + get_or s (at + 1 + 1) 0 * 16384) (at + 1 + 1 + 1) ≡ number_at s at
              three lo = rw (more₂, drop_at s (at + 1 + 1) h₂, ne_eqb _ _ nz₂, le-ltb _ _ lo, add_assoc (at + 1) 1 1, add_assoc at 1 2)

-- every way through `read_number`
pub ruleset ways = (no_first, one, no_second, zero_second, two, no_third, zero_third, big_third, three)
