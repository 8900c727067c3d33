-- Records obeyed one after another.
-- Assumes nothing: these are definitions.
use Rattle.std.specs.Prelude.{ℕ, List}
use Rattle.std.specs.declared.option.Option.{Option}
use Rattle.std.specs.declared.option.Option.TheVariants.{Some, None}
use Rattle.std.specs.List.{FoldsTo}

module _ {C : Type 0} (stands : List ℕ → Option C → List ℕ → Type 0)
    (writes : C → Option (List ℕ) → Option (List ℕ) → Type 0) where
  -- What is left of the input, and the bytes of the writer where they are known.
  abbrev pub State : Type 0
  State = List ℕ × Option (List ℕ)

  -- A record stands at the front, and is obeyed.
  abbrev pub Step : State → C → State → Type 0
  Step before one after = stands before.0 (Some one) after.0 × writes one before.1 after.1

  -- The records that stand in the input, from its front on, are obeyed in turn, each once; behind the last stands none
  -- that is whole.
  abbrev pub Obeyed : List ℕ → Option (List ℕ) → Option (List ℕ) → Type 0
  Obeyed input before after =
      (records : List C) × (left : List ℕ) × (end : List ℕ)
      × FoldsTo Step (input, before) records (left, after) × stands left None end
