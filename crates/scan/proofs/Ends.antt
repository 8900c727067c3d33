-- The loops of the read and of the write: what is left to be done to the variables gives the answer.
-- Assumes nothing.
use Prim.Native.Nat.{ℕ, suc, ◌+◌, ◌-◌, ◌<◌, ◌≤◌}
use mathlib.Core.Path.{◌≡◌, refl}
use mathlib.Core.List.{List}
use native.Mathlib.Omega.{arith}
use lib.ListN.{get_or, set}
use Rattle.lookups.specs.Places.{source_of, reading_of}
use Rattle.controller.specs.State.{value_at}
use Rattle.controller.specs.declared.Controller.{Controller}
use Rattle.scan.specs.Scanning.{taken, written}

-- A state with its variables changed, and nothing else.
abbrev pub with : (List ℕ → List ℕ) → Controller → Controller
with f c = record { variables = f c.variables; processes = c.processes; counter = c.counter }

-- For any change of so many places from a place on, one place after the other.
module _ (all : ℕ → ℕ → List ℕ → List ℕ) (one : ℕ → List ℕ → List ℕ)
    (none_left : (k : ℕ) (v : List ℕ) → all 0 k v ≡ v)
    (one_left : (m k : ℕ) (v : List ℕ) → all (suc m) k v ≡ all m (k + 1) (one k v)) where
  again : (n k : ℕ) (s t e : Controller) → k < n → t ≡ with (one k) s → with (all (n - k) k) s ≡ e → with (all (n - (k + 1)) (k + 1)) t ≡ e
  again n k s t e h q i =
      let d : n - k ≡ suc (n - (k + 1)) = omega arith in
      rw (q, ← one_left (n - (k + 1)) k s.variables, ← d) i

  last : (n k : ℕ) (s e : Controller) → n ≤ k → with (all (n - k) k) s ≡ e → s ≡ e
  last n k s e h i = let d : n - k ≡ 0 = omega arith in rw (d, none_left) at i

-- What the read's loop does at variable k, and the write's at output k.
abbrev pub takes : List ℕ → ℕ → ℕ → ℕ → List ℕ → List ℕ
takes I inputs done k v = set v k (reading_of I inputs done k)

abbrev pub writes : List ℕ → ℕ → List ℕ → List ℕ
writes T k v = set v (get_or T 0 0 + get_or T 1 0 + k) (value_at v (source_of T k))

module _ (n k : ℕ) (s : Controller) {e : Controller} where
  module _ (I : List ℕ) (done : ℕ) where
    pub taken_again : (t : Controller) → k < n → t ≡ with (takes I n done k) s → with (taken I n done (n - k) k) s ≡ e →
        with (taken I n done (n - (k + 1)) (k + 1)) t ≡ e
    unfolding taken
    taken_again t = again (taken I n done) (takes I n done) (λ k v. refl) (λ m k v. refl) n k s t e

    pub taken_last : n ≤ k → with (taken I n done (n - k) k) s ≡ e → s ≡ e
    unfolding taken
    taken_last = last (taken I n done) (takes I n done) (λ k v. refl) (λ m k v. refl) n k s e

  module _ (T : List ℕ) where
    pub written_again : (t : Controller) → k < n → t ≡ with (writes T k) s → with (written T (n - k) k) s ≡ e →
        with (written T (n - (k + 1)) (k + 1)) t ≡ e
    unfolding written
    written_again t = again (written T) (writes T) (λ k v. refl) (λ m k v. refl) n k s t e

    pub written_last : n ≤ k → with (written T (n - k) k) s ≡ e → s ≡ e
    unfolding written
    written_last = last (written T) (writes T) (λ k v. refl) (λ m k v. refl) n k s e
