-- The bytes of a run's trace: at each position the phase and the atoms of the state of that number.
-- Assumes nothing.
use Prim.Native.Nat.{ℕ, zero, suc, ◌+◌, ◌*◌, ◌/◌, ◌%◌, ◌<◌, ◌≤◌}
use native.Mathlib.Omega.{arith}
use mathlib.Core.Path.{◌≡◌, refl, ap, ◌∙◌}
use mathlib.Core.Bool.{Bool}
use mathlib.Core.List.{List, [], ◌++◌}
use lib.ListN.{length, get_or, length-append, get_or-append}
use lib.Seq.{get_or-append-add}
use Rattle.requirement.specs.declared.Phase.{Phase}
use Rattle.requirement.specs.declared.Phase.TheVariants.{Input, Exe, Output}
use Rattle.bits.specs.Bits.{bit_b, digit}
use Rattle.bits.proofs.Digits.{digit_lt, odd_digit, half}
use Rattle.lasso.specs.Bytes.{phase_number, positions, phase_from, phase_byte, atom_b}
use Rattle.controller.specs.State.{states_of}
use Rattle.controller.specs.declared.Controller.{Controller}
use Rattle.scan.specs.Guards.{atom_of}
use Rattle.scan.specs.Position.{packed, atom_byte, atom_bytes, state_bytes}
use Rattle.run.specs.Trace.{path, trace_bytes}
use Rattle.endless.specs.Recorded.{state_at}

-- ---- truths packed into a number
pub packed_bit : (n : ℕ) (f : ℕ → Bool) (i k : ℕ) → k < n → bit_b (packed n f i) k ≡ f (i + k)
unfolding packed bit_b
packed_bit zero f i k h = absurd (omega arith)
packed_bit (suc n) f i zero h =
    let e : digit (f i) + 2 * packed n f (i + 1) ≡ packed n f (i + 1) * 2 + digit (f i) = omega arith in
    let z : i + 0 ≡ i = omega arith in
    rw (e, z) (odd_digit (packed n f (i + 1)) (f i))
packed_bit (suc n) f i (suc k) h =
    let e : digit (f i) + 2 * packed n f (i + 1) ≡ packed n f (i + 1) * 2 + digit (f i) = omega arith in
    let z : i + suc k ≡ i + 1 + k = omega arith in
    rw (e, half (packed n f (i + 1)) (digit (f i)) (digit_lt (f i)), z) (packed_bit n f (i + 1) k (omega arith))

-- ---- one state
pub phase_back : (p : Phase) → phase_from (phase_number p) ≡ p
phase_back Input = refl
phase_back Exe = refl
phase_back Output = refl

pub phase_small : (p : Phase) → phase_number p ≤ 2
phase_small Input = omega arith
phase_small Exe = omega arith
phase_small Output = omega arith

module _ (T : List ℕ) (p : Phase) (c : Controller) where
  size_is : length (state_bytes T p c) ≡ 5
  unfolding state_bytes atom_bytes
  size_is = refl

  phase_is : get_or (state_bytes T p c) 0 0 ≡ phase_number p
  unfolding state_bytes
  phase_is = refl

  abbrev atom : ℕ → Bool
  atom = atom_of T c.variables (states_of c.processes)

  byte_is : (g : ℕ) → g < 4 → get_or (state_bytes T p c) (1 + g) 0 ≡ packed 8 atom (8 * g)
  unfolding state_bytes atom_bytes atom_byte
  byte_is zero h = refl
  byte_is (suc zero) h = refl
  byte_is (suc (suc zero)) h = refl
  byte_is (suc (suc (suc zero))) h = refl
  byte_is (suc (suc (suc (suc g)))) h = absurd (omega arith)

  atom_is : (k : ℕ) → k < 32 → bit_b (get_or (state_bytes T p c) (1 + k / 8) 0) (k % 8) ≡ atom k
  atom_is k h =
      let e : 8 * (k / 8) + k % 8 ≡ k = omega arith in
      rw (byte_is (k / 8) (omega arith)) (packed_bit 8 atom (8 * (k / 8)) (k % 8) (omega arith) ∙ ap atom e)

-- ---- states one after another
module _ (T I : List ℕ) where
  abbrev bytes_at : ℕ → List ℕ
  bytes_at i = state_bytes T (state_at T I i).phase (state_at T I i).state

  path_more : (n i : ℕ) → path T I (suc n) (state_at T I i) ≡ bytes_at i ++ path T I n (state_at T I (suc i))
  unfolding path state_at
  path_more n i = refl

  path_none : (i : ℕ) → path T I 0 (state_at T I i) ≡ []
  unfolding path
  path_none i = refl

  path_size : (n i : ℕ) → length (path T I n (state_at T I i)) ≡ n * 5
  path_size zero i = rw (path_none i)
  path_size (suc n) i =
      rw (path_more n i, length-append (bytes_at i) (path T I n (state_at T I (suc i))), size_is T (state_at T I i).phase (state_at T I i).state, path_size n (suc i)) (omega arith)

  path_byte : (n i p k : ℕ) → p < n → k < 5 → get_or (path T I n (state_at T I i)) (p * 5 + k) 0 ≡ get_or (bytes_at (i + p)) k 0
  path_byte zero i p k h l = absurd (omega arith)
  path_byte (suc n) i zero k h l =
      let e : 0 * 5 + k ≡ k = omega arith in
      let z : i + 0 ≡ i = omega arith in
      let size = size_is T (state_at T I i).phase (state_at T I i).state in
      rw (path_more n i, e, z) (get_or-append (bytes_at i) (path T I n (state_at T I (suc i))) 0 k (omega arith))
  path_byte (suc n) i (suc p) k h l =
      let size = size_is T (state_at T I i).phase (state_at T I i).state in
      let e : suc p * 5 + k ≡ length (bytes_at i) + (p * 5 + k) = omega arith in
      let z : i + suc p ≡ suc i + p = omega arith in
      rw (path_more n i, e, z) (get_or-append-add (bytes_at i) (path T I n (state_at T I (suc i))) (p * 5 + k) 0 ∙ path_byte n (suc i) p k (omega arith) l)

  -- ---- the trace
  trace_is : (n : ℕ) → trace_bytes T I n ≡ path T I n (state_at T I 0)
  unfolding state_at
  trace_is n = refl

  pub trace_size : (n : ℕ) → length (trace_bytes T I n) ≡ n * 5
  trace_size n = rw (trace_is n) (path_size n 0)

  pub positions_is : (n : ℕ) → positions (trace_bytes T I n) ≡ n
  positions_is n = let size = trace_size n in omega arith

  trace_byte : (n p k : ℕ) → p < n → k < 5 → get_or (trace_bytes T I n) (p * 5 + k) 0 ≡ get_or (bytes_at p) k 0
  trace_byte n p k h l = let z : 0 + p ≡ p = omega arith in rw (trace_is n) (rw z at (path_byte n 0 p k h l))

  pub trace_phase : (n p : ℕ) → p < n → phase_byte (trace_bytes T I n) p ≡ phase_number (state_at T I p).phase
  trace_phase n p h =
      let e : p * 5 + 0 ≡ p * 5 = omega arith in
      rw e at (trace_byte n p 0 h (omega arith)) ∙ phase_is T (state_at T I p).phase (state_at T I p).state

  pub trace_atom : (n p k : ℕ) → p < n → k < 32 → atom_b (trace_bytes T I n) k p ≡ atom_of T (state_at T I p).state.variables (states_of (state_at T I p).state.processes) k
  unfolding atom_b
  trace_atom n p k h l =
      let e : p * 5 + 1 + k / 8 ≡ p * 5 + (1 + k / 8) = omega arith in
      rw (e, trace_byte n p (1 + k / 8) h (omega arith)) (atom_is T (state_at T I p).phase (state_at T I p).state k l)
