-- What tests see, put into its list one after another; and the atoms that the tests laid out give of it.
-- Assumes nothing.
use Prim.Native.Nat.{ℕ, zero, suc, ◌+◌, ◌-◌, ◌*◌, ◌≤◌, ◌<◌}
use mathlib.Core.Path.{◌≡◌, refl, sym, ◌∙◌}
use mathlib.Core.Logic.{⊎_elim, ◌≢◌}
use mathlib.Core.Bool.{Bool, true, false}
use mathlib.Core.List.{List, [], ◌∷◌}
use native.Mathlib.Omega.{arith}
use native.Mathlib.Nat.{eq-or-lt_of_le}
use mir.Val.{bool_byte}
use lib.ListN.{length, get_or, set, length-set}
use Rattle.std.proofs.lemmas.List.{get_or_default}
use lib.Seq.{get_or-set_same, get_or-set_other}
use Rattle.bits.specs.Bits.{digit}
use Rattle.controller.specs.State.{none, stop, value_at, state_at, states_of}
use Rattle.controller.specs.Seen.{same_seen}
use Rattle.controller.specs.declared.Controller.{Controller}
use Rattle.controller.proofs.Equal.{same_seen_equal}
use Rattle.scan.specs.Guards.{atom_of}
use Rattle.scan.specs.Position.{packed, atom_byte, atom_bytes}
use Rattle.scan.proofs.Position.{packed_small}
use lib.Pow.{pow_mono}
use Rattle.run.specs.Working.Atoms.{Sees, SeesValues, LaidOut, laid_atom}
use Rattle.run.specs.declared.laid.Laid.{Laid}

-- one more of what is put into a list, each at its own place
put_more : (r : List ℕ) (place : ℕ → ℕ) (n y : ℕ) (g : ℕ → ℕ) → place n < length r → ((x : ℕ) → x < n → place x ≢ place n) → y ≡ g n →
    ((x : ℕ) → x < n → get_or r (place x) 0 ≡ g x) → (x : ℕ) → x < n + 1 → get_or (set r (place n) y) (place x) 0 ≡ g x
put_more r place n y g h apart e held x k =
    ⊎_elim
    (λ (q : x ≡ n). rw q (get_or-set_same r (place n) y 0 h ∙ e))
    (λ (l : x < n). get_or-set_other r (place n) (place x) y 0 (apart x l) ∙ held x l)
    (eq-or-lt_of_le (omega arith))

-- ---- the values
pub record ValuesTo (n : ℕ) (v s r : List ℕ) : Type 0 where
  pub few : n ≤ 32
  pub size : length r ≡ length s
  pub value : (x : ℕ) → x < n → get_or r x 0 ≡ value_at v x

module _ (v s : List ℕ) where
  pub value_more : (n : ℕ) (r : List ℕ) → length s ≡ 42 → length v ≡ 32 → n < 32 → ValuesTo n v s r → ValuesTo (n + 1) v s (set r n (get_or v n 0))
  unfolding value_at
  value_more n r room e h held =
      let size = held.size in
      record {
        few = omega arith;
        size = length-set r n (get_or v n 0) ∙ size;
        value = put_more r (λ x. x) n (get_or v n 0) (value_at v) (omega arith) (λ x l. omega arith) (get_or_default v n 0 none (omega arith)) held.value;
      }

  pub all_values : (n : ℕ) (r : List ℕ) → 32 ≤ n → ValuesTo n v s r → SeesValues v s r
  all_values n r h held =
      let few = held.few in
      record { size = held.size; value = λ x k. held.value x (omega arith) }

-- ---- the states, behind the values
pub record StatesTo (n : ℕ) (f s r : List ℕ) : Type 0 where
  pub few : n ≤ 8
  pub size : length r ≡ length s
  pub value : (x : ℕ) → x < 32 → get_or r x 0 ≡ get_or s x 0
  pub state : (i : ℕ) → i < n → get_or r (32 + i) 0 ≡ state_at f (i + 1)

module _ (f s : List ℕ) where
  pub state_more : (n : ℕ) (r : List ℕ) → length s ≡ 42 → n < 8 → StatesTo n f s r → StatesTo (n + 1) f s (set r (32 + n) (get_or f n 0))
  unfolding state_at
  state_more n r e h held =
      let size = held.size in
      let back : n + 1 - 1 ≡ n = omega arith in
      record {
        few = omega arith;
        size = length-set r (32 + n) (get_or f n 0) ∙ size;
        value = λ x k. get_or-set_other r (32 + n) x (get_or f n 0) 0 (omega arith) ∙ held.value x k;
        state = put_more r (λ x. 32 + x) n (get_or f n 0) (λ i. state_at f (i + 1)) (omega arith) (λ x l. omega arith) (rw back refl) held.state;
      }

-- and what is found where there is no variable and no process
module _ (v f s r : List ℕ) (size : length s ≡ 42) (e : length v ≡ 32) (k : length f ≡ 8) (told : (x : ℕ) → x < 32 → get_or s x 0 ≡ value_at v x) where
  pub all_seen : (n : ℕ) → 8 ≤ n → StatesTo n f s r → Sees v f (set (set r 40 none) 41 stop)
  all_seen n h held =
      let few = held.few in
      let long : length r ≡ 42 = held.size ∙ size in
      let wide : length (set r 40 none) ≡ 42 = length-set r 40 none ∙ long in
      let apart : (x : ℕ) → x < 40 → get_or (set (set r 40 none) 41 stop) x 0 ≡ get_or r x 0 =
      λ x l. get_or-set_other (set r 40 none) 41 x stop 0 (omega arith) ∙ get_or-set_other r 40 x none 0 (omega arith) in
      record {
        size = length-set (set r 40 none) 41 stop ∙ wide;
        variables = e;
        processes = k;
        value = λ x l. apart x (omega arith) ∙ held.value x l ∙ told x l;
        state = λ i l. apart (32 + i) (omega arith) ∙ held.state i (omega arith);
        unset = get_or-set_other (set r 40 none) 41 40 stop 0 (omega arith) ∙ get_or-set_same r 40 none 0 (omega arith);
        stopped = get_or-set_same (set r 40 none) 41 stop 0 (omega arith);
      }

-- ---- the atoms
-- truths that agree are packed alike
packed_alike : (n : ℕ) (f g : ℕ → Bool) (i : ℕ) → ((k : ℕ) → i ≤ k → k < i + n → f k ≡ g k) → packed n f i ≡ packed n g i
unfolding packed
packed_alike zero f g i h = refl
packed_alike (suc n) f g i h =
    rw (h i (omega arith) (omega arith), packed_alike n f g (i + 1) (λ k a b. h k (omega arith) (omega arith)))

-- before the last of eight truths is packed there is room for one more
pub byte_room : (f : ℕ → Bool) (from k byte : ℕ) → byte ≡ packed (from + 8 - k) f k → from < k → byte < 128
byte_room f from k byte e h =
    omega (arith, packed_small (from + 8 - k) f k, pow_mono {i = from + 8 - k} {j = 7} (omega arith))

-- the truth before those that are packed, put as the lowest digit
pub byte_next : (f : ℕ → Bool) (from k j : ℕ) → k ≡ j + 1 → from ≤ j → j < from + 8 →
    packed (from + 8 - k) f k * 2 + digit (f j) ≡ packed (from + 8 - j) f j
unfolding packed
byte_next f from k j e l h =
    let n : from + 8 - j ≡ suc (from + 8 - (j + 1)) = omega arith in
    rw (e, n) (omega arith)

-- a truth cast to a number
pub truth_digit : (b : Bool) → bool_byte b ≡ digit b
truth_digit true = refl
truth_digit false = refl

module _ (T : List ℕ) (laid : List Laid) (v f s : List ℕ) (out : LaidOut T laid) (sees : Sees v f s) where
  byte_laid : (i : ℕ) → i ≤ 24 → packed 8 (laid_atom laid s) i ≡ atom_byte T v f i
  unfolding atom_byte
  byte_laid i h = packed_alike 8 (laid_atom laid s) (atom_of T v f) i (λ k a b. out k (omega arith) v f s sees)

  pub bytes_laid : (a b c d : ℕ) → a ≡ packed 8 (laid_atom laid s) 0 → b ≡ packed 8 (laid_atom laid s) 8 → c ≡ packed 8 (laid_atom laid s) 16 → d ≡ packed 8 (laid_atom laid s) 24 →
      a ∷ b ∷ c ∷ d ∷ [] ≡ atom_bytes T v f
  unfolding atom_bytes
  bytes_laid a b c d ea eb ec ed =
      rw (ea, eb, ec, ed, byte_laid 0 (omega arith), byte_laid 8 (omega arith), byte_laid 16 (omega arith), byte_laid 24 (omega arith))

-- where tests see no change the atoms stay
pub bytes_stay : (T : List ℕ) (old new : Controller) (r : Bool) → r ≡ same_seen old new → r ≡ true → (atoms : List ℕ) →
    atoms ≡ atom_bytes T old.variables (states_of old.processes) → atoms ≡ atom_bytes T new.variables (states_of new.processes)
bytes_stay T old new r told taken atoms e =
    let h = same_seen_equal old new (sym told ∙ taken) in
    rw (h.0, h.1) at e
