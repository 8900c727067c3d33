-- A text at the front of a buffer.
-- Assumes nothing: these are definitions.
use Rattle.std.specs.Prelude.{ℕ, ◌≤◌, ◌≡◌, List, length}
use Rattle.coding.specs.Room.{over}

-- No text is longer: 4,096 findings at most, with at most 24 bytes a line, and three lines before them.
abbrev pub longest_text : ℕ
longest_text = 100000

-- A text of which P is true, r bytes long, stands at the front of the buffer, cut off where the buffer ends; the rest of
-- the buffer is unchanged.
pub record Prints (P : List ℕ → Type 0) (r : ℕ) (before after : List ℕ) : Type 0 where
  pub text : List ℕ
  pub true_of : P text
  pub count : r ≡ length text
  pub short : r ≤ longest_text
  pub stands : after ≡ over before 0 text
