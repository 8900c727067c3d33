-- The program scancheck as a whole. Document 01, The bench case: "The program scancheck reads from standard input three
-- blocks .. it prints exactly" the lines of its report. What a call of the operating system read or wrote no promise
-- can say. So two things are left to believe of standard input and output: that a read gives the input's next bytes, none
-- only at its end (a read that fails counts as the end of the input); and that a write takes as many of the bytes that it
-- is lent as it answers. All between the two is proved: that what is read stands at the front of the buffer, and that
-- what is written are the text's first bytes, all of them if it is said so (of a reader and a writer whose bytes are
-- known `check_input` promises it); also that `write_text`, through which alone anything is written, is called with the
-- text alone: it asks it of its caller.
-- Assumes nothing: these are definitions.
use Rattle.std.specs.Prelude.{ℕ, ◌≡◌, ◌≤◌, Bool, true, List, length, take}
use Rattle.std.specs.declared.option.Option.{Option}
use Rattle.std.specs.Io.KnownBytes.{Appends}
use Rattle.report.specs.Framing.{framing_of}
use Rattle.report.specs.Printing.{Prints}
use Rattle.report.specs.Reporting.{Reports}
use Rattle.program.specs.declared.Checked.{Checked}

-- One byte more than an input may have ("input over 60,000 bytes is refusal 1 at 60,000"), so that a longer one is seen
-- to be too long.
abbrev pub most_read : ℕ
most_read = 60001

-- The text is what is printed for the input s.
unfoldable pub ReportOn : List ℕ → List ℕ → Type 0
ReportOn s text = Reports s (framing_of s) text

-- What is promised of one call of `check_input`: `input` is the buffer as it was left, of which the first `read` bytes
-- were read; `before` and `after` are the other buffer, at whose front the text stands, the rest unchanged. The text has
-- `length` bytes, at most 100,000 (`Prints`); the buffer, an array of 100,000, has room for all of it.
pub record ChecksInput (r : Checked) (input before after : List ℕ) : Type 0 where
  pub most : r.read ≤ most_read
  pub prints : Prints (ReportOn (take r.read input)) r.length before after

-- What is promised of writing `bytes`: a writer whose bytes are known, `before` and `after`, got the first `count` of
-- them, whether or not a write failed, and all of them if `all` is true.
pub record WritesFront (all : Bool) (bytes : List ℕ) (before after : Option (List ℕ)) : Type 0 where
  pub count : ℕ
  pub whole : all ≡ true → count ≡ length bytes
  pub front : Appends before after (take count bytes)
