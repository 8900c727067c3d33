-- A report on the first bytes of a buffer, and on the whole input that they are the first bytes of.
-- Assumes nothing.
use Prim.Native.Nat.{ℕ, ◌+◌, ◌≤◌}
use native.Mathlib.Omega.{arith}
use mathlib.Core.Path.{◌≡◌}
use mathlib.Core.List.{List}
use lib.ListN.{length, take, drop}
use lib.Seq.{take-append_seam}
use Rattle.coding.proofs.Bytes.{over_eq}
use Rattle.report.specs.Framing.{framing_of}
use Rattle.report.specs.Printing.{Prints}
use Rattle.report.specs.Reporting.{Reports}
use Rattle.report.proofs.Front.{front_reports}
use Rattle.program.specs.Program.{ReportOn, ChecksInput}
use Rattle.program.specs.declared.Checked.{Checked}

-- What is printed on an input is its report.
pub on_input : (s : List ℕ) (r : ℕ) (d e : List ℕ) → Prints (Reports s (framing_of s)) r d e → Prints (ReportOn s) r d e
unfolding ReportOn
on_input s r d e p = p

-- What stands at the front of a buffer that has room for every text is the text itself.
pub text_there : (P : List ℕ → Type 0) (r : ℕ) (d e : List ℕ) → length d ≡ 100000 → Prints P r d e → P (take r e)
text_there P r d e size p =
    let room : 0 + length p.text ≤ length d = omega (arith, p.count, p.short, size) in
    let front : take r e ≡ p.text =
    rw (p.count, p.stands, over_eq d 0 p.text room) (take-append_seam p.text (drop (0 + length p.text) d)) in
    rw front p.true_of

-- Where the bytes read are the first of an input, at most 60,001, what is printed is the report on that whole input,
-- however long it is.
pub whole_input : (s : List ℕ) (r : Checked) (input before after : List ℕ) →
    take r.read input ≡ take 60001 s → ChecksInput r input before after → Prints (ReportOn s) r.length before after
unfolding ReportOn
whole_input s r input before after e c =
    let p = c.prints in
    record {
      text = p.text;
      true_of = (front_reports s p.text).1 (rw e at p.true_of);
      count = p.count;
      short = p.short;
      stands = p.stands;
    }
