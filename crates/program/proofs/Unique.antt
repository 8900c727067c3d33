-- The promise of the program leaves no choice but for what the operating system did: of the same bytes read, the text's
-- length and the whole buffer that holds it are the same, whatever the reader and the writer are. How many bytes are
-- read, and whether all was written, no promise can say; nor which they are, where the reader's bytes are not known.
-- Assumes nothing.
use mathlib.Core.Path.{◌≡◌, sym, ap, ◌∙◌}
use lib.ListN.{length, take}
use contract.Lifetimes.{Lfts}
use borrow.Fn.Kinds.{Dens, ended_of}
use denote.Param.Laws.{Laws}
use denote.RattleType.{RattleType}
use denote.Triple.Clauses.{AtExit}
use mir.Syntax.{Dict}
use Rattle.std.specs.declared.io.traits.Read as declared_read
use Rattle.std.specs.declared.io.traits.Write as declared_write
use Rattle.report.proofs.Unique.{one_text}
use Rattle.program.specs.Program.{ReportOn}
use Rattle.program.specs.declared.Checked.{Checked}
use Rattle.program.proofs.check_input.Kinds as check_input
use Rattle.program.proofs.check_input.Reads as check_input_reads

module _ (R W : RattleType) (RL : Laws R) (WL : Laws W) (reads : declared_read.Ghosts R.Denot) (reads_dict : Dict)
    (writes : declared_write.Ghosts W.Denot) (writes_dict : Dict) where
  pub check_input_unique : (κs : Lfts 6) (r t : Checked) (a : Dens κs (check_input.ps R W RL WL))
      (e f : AtExit (ended_of 6 (check_input.ps R W RL WL) (check_input.r R W RL WL)) κs) →
      check_input_reads.Post R W RL WL reads reads_dict writes writes_dict κs a r e →
      check_input_reads.Post R W RL WL reads reads_dict writes writes_dict κs a t f →
      take r.read e.1.1.0.now ≡ take t.read f.1.1.0.now →
      (r.length ≡ t.length) × (e.1.1.1.0.now ≡ f.1.1.1.0.now)
  unfolding ReportOn
  check_input_unique κs r t a e f p q same =
      let x = p.0.prints in
      let y = q.0.prints in
      let one : x.text ≡ y.text =
      one_text x.text y.text (take t.read f.1.1.0.now) (rw same at x.true_of) y.true_of in
      (x.count ∙ ap length one ∙ sym y.count, x.stands ∙ rw one (sym y.stands))
