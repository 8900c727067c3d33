use Rattle.run.proofs.Seen.{bytes_laid}
use Rattle.run.proofs.course.Course.atoms_of.Goals as goal

pub returns : goal.returns
returns c =
    bytes_laid _ _ _ _ _ c.args.self.now.laid_out c.see.ensures _ _ _ _ c.atom_byte-low.ensures
    c.atom_byte-second.ensures c.atom_byte-third.ensures c.atom_byte-high.ensures
