use Rattle.std.proofs.Common.{◌+◌, subst}
use Rattle.std.specs.Io.KnownBytes.{Appends}
use Rattle.std.proofs.KnownBytes.{Appends-trans}
use Rattle.program.proofs.Writing.{within_more, rest_more, front_more}
use Rattle.program.proofs.write_full.Goals as goal

pub loop-rest-preserved : goal.loop-rest-preserved
loop-rest-preserved g c =
    let done = c.loop-rest.invariant.0 in
    let is = c.loop-rest.invariant.2 in (
      done + c.in-Ok.n,
      within_more done c.in-Ok.n c.args.bytes.now _ is c.loop-rest.invariant.1 c.in-Ok.ensures.bound,
      rest_more done c.in-Ok.n c.args.bytes.now _ is,
      subst (Appends _ _) (front_more done c.in-Ok.n c.args.bytes.now _ is)
          (Appends-trans _ _ _ _ _ c.loop-rest.invariant.3 c.in-Ok.ensures.bytes),
    )
