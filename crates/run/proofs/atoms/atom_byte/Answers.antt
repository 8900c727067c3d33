use Prim.Native.Nat.{◌+◌, ◌-◌}
use mathlib.Core.Path.{◌≡◌, refl}
use native.Mathlib.Omega.{arith}
use Rattle.std.proofs.lemmas.List.{get_or_default}
use Rattle.scan.specs.Position.{packed}
use Rattle.scan.proofs.Position.{one_digit}
use Rattle.run.specs.Working.Atoms.{laid_atom, missing}
use Rattle.run.proofs.Seen.{byte_room, byte_next, truth_digit}
use Rattle.run.proofs.atoms.atom_byte.Goals as goal

pub loop-k-init : goal.loop-k-init
unfolding packed
loop-k-init c = let none : c.args.from + 8 - (c.args.from + 8) ≡ 0 = omega arith in (rw none refl, omega arith)

pub overflow_mul-byte : goal.overflow_mul-byte
overflow_mul-byte c = let h = byte_room _ _ _ _ c.loop-k.invariant.0 c.loop-k-test.true in omega arith

pub overflow_add-byte : goal.overflow_add-byte
overflow_add-byte c =
    let h = byte_room _ _ _ _ c.loop-k.invariant.0 c.loop-k-test.true in
    let d = one_digit c.holds.result _ (truth_digit c.holds.result) in
    omega arith

pub loop-k-preserved : goal.loop-k-preserved
loop-k-preserved c =
    let at = get_or_default c.args.laid.now (c.loop-k.k - 1) c.index-laid-k.result missing (omega (arith, c.requires)) in (
      rw (c.loop-k.invariant.0, c.from.ensures, truth_digit, c.holds.ensures, at)
          (byte_next (laid_atom c.args.laid.now c.args.seen.now) c.args.from c.loop-k.k (c.loop-k.k - 1) (omega arith) (omega arith) (omega arith)),
      omega arith,
    )
