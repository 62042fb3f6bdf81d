use Rattle.std.proofs.Common.{◌≡◌, arith}
use Rattle.std.proofs.lemmas.Bool.Decides.{nat_tests}
use Rattle.certain_fixpoint.specs.Certain.{round_read}
use Rattle.certain_fixpoint.proofs.PassLemmas.{sure_is_certain}
use Rattle.certain_fixpoint.proofs.certain.settle.Goals as goal

pub returns : goal.returns
returns c =
    let test = c.loop-set-test.false in
    let says = c.ne.ensures in
    let same : c.loop-set.next ≡ c.loop-set.set = grind (arith, nat_tests) in
    sure_is_certain (round_read c.args.reading.now) c.loop-set.set c.valid.ensures c.fits.ensures c.loop-set.invariant.0 (rw same at (c.loop-set.invariant.1.met same))
