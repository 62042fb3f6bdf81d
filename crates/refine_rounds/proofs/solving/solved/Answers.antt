use Rattle.refine_rounds.proofs.ResultLemmas.{result_made}
use Rattle.refine_rounds.proofs.solving.solved.Goals as goal

pub returns : goal.returns
returns g c =
    result_made c.args.net.now c.args.prefix c.args.failed c.in_ok-distances.distances c.in_ok-last.last.alive c.in_ok-last.last.turn c.in_ok-last.last.idle c.valid.ensures c.in_ok-distances.ensures.exact
    (rw c.as_slice.ensures at c.in_ok-last.ensures.alive) (rw c.as_slice.ensures at c.in_ok-last.ensures.turn) (rw c.as_slice.ensures at c.in_ok-last.ensures.idle)
