use Rattle.judging.proofs.LimitLemmas.{few_after, few_before}
use Rattle.judging.proofs.judgements.judgement_of.Goals as goal

pub found-requires-clause-within : goal.found-requires-clause-within
found-requires-clause-within g c κs within = rw c.as_slice-book.ensures (few_before c.args.inputs.now c.requires.limit)

pub found-requires-2-clause-within : goal.found-requires-2-clause-within
found-requires-2-clause-within g c κs within = rw c.as_slice-book.ensures (few_after c.args.inputs.now c.requires.limit)
