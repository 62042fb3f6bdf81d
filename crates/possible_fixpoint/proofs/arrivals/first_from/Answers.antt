use Rattle.possible_fixpoint.proofs.ArrivalLemmas.{first_within, none_before, none_from}
use Rattle.possible_fixpoint.proofs.arrivals.first_from.Goals as goal

pub returns-then-rest-eq0-clause-none : goal.returns-then-rest-eq0-clause-none
returns-then-rest-eq0-clause-none c = λ x low high. none_from c.word.result c.args.set c.args.from c.word.ensures c.if-rest-eq0.true x low

pub returns-clause-within : goal.returns-clause-within
returns-clause-within c = first_within c.word.result c.args.from c.if-from-ge64.false c.word.type_inv c.if-rest-eq0.false

pub returns-clause-none : goal.returns-clause-none
returns-clause-none c = none_before c.word.result c.args.set c.args.from c.word.ensures c.word.type_inv c.if-rest-eq0.false
