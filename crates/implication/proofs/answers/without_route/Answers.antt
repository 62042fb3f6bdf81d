use Rattle.implication.specs.OnTheWay.{view_seen}
use Rattle.implication.proofs.AnswerLemmas.{reach_answer}
use Rattle.implication.proofs.answers.without_route.Goals as goal

pub returns : goal.returns
returns c =
    reach_answer (view_seen c.args.seen.now) c.args.start c.reached-set.result c.solid.result c.lacking-lacking.result c.least.result
    c.requires.seen.inside c.requires.start c.reached-set.ensures c.solid.ensures c.lacking-lacking.ensures c.least.ensures.least
