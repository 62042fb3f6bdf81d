use Rattle.implication.specs.OnTheWay.{view_seen}
use Rattle.implication.proofs.AnswerLemmas.{waypoint_answer}
use Rattle.implication.proofs.answers.around.Goals as goal

pub returns : goal.returns
returns c =
    waypoint_answer (view_seen c.args.seen.now) c.args.via c.args.start c.reached-set.result c.bypassing-found.result c.owners_plain-excepting.result c.least.result
    c.requires.seen.inside c.requires.start c.requires.via c.owners_plain-excepting.ensures c.reached-set.ensures c.bypassing-found.ensures c.least.ensures.least
