use Rattle.implication.specs.OnTheWay.{view_seen}
use Rattle.implication.proofs.AnswerLemmas.{waypoint_kind}
use Rattle.implication.proofs.answers.bypassed.Goals as goal

pub returns : goal.returns
returns c =
    rw c.bypass_at.ensures
    (waypoint_kind c.args.seen.now.net.now (view_seen c.args.seen.now) c.args.via c.args.start c.args.host.now c.around.result c.requires.at c.around.ensures)
