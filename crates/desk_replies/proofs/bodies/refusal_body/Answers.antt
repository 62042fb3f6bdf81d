use Rattle.std.proofs.Common.{rules}
use Rattle.desk_replies.specs.Replies.{refusal_body}
use Rattle.desk_replies.proofs.bodies.refusal_body.Goals as goal

pub returns : goal.returns
unfolding refusal_body
returns c = search rules
