use Rattle.doors.proofs.GivingLemmas.{gives_then, gives_stop}
use Rattle.desk_replies.specs.Replies.{reply_text, status_line, content}
use Rattle.desk_replies.proofs.giving.give_reply.Goals as goal

pub returns-in-Ok-clause-told : goal.returns-in-Ok-clause-told
unfolding reply_text
returns-in-Ok-clause-told g c = λ t e.
    gives_then t (status_line c.args.code) (content c.args.media c.args.body.now) c.give_content.result _ _ (c.in-Ok.ensures.told t e) c.give_content.ensures.told

pub returns-in-Err-clause-told : goal.returns-in-Err-clause-told
unfolding reply_text
returns-in-Err-clause-told g c = λ t e. gives_stop t (status_line c.args.code) (content c.args.media c.args.body.now) c.in-Err.e _ (c.in-Err.ensures.told t e)
