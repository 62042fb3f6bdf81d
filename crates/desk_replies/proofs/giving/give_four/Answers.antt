use Rattle.std.proofs.Common.{◌++◌}
use Rattle.doors.proofs.GivingLemmas.{gives_then}
use Rattle.desk_replies.proofs.giving.give_four.Goals as goal

pub returns-in-Ok-clause-told : goal.returns-in-Ok-clause-told
returns-in-Ok-clause-told g c = λ t e.
    gives_then t (c.args.a.now ++ c.args.b.now) (c.args.c.now ++ c.args.d.now) c.give_two-in-Ok.result _ _ (c.in-Ok.ensures.told t e) c.give_two-in-Ok.ensures.told
