use Rattle.std.proofs.Common.{refl}
use Rattle.doors.specs.Door.{left_of}
use Rattle.http_desk.specs.Serves.{no_memory}
use Rattle.http_desk.specs.declared.ruling.Ruling.TheVariants.{NoMemory}
use Rattle.http_desk.proofs.ServeLemmas.{is_reply, converses}
use Rattle.http_desk.proofs.serving.converse.Goals as goal

pub returns-in-Ok-clause-told : goal.returns-in-Ok-clause-told
returns-in-Ok-clause-told g c = λ t e.
    let heard = c.in-Ok.ensures.told t e in
    let ruling = c.rule_on-ruling.result in
    let j = g.J.Judge.meaning c.args.judge.now in
    let s = c.args.store.now.state in
    let next = c.rule_on-ruling.new.store.state in
    let before = g.K.Keeper.faults c.args.keeper.now in
    let now = g.K.Keeper.faults c.rule_on-ruling.new.keeper in
    let said = is_reply j s (left_of t) c.in-Ok.asked before now ruling next heard.0 c.rule_on-ruling.ensures.ruled in
    converses j s t before now ruling c.reply.result next heard.1.0 _ said (c.reply.ensures.told _ heard.1.1)

pub returns-in-Err-NoMemory-clause-told : goal.returns-in-Err-NoMemory-clause-told
returns-in-Err-NoMemory-clause-told g c = λ t e.
    let heard = c.in-Err-NoMemory.ensures.told t e in
    let j = g.J.Judge.meaning c.args.judge.now in
    let s = c.args.store.now.state in
    let f = g.K.Keeper.faults c.args.keeper.now in
    converses j s t f f NoMemory c.reply-in-Err-NoMemory.result s heard.0 _ (no_memory refl) (c.reply-in-Err-NoMemory.ensures.told _ heard.1)
