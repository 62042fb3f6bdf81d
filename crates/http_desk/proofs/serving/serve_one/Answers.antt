use Rattle.http_desk.proofs.ServeLemmas.{serves}
use Rattle.http_desk.proofs.serving.serve_one.Goals as goal

pub returns-clause-told : goal.returns-clause-told
returns-clause-told g c = λ t input e begun.
    serves (g.J.Judge.meaning c.args.judge.now) c.args.store.now.state t input (g.K.Keeper.faults c.args.keeper.now) (g.K.Keeper.faults c.converse-served.new.keeper) c.converse-served.result c.converse-served.new.store.state _ _ begun (c.converse-served.ensures.told t e) c.end.ensures.told
