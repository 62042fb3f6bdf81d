use Rattle.command_words.specs.Asked.{serving}
use Rattle.program.proofs.DeskLemmas.{served}
use Rattle.program.proofs.desk.serve.Goals as goal

pub returns-clause-serves : goal.returns-clause-serves
returns-clause-serves g c =
    served (serving c.args.words.now) c.args.store.now.state c.serve_all.new.store.state
    (g.K.Keeper.tables c.args.keeper.now) (g.K.Keeper.tables c.serve_all.new.keeper)
    (g.K.Keeper.faults c.args.keeper.now) (g.K.Keeper.faults c.serve_all.new.keeper)
    (g.D.Door.told c.args.door.now) (g.D.Door.told c.open.new.self) (g.D.Door.told c.serve_all.new.door)
    (g.D.Door.faults c.args.door.now) (g.D.Door.faults c.open.new.self) (g.D.Door.faults c.serve_all.new.door)
    c.serve_all.result
    c.requires.can.any
    c.in_ok-open.ensures.cause
    (λ t e. c.in_ok-open.ensures.told t e)
    (λ u e. c.serve_all.ensures.told u e)
    c.serve_all.ensures.cause
    c.serve_all.ensures.comes
    c.serve_all.ensures.agrees
