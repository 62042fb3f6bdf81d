use Rattle.command_words.specs.Asked.{serving}
use Rattle.program.proofs.DeskLemmas.{desk_served}
use Rattle.program.proofs.desk.serve_users.Goals as goal

pub returns : goal.returns
returns g c = record {
  comes = λ content files read.
      desk_served content (serving c.args.words.now) c.args.users c.in_ok-store.store.state c.serve-served.new.store.state
      (g.K.Keeper.tables c.args.keeper.now) (g.K.Keeper.tables c.begin.new.keeper) (g.K.Keeper.tables c.serve-served.new.keeper)
      (g.K.Keeper.opened c.args.keeper.now) (g.K.Keeper.opened c.begin.new.keeper) (g.K.Keeper.opened c.serve-served.new.keeper)
      (g.D.Door.told c.args.door.now) (g.D.Door.told c.serve-served.new.door)
      files
      (g.K.Keeper.faults c.args.keeper.now) (g.K.Keeper.faults c.begin.new.keeper) (g.K.Keeper.faults c.serve-served.new.keeper)
      (g.D.Door.faults c.args.door.now) (g.D.Door.faults c.serve-served.new.door)
      c.serve-served.result c.stopped.result
      read c.in_ok-store.ensures.begins c.in_ok-store.ensures.same c.serve-served.ensures.stays c.serve-served.ensures.serves c.stopped.ensures;
}
