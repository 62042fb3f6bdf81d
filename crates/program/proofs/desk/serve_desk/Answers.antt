use Rattle.std.proofs.Common.{ℕ, Some, Ok, subst, sym}
use Rattle.command_words.specs.Asked.{serving}
use Rattle.program.specs.DeskEnding.{DeskComes}
use Rattle.program.proofs.DeskLemmas.{around}
use Rattle.program.proofs.desk.serve_desk.Goals as goal

pub returns-in-Ok-clause-comes : goal.returns-in-Ok-clause-comes
returns-in-Ok-clause-comes g c =
    let files = g.F.Shelf.faults c.users_at.new.shelf in
    subst (λ (n : ℕ). DeskComes (g.F.Shelf.content c.args.shelf.now) (serving c.args.words.now)
    (around (g.K.Keeper.tables c.args.keeper.now) (g.K.Keeper.opened c.args.keeper.now) (g.D.Door.told c.args.door.now) n (g.K.Keeper.faults c.args.keeper.now) (g.D.Door.faults c.args.door.now))
    (around (g.K.Keeper.tables c.serve_users.new.keeper) (g.K.Keeper.opened c.serve_users.new.keeper) (g.D.Door.told c.serve_users.new.door) files (g.K.Keeper.faults c.serve_users.new.keeper) (g.D.Door.faults c.serve_users.new.door))
    c.serve_users.result) c.in-Ok.ensures.cause
    (c.serve_users.ensures.comes (g.F.Shelf.content c.args.shelf.now) files (λ content e. c.in-Ok.ensures.told content e))
