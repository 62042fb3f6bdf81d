use Rattle.std.proofs.Common.{◌≡◌, ap, sym, ◌∙◌}
use Rattle.review_rules.specs.State.{State}
use Rattle.review_rules.specs.Rules.{Accepted}
use Rattle.review_rules.specs.Changes.{made}
use Rattle.desk_keeper.proofs.KeepingLemmas.{can_take, takes, told_made, told_agrees}
use Rattle.desk_keeper.proofs.store.accept.Goals as goal

pub take-requires-clause-can : goal.take-requires-clause-can
take-requires-clause-can g c = can_take c.args.desk.now.state _ c.args.request.now c.args.answer _ c.prepare.ensures.valid c.requires.request c.requires.names c.requires.accepted c.prepare.ensures.same c.in-Ok.ensures.change

pub returns-in-Ok-commit-clause-outcome : goal.returns-in-Ok-commit-clause-outcome
returns-in-Ok-commit-clause-outcome g c =
    let old = c.args.desk.now.state in
    let same = c.prepare.ensures.same in
    let was : c.take.new.self.state.tables ≡ made c.in-Ok.ready.0 old.tables = c.take.ensures.tables ∙ ap (λ (s : State). made c.in-Ok.ready.0 s.tables) same in
    let told = c.in-Ok-commit.ensures.made ∙ told_made (g.K.Keeper.tables c.args.keeper.now) c.in-Ok.ready.0 old.tables c.take.new.self.state.tables c.requires.agrees was in
    let done = takes old _ c.args.request.now c.args.answer c.in-Ok.ready.0 c.take.new.self.state.tables c.prepare.ensures.valid c.requires.request c.requires.names c.requires.accepted same c.in-Ok.ensures.change c.take.ensures.tables in
    (done ∙ ap (Accepted c.take.new.self.state.tables) (sym c.in-Ok.ensures.reply), c.take.ensures.users ∙ ap (λ (s : State). s.users) same, told, c.in-Ok-commit.ensures.cause)

pub returns-in-Ok-commit-clause-agrees : goal.returns-in-Ok-commit-clause-agrees
returns-in-Ok-commit-clause-agrees g c =
    let old = c.args.desk.now.state in
    let same = c.prepare.ensures.same in
    let was : c.take.new.self.state.tables ≡ made c.in-Ok.ready.0 old.tables = c.take.ensures.tables ∙ ap (λ (s : State). made c.in-Ok.ready.0 s.tables) same in
    let told = c.in-Ok-commit.ensures.made ∙ told_made (g.K.Keeper.tables c.args.keeper.now) c.in-Ok.ready.0 old.tables c.take.new.self.state.tables c.requires.agrees was in
    told_agrees (g.K.Keeper.tables c.args.keeper.now) (g.K.Keeper.tables c.commit.new.self) c.take.new.self.state.tables told
