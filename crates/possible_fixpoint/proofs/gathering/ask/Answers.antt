use Rattle.std.proofs.Common.{subst, ℕ, ◌∙◌}
use Rattle.flow_board.specs.Pass.{IsMet}
use Rattle.possible_fixpoint.proofs.GatherLemmas.{asked_gathers, read_under}
use Rattle.possible_fixpoint.proofs.gathering.ask.Goals as goal

pub read-seat-requires-clause-within : goal.read-seat-requires-clause-within
read-seat-requires-clause-within g c =
    rw (c.requires.count, c.from.ensures, c.sender.ensures) (c.requires.solvable.lawful.sender c.args.arc c.requires.lives)

pub take-grew-requires-clause-under : goal.take-grew-requires-clause-under
take-grew-requires-clause-under g c =
    read_under (g.A.Analysis.flow c.args.analysis.now) c.args.seat ((g.A.Analysis.flow c.args.analysis.now).sender c.args.arc) c.read-seat.result.1 c.requires.works (subst (λ (n : ℕ). IsMet c.args.seat n c.read-seat.result.1) (c.from.ensures ∙ c.sender.ensures) c.read-seat.ensures.met)

pub returns-clause-gathers : goal.returns-clause-gathers
returns-clause-gathers g c =
    asked_gathers (g.A.Analysis.flow c.args.analysis.now) c.args.seat c.args.arc c.from.result c.read-seat.result.1 c.args.notes.now c.take-grew.new.notes c.take-grew.result c.requires.solvable c.requires.lives c.requires.works
    (c.from.ensures ∙ c.sender.ensures) c.read-seat.ensures.words c.read-seat.ensures.met c.take-grew.ensures.kept c.take-grew.ensures.grows c.take-grew.ensures.given
