use Rattle.flow_board.specs.Pass.{IsMet}
use Rattle.std.proofs.Common.{ℕ, subst, ◌∙◌}
use Rattle.possible_fixpoint.proofs.NoteLemmas.{gave_kept, read_short}
use Rattle.possible_fixpoint.proofs.GatherLemmas.{read_under}
use Rattle.possible_fixpoint.proofs.lengths.look_at.Goals as goal

pub read-seat-requires-clause-within : goal.read-seat-requires-clause-within
read-seat-requires-clause-within g c =
    rw (c.requires.count, c.from.ensures, c.sender.ensures) (c.requires.solvable.lawful.sender c.args.arc c.requires.lives)

pub gives-given-requires : goal.gives-given-requires
gives-given-requires g c =
    read_short (g.A.Analysis.flow c.args.analysis.now) c.args.arc c.read-seat.result.1 c.requires.solvable c.requires.lives (read_under (g.A.Analysis.flow c.args.analysis.now) c.args.seat ((g.A.Analysis.flow c.args.analysis.now).sender c.args.arc) c.read-seat.result.1 c.requires.works (subst (λ (n : ℕ). IsMet c.args.seat n c.read-seat.result.1) (c.from.ensures ∙ c.sender.ensures) c.read-seat.ensures.met))

pub returns-clause-kept : goal.returns-clause-kept
returns-clause-kept g c =
    gave_kept (g.A.Analysis.flow c.args.analysis.now) c.args.notes.now c.set_gave.new.self c.args.arc c.read-seat.result.1 c.gives-given.result c.requires.solvable c.requires.lives c.read-seat.ensures.words
    (read_under (g.A.Analysis.flow c.args.analysis.now) c.args.seat ((g.A.Analysis.flow c.args.analysis.now).sender c.args.arc) c.read-seat.result.1 c.requires.works (subst (λ (n : ℕ). IsMet c.args.seat n c.read-seat.result.1) (c.from.ensures ∙ c.sender.ensures) c.read-seat.ensures.met)) c.gives-given.ensures c.requires.kept
    c.set_gave.ensures.gave c.set_gave.ensures.rows c.set_gave.ensures.asked c.set_gave.ensures.at c.set_gave.ensures.begun
