use Rattle.std.proofs.Common.{ap, ◌∙◌}
use Rattle.possible_fixpoint.specs.Climbing.{raised_row}
use Rattle.possible_fixpoint.proofs.WorkLemmas.{lifted_raised, lifted_same, long_under, long_words}
use Rattle.possible_fixpoint.proofs.lengths.lift.Goals as goal

pub add-requires-clause-words : goal.add-requires-clause-words
add-requires-clause-words g c =
    long_words c.args.most c.longer-long.result c.ranges.most.fits (c.longer-long.ensures ∙ ap (raised_row c.args.most) c.bottom_value.ensures)

pub add-requires-clause-under : goal.add-requires-clause-under
add-requires-clause-under g c =
    long_under (g.A.Analysis.flow c.args.analysis.now) c.args.most c.args.router c.longer-long.result c.requires.solvable c.requires.within (c.longer-long.ensures ∙ ap (raised_row c.args.most) c.bottom_value.ensures) c.requires.high

pub returns-then-add : goal.returns-then-add
returns-then-add g c =
    lifted_raised (g.A.Analysis.flow c.args.analysis.now) c.args.router c.args.seat c.offer-seat.result.0 c.args.notes.now c.add.new.notes c.add.result c.offer-seat.result.1 c.requires.works c.requires.within c.requires.raised c.add.ensures.kept c.add.ensures.grows c.offer-seat.ensures.raised c.offer-seat.ensures.grown

pub returns-else-add : goal.returns-else-add
returns-else-add g c =
    lifted_same (g.A.Analysis.flow c.args.analysis.now) c.args.router c.args.seat c.args.notes.now c.add.new.notes c.add.result c.requires.works c.requires.raised c.add.ensures.kept c.add.ensures.grows c.if-add.false
