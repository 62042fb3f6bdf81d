use Rattle.std.proofs.Common.{arith}
use Rattle.std.proofs.lemmas.Bool.Decides.{nat_tests}
use Rattle.possible_fixpoint.proofs.PhaseLemmas.{way_short}
use Rattle.possible_fixpoint.proofs.ending.adds_nothing.Goals as goal

pub is_met-requires-clause-short : goal.is_met-requires-clause-short
is_met-requires-clause-short g c =
    way_short (g.A.Analysis.flow c.args.analysis.now) c.args.rows.now ((g.A.Analysis.flow c.args.analysis.now).sender c.args.arc) c.requires.solvable c.requires.way (c.requires.solvable.lawful.sender c.args.arc (let e = c.lives.ensures in let t = c.if-not-lives.false in let f = c.if-not-lives.ensures in grind (arith, nat_tests)))
