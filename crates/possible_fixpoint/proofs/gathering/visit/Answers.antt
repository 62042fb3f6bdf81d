use Rattle.std.proofs.Common.{◌∙◌, arith}
use Rattle.std.proofs.lemmas.Bool.Decides.{nat_tests}
use Rattle.possible_fixpoint.proofs.GatherLemmas.{passed_gathers}
use Rattle.possible_fixpoint.proofs.gathering.visit.Goals as goal

pub returns-then-receiver-router-clause-gathers : goal.returns-then-receiver-router-clause-gathers
returns-then-receiver-router-clause-gathers g c =
    passed_gathers (g.A.Analysis.flow c.args.analysis.now) c.args.seat.start c.args.router c.args.arc c.args.notes.now c.requires.kept (λ lives to. c.if-receiver-router.true (c.receiver.ensures ∙ to))

pub returns-then-not-lives-clause-gathers : goal.returns-then-not-lives-clause-gathers
returns-then-not-lives-clause-gathers g c =
    passed_gathers (g.A.Analysis.flow c.args.analysis.now) c.args.seat.start c.args.router c.args.arc c.args.notes.now c.requires.kept
    (λ lives to. (let a = c.lives.ensures in let t = c.if-not-lives.true in let f = c.if-not-lives.ensures in grind (arith, nat_tests)))
