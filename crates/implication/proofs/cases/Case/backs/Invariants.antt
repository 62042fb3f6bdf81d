use Rattle.implication.specs.View.{back_over}
use Rattle.implication.proofs.ArcLemmas.{Gathered}
use Rattle.implication.proofs.cases.Case.backs.Given as goal

abbrev pub invariant-loop-link : goal.invariant-loop-link
invariant-loop-link l = Gathered (λ v. back_over l.self.net.now l.self.prefix l.self.failed.now l.self.known.now l.router v) l.link l.set
