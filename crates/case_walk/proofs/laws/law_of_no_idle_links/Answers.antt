use Rattle.case_walk.proofs.UnreusedLemmas.{nothing_is_reused}
use Rattle.case_walk.proofs.laws.law_of_no_idle_links.Goals as goal

pub returns : goal.returns
returns g c = λ net. nothing_is_reused (g.S.CaseReader.analysis net)
