use Rattle.case_walk.proofs.ReuseLemmas.{representatives_agree, first_broken_is_own}
use Rattle.case_walk.proofs.laws.law_of_representatives.Goals as goal

pub returns-clause-agree : goal.returns-clause-agree
returns-clause-agree g c = λ net. representatives_agree (g.S.CaseReader.analysis net)

pub returns-clause-first : goal.returns-clause-first
returns-clause-first g c = λ net. first_broken_is_own (g.S.CaseReader.analysis net)
