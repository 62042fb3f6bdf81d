use Rattle.net_types.proofs.WordLemmas.{words_are_sets, words_change_by_one, words_have_ends, same_members_are_one_set}
use Rattle.net_types.proofs.laws.law_of_words.Goals as goal

pub returns-clause-joined : goal.returns-clause-joined
returns-clause-joined c = words_are_sets

pub returns-clause-one : goal.returns-clause-one
returns-clause-one c = words_change_by_one

pub returns-clause-ends : goal.returns-clause-ends
returns-clause-ends c = words_have_ends

pub returns-clause-same : goal.returns-clause-same
returns-clause-same c = same_members_are_one_set
