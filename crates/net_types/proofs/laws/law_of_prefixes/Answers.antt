use Rattle.net_types.proofs.PrefixLemmas.{same_prefix_is_one, prefixes_are_apart, one_prefix_is_first, earlier_is_earlier, covering_comes_first}
use Rattle.net_types.proofs.laws.law_of_prefixes.Goals as goal

pub returns-clause-same : goal.returns-clause-same
returns-clause-same c = same_prefix_is_one

pub returns-clause-apart : goal.returns-clause-apart
returns-clause-apart c = prefixes_are_apart

pub returns-clause-first : goal.returns-clause-first
returns-clause-first c = one_prefix_is_first

pub returns-clause-earlier : goal.returns-clause-earlier
returns-clause-earlier c = earlier_is_earlier

pub returns-clause-covering : goal.returns-clause-covering
returns-clause-covering c = covering_comes_first
