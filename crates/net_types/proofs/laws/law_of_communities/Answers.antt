use Rattle.net_types.proofs.TextLemmas.{communities_read_back, named_communities_are_read}
use Rattle.net_types.proofs.laws.law_of_communities.Goals as goal

pub returns-clause-halves : goal.returns-clause-halves
returns-clause-halves c = communities_read_back

pub returns-clause-names : goal.returns-clause-names
returns-clause-names c = named_communities_are_read
