use Rattle.net_types.proofs.NetLemmas.{entries_are_owned, owners_have_entries, stubs_are_owned}
use Rattle.net_types.proofs.laws.law_of_owners.Goals as goal

pub returns-clause-entries : goal.returns-clause-entries
returns-clause-entries c = entries_are_owned

pub returns-clause-owners : goal.returns-clause-owners
returns-clause-owners c = owners_have_entries

pub returns-clause-stubs : goal.returns-clause-stubs
returns-clause-stubs c = stubs_are_owned
