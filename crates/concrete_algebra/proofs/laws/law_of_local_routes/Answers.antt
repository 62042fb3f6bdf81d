use Rattle.concrete_algebra.proofs.ReadingLemmas.{open_ospf_brings, owners_bring, owners_by_owning}
use Rattle.concrete_algebra.proofs.laws.law_of_local_routes.Goals as goal

pub returns : goal.returns
returns c = record { owners = owners_by_owning; ospf = open_ospf_brings; brings = owners_bring }
