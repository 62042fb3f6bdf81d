use Rattle.std.proofs.Common.{Ok, Err}
use Rattle.std.proofs.lemmas.List.Sorted.{searched}
use Rattle.net_types.proofs.SearchLemmas.{found_none, found_place, rises}
use Rattle.net_types.proofs.network.ascending_place.Goals as goal

pub returns-in-Ok-clause-number : goal.returns-in-Ok-clause-number
returns-in-Ok-clause-number c =
    found_place c.args.communities.now c.args.value c.in-Ok.place c.requires
    (searched c.args.communities.now c.args.value (Ok c.in-Ok.place) c.in-Ok.ensures.position (rises c.args.communities.now c.requires))

pub returns-in-Err-clause-number : goal.returns-in-Err-clause-number
returns-in-Err-clause-number c =
    found_none c.args.communities.now c.args.value c.in-Err.field-0
    (searched c.args.communities.now c.args.value (Err c.in-Err.field-0) c.in-Err.ensures.position (rises c.args.communities.now c.requires))
