use Rattle.abstract_maps.proofs.LocalLemmas.{map_long}
use Rattle.abstract_maps.proofs.MapLemmas.{map_sound, map_grows, map_either, sure_gives}
use Rattle.abstract_maps.proofs.laws.law_of_maps.Goals as goal

pub returns-clause-sound : goal.returns-clause-sound
returns-clause-sound c = map_sound

pub returns-clause-grows : goal.returns-clause-grows
returns-clause-grows c = map_grows

pub returns-clause-either : goal.returns-clause-either
returns-clause-either c = map_either

pub returns-clause-sure : goal.returns-clause-sure
returns-clause-sure c = sure_gives

pub returns-clause-long : goal.returns-clause-long
returns-clause-long c = map_long
