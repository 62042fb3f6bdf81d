use Rattle.std.proofs.Common.{length}
use Rattle.abstract_maps.proofs.maps.+sure_entries.Given as goal

abbrev pub decreases-sure_entries : goal.decreases-sure_entries
decreases-sure_entries l = length l.entries.now
