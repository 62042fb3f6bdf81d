use Rattle.std.proofs.Common.{length}
use Rattle.abstract_maps.proofs.maps.+map_row.Given as goal

abbrev pub decreases-map_row : goal.decreases-map_row
decreases-map_row l = length l.entries.now
