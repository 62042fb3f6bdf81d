use Rattle.std.proofs.Common.{◌≡◌, drop}
use Rattle.concrete_algebra.specs.Maps.{entries_give}
use Rattle.concrete_algebra.proofs.maps.entries_give.Given as goal

abbrev pub invariant-loop-entry : goal.invariant-loop-entry
invariant-loop-entry l = entries_give l.found l.router l.prefix (drop l.entry-index l.entries) l.route ≡ entries_give l.found l.router l.prefix l.entries l.route
