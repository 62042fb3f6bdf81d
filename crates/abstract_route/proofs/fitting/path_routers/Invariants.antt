use Rattle.std.proofs.Common.{◌≡◌, drop, fold, bit_or, ◌^◌}
use Rattle.abstract_route.specs.Fits.{routers_of}
use Rattle.abstract_route.proofs.fitting.path_routers.Given as goal

abbrev pub invariant-loop-router : goal.invariant-loop-router
invariant-loop-router l = fold (λ set x. bit_or set (2 ^ x)) l.routers (drop l.router-index l.path) ≡ routers_of l.path
