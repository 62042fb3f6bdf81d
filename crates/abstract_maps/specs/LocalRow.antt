-- The row of a router's local route alone. The project's own.
use Rattle.std.specs.Prelude.{ℕ, Option, Some, None}
use Rattle.net_types.specs.declared.routes.Route.{Route}
use Rattle.net_types.specs.NetValue.{NetValue}
use Rattle.net_types.specs.PrefixValue.{PrefixValue}
use Rattle.abstract_route.specs.declared.rows.Row.{Row}
use Rattle.abstract_route.specs.Fits.{exact_row}
use Rattle.abstract_route.specs.Rows.{bottom}
use Rattle.concrete_algebra.specs.LocalRoutes.{local_of}

-- the least row that a route fits, and the row of no route where there is none
abbrev pub exact_or_bottom : Option Route → Row
exact_or_bottom None = bottom
exact_or_bottom (Some route) = exact_row route

-- the row of exactly the local route of router u, which has this OSPF distance or none
abbrev pub local_row : NetValue → PrefixValue → ℕ → Option ℕ → Row
local_row net prefix u distance = exact_or_bottom (local_of net prefix u distance)
