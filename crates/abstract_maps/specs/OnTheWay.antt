-- What private functions promise each other: how far the length of a row's paths has
-- grown, and that routers are numbers of a set.
use Rattle.std.specs.Prelude.{ℕ, ◌<◌, ◌≤◌, ◌+◌}
use Rattle.net_types.specs.declared.network.Link.{Link}
use Rattle.abstract_route.specs.declared.rows.Row.{Row}
use Rattle.abstract_route.specs.Rows.{IsInhabited}

-- the second row has routes only where the first has, with at most so many entries more
abbrev pub GrowsBy : ℕ → Row → Row → Type 0
GrowsBy most before after = IsInhabited after → IsInhabited before × (after.length.high ≤ before.length.high + most)

-- both routers of the link are numbers of a set
pub record HasSmallEnds (link : Link) : Type 0 where
  pub low : link.low.router < 64
  pub high : link.high.router < 64
