-- A network as contracts see it.
use Rattle.std.specs.Prelude.{ℕ, List}
use Rattle.net_types.specs.declared.network.Router.{Router}
use Rattle.net_types.specs.declared.network.Link.{Link}
use Rattle.net_types.specs.declared.network.Notice.{Notice}

-- routers, links, communities and notices, each numbered by its place from 0
pub record NetValue : Type 0 where
  pub routers : List Router
  pub links : List Link
  pub communities : List ℕ
  pub notices : List Notice
