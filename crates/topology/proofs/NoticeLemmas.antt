-- What is true of each notice.
use Rattle.std.proofs.Common.{ℕ, ◌≡◌, ◌+◌, ◌≤◌, ◌<◌, ◌^◌, true, not, List, [], ◌∷◌, length, arith, All, AllPairs}
use Rattle.std.specs.List.{AllByRecursion}
use Rattle.std.specs.Option.{IfSome, option_map_or}
use Rattle.std.specs.Prelude.{Option, Some, None}
use Rattle.std.proofs.lemmas.List.Elements.{All-from_recursion, recursion_from_All}
use Rattle.net_types.specs.ConfigFacts.{IsConfig, IsBgp, IsNeighbor}
use Rattle.net_types.specs.NetFacts.{IsNotice, notice_before}
use Rattle.net_types.specs.declared.config.RouterConfig.{RouterConfig}
use Rattle.net_types.specs.declared.config.BgpConfig.{BgpConfig}
use Rattle.net_types.specs.declared.config.Neighbor.{Neighbor}
use Rattle.net_types.specs.declared.network.Link.{Link}
use Rattle.net_types.specs.declared.network.Notice.{Notice}
use Rattle.net_types.specs.declared.network.Router.{Router}
use Rattle.topology.specs.Notices.{neighbors_of, makes_session, idle_neighbors, notices_of, notices_from, same_notice, notices}
use Rattle.topology.proofs.RisingLemmas.{AllByRecursion-weaker, All-append, All-filter, All-map, All-ascending, Rises-ascending, AllPairs-from_rises}
use Rattle.topology.proofs.OrderLaws.{notice_order}

-- a notice of one of so many routers
record IsNoticeBelow (count : ℕ) (notice : Notice) : Type 0 where
  router : notice.router < count
  address : notice.address < 2 ^ 32

neighbors-are : (config : RouterConfig) (bgp : Option BgpConfig) → IfSome bgp (λ b. IsBgp config b) → AllByRecursion (IsNeighbor config) (option_map_or (λ (b : BgpConfig). b.neighbors) bgp [])
neighbors-are config None h = tt
neighbors-are config (Some b) h = recursion_from_All (IsNeighbor config) b.neighbors h.neighbors

below-notices_of : (count : ℕ) (links : List Link) (router : ℕ) (config : RouterConfig) → router < count → IsConfig config → AllByRecursion (IsNoticeBelow count) (notices_of links router config)
below-notices_of count links router config l c =
    All-map (λ (n : Neighbor). record { router = router; address = n.address }) (IsNoticeBelow count) (idle_neighbors links router config)
    (AllByRecursion-weaker (IsNeighbor config) (λ (n : Neighbor). IsNoticeBelow count (record { router = router; address = n.address })) (λ n h. record { router = l; address = h.address }) (idle_neighbors links router config)
    (All-filter (λ (n : Neighbor). not (makes_session links router n.address)) (IsNeighbor config) (neighbors_of config) (neighbors-are config config.bgp c.bgp)))

below-notices_from : (count : ℕ) (links : List Link) (router : ℕ) (configs : List RouterConfig) → router + length configs ≤ count → AllByRecursion IsConfig configs → AllByRecursion (IsNoticeBelow count) (notices_from links router configs)
below-notices_from count links router [] l a = tt
below-notices_from count links router (config ∷ configs) l a =
    All-append (IsNoticeBelow count) (notices_of links router config) (notices_from links (router + 1) configs) (below-notices_of count links router config (omega arith) a.0) (below-notices_from count links (router + 1) configs (omega arith) a.1)

pub IsNotice-notices : (routers : List Router) (links : List Link) (configs : List RouterConfig) → length configs ≤ length routers → AllByRecursion IsConfig configs → All (IsNotice routers) (notices links configs)
IsNotice-notices routers links configs l a =
    All-from_recursion (IsNotice routers) (notices links configs)
    (AllByRecursion-weaker (IsNoticeBelow (length routers)) (IsNotice routers) (λ notice n. record { router = n.router; address = n.address }) (notices links configs)
    (All-ascending (IsNoticeBelow (length routers)) same_notice notice_before (notices_from links 0 configs) (below-notices_from (length routers) links 0 configs (omega arith) a)))

pub notices-rise : (links : List Link) (configs : List RouterConfig) → AllPairs (λ (a b : Notice). notice_before a b ≡ true) (notices links configs)
notices-rise links configs = AllPairs-from_rises notice_before (notices links configs) (Rises-ascending same_notice notice_before notice_order (notices_from links 0 configs))
