-- The numbers of a network: a router's and a community's is its place.
use Rattle.std.specs.Prelude.{ℕ, ◌==◌, List, [], Option, position, slice_get}
use Rattle.std.specs.Option.{option_map_or}
use Rattle.net_types.specs.declared.network.Router.{Router}
use Rattle.net_types.specs.NetValue.{NetValue}
use Rattle.net_types.specs.Order.{same_text}

-- the number of the router with a host, among these and in a network
abbrev pub router_among : List Router → List ℕ → Option ℕ
router_among routers host = position (λ (router : Router). same_text router.host host) routers

abbrev pub router_number : NetValue → List ℕ → Option ℕ
router_number net host = router_among net.routers host

-- the host of the router with a number, no text where there is no such router
abbrev pub host_of : NetValue → ℕ → List ℕ
host_of net u = option_map_or (λ (router : Router). router.host) (slice_get net.routers u) []

-- the number of the community with a value, among these and in a network
abbrev pub community_among : List ℕ → ℕ → Option ℕ
community_among communities value = position (λ community. community == value) communities

abbrev pub community_number : NetValue → ℕ → Option ℕ
community_number net value = community_among net.communities value
