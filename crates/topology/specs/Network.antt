-- The network of configurations, or their first refusal.
use Rattle.std.specs.Prelude.{ℕ, ◌≡◌, nat_lt, false, List, [], ◌∷◌, ◌++◌, length, Option, Some, None, option_map, Result, Ok, Err, if◌then◌else◌}
use Rattle.net_types.specs.declared.config.RouterConfig.{RouterConfig}
use Rattle.net_types.specs.declared.refusals.NetRefusal.{NetRefusal}
use Rattle.net_types.specs.declared.refusals.NetRefusal.TheVariants.{SameHost, SameAs, SameAddress, SharedSubnet, TooManyLinks, TooManyCommunities, TooManyRouters, NoMemory}
use Rattle.net_types.specs.NetValue.{NetValue}
use Rattle.topology.specs.declared.interfaces.Port.{Port}
use Rattle.topology.specs.declared.groups.Wire.{Wire}
use Rattle.topology.specs.Pairs.{least_pair}
use Rattle.topology.specs.Live.{in_order, same_host, same_asn, has_address_twice, meet_at_address, ports}
use Rattle.topology.specs.Groups.{shared_subnet, wires}
use Rattle.topology.specs.Communities.{communities}
use Rattle.topology.specs.Links.{links_of}
use Rattle.topology.specs.Notices.{notices}
use Rattle.topology.specs.Routers.{routers_from}

-- the least pair of positions of one host
abbrev pub host_pair : List RouterConfig → Option (ℕ × ℕ)
host_pair configs = least_pair (λ _. false) same_host 0 configs

-- the least pair of positions of one AS number
abbrev pub asn_pair : List RouterConfig → Option (ℕ × ℕ)
asn_pair configs = least_pair (λ _. false) same_asn 0 configs

-- the least pair of positions of one address
abbrev pub address_pair : List RouterConfig → Option (ℕ × ℕ)
address_pair configs = least_pair has_address_twice meet_at_address 0 configs

abbrev pub too_many : (ℕ → NetRefusal) → ℕ → Option NetRefusal
too_many refusal n = if nat_lt 64 n then Some (refusal n) else None

-- the network of configurations in order, their live interfaces, the pairs of them that are links, and the
-- communities
abbrev pub net_from : List RouterConfig → List Port → List Wire → List ℕ → NetValue
net_from configs ports wires communities = record {
  routers = routers_from ports communities 0 configs;
  links = links_of configs wires;
  communities = communities;
  notices = notices (links_of configs wires) configs;
}

-- the network of the configurations
abbrev pub net_of : List RouterConfig → NetValue
net_of configs = net_from (in_order configs) (ports configs) (wires (ports configs)) (communities configs)

-- the first refusal of a list that stands, else the value
abbrev pub unless : {A : Type 0} → List (Option NetRefusal) → A → Result A NetRefusal
unless [] value = Ok value
unless (Some refusal ∷ later) value = Err refusal
unless (None ∷ later) value = unless later value

-- the refusals of the pairs that meet, in the order in which they are tried
abbrev pub pair_refusals : List RouterConfig → List (Option NetRefusal)
pair_refusals configs =
    option_map (λ p. SameHost p.0 p.1) (host_pair configs) ∷
    option_map (λ p. SameAs p.0 p.1) (asn_pair configs) ∷
    option_map (λ p. SameAddress p.0 p.1) (address_pair configs) ∷
    []

-- the refusals of the whole, in the order in which they are tried then
abbrev pub whole_refusals : List RouterConfig → List (Option NetRefusal)
whole_refusals configs =
    option_map (λ prefix. SharedSubnet prefix) (shared_subnet (ports configs)) ∷
    too_many (λ n. TooManyLinks n) (length (wires (ports configs))) ∷
    too_many (λ n. TooManyCommunities n) (length (communities configs)) ∷
    too_many (λ n. TooManyRouters n) (length configs) ∷
    []

-- the refusals, in their order
abbrev pub refusals : List RouterConfig → List (Option NetRefusal)
refusals configs = pair_refusals configs ++ whole_refusals configs

-- the network of the configurations, or the first refusal that stands
abbrev pub network_of : List RouterConfig → Result NetValue NetRefusal
network_of configs = unless (refusals configs) (net_of configs)

-- what is answered: this value or refusal, or want of memory
abbrev pub Answers : {A : Type 0} → Result A NetRefusal → Result A NetRefusal → Type 0
Answers value (Ok found) = value ≡ Ok found
Answers value (Err NoMemory) = Unit {0}
Answers value (Err refusal) = value ≡ Err refusal
