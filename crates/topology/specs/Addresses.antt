-- The addresses of configurations, in the form in which common ones are looked for.
use Rattle.std.specs.Prelude.{ℕ, ◌==◌, Bool, List}
use Rattle.std.specs.List.{list_any, filter_map}
use Rattle.net_types.specs.declared.config.RouterConfig.{RouterConfig}
use Rattle.topology.specs.declared.addresses.Addresses.{Addresses}
use Rattle.topology.specs.Live.{link_address, has_address_twice}
use Rattle.topology.specs.Communities.{ascending_numbers}

-- the addresses of the live interfaces that can be ends of links, as they stand
abbrev pub link_addresses : RouterConfig → List ℕ
link_addresses config = filter_map (λ interface. link_address interface) config.interfaces

-- these addresses in ascending order, each once, and whether one stands twice
abbrev pub addresses_of : RouterConfig → Addresses
addresses_of config = record { each = ascending_numbers (link_addresses config); repeat = has_address_twice config }

-- some number stands in both lists
abbrev pub have_one : List ℕ → List ℕ → Bool
have_one xs ys = list_any (λ x. list_any (λ y. x == y) ys) xs

-- an address stands twice among these
abbrev pub repeats : Addresses → Bool
repeats addresses = addresses.repeat

-- some address stands among both
abbrev pub share_one : Addresses → Addresses → Bool
share_one a b = have_one a.each b.each
