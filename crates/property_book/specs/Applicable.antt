-- Whether a property applies to a network: its routers are there, its prefix is owned, and the prefix
-- overlaps no other owned prefix and no link's subnet. This project's own.
use Rattle.std.specs.Prelude.{ℕ, ◌&&◌, ◌||◌, not, Bool, true, List as Seq, Option, Some, None, is_some, if◌then◌else◌}
use Rattle.std.specs.List.{list_any}
use Rattle.net_types.specs.declared.network.Router.{Router}
use Rattle.net_types.specs.declared.network.Owned.{Owned}
use Rattle.net_types.specs.declared.network.Link.{Link}
use Rattle.net_types.specs.NetValue.{NetValue}
use Rattle.net_types.specs.Numbering.{router_number}
use Rattle.net_types.specs.Owners.{is_owned}
use Rattle.net_types.specs.PrefixValue.{PrefixValue}
use Rattle.net_types.specs.Prefixes.{overlaps, same_prefix}
use Rattle.property_book.specs.declared.property.Kind.{Kind}
use Rattle.property_book.specs.declared.property.Kind.TheVariants.{Reach, Isolated, Waypoint}
use Rattle.property_book.specs.declared.property.Property.{Property}
use Rattle.property_book.specs.declared.verdict.Barred.{Barred}
use Rattle.property_book.specs.declared.verdict.Barred.TheVariants.{UnknownRouter, NotOwned, Overlaps}

-- a router has this host
abbrev pub has_router : NetValue → Seq ℕ → Bool
has_router net host = is_some (router_number net host)

-- the routers that a kind names are there
abbrev pub has_routers_of : NetValue → Kind → Bool
has_routers_of net Reach = true
has_routers_of net Isolated = true
has_routers_of net (Waypoint via) = has_router net via

-- some router owns the prefix
abbrev pub is_owned_in : NetValue → PrefixValue → Bool
is_owned_in net prefix = list_any (λ (router : Router). is_owned prefix router.owned) net.routers

-- an owned prefix is another one and overlaps this one
abbrev pub is_other_overlap : PrefixValue → Owned → Bool
is_other_overlap prefix entry = overlaps entry.prefix prefix && not (same_prefix entry.prefix prefix)

abbrev pub overlaps_owned : PrefixValue → Router → Bool
overlaps_owned prefix router = list_any (is_other_overlap prefix) router.owned

-- the prefix overlaps another owned prefix, or a link's subnet
abbrev pub overlaps_owned_in : NetValue → PrefixValue → Bool
overlaps_owned_in net prefix = list_any (overlaps_owned prefix) net.routers

abbrev pub overlaps_link_in : NetValue → PrefixValue → Bool
overlaps_link_in net prefix = list_any (λ (link : Link). overlaps link.subnet prefix) net.links

-- why no property of the prefix applies, the first cause that stands
abbrev pub bar_by_prefix : NetValue → PrefixValue → Option Barred
bar_by_prefix net prefix =
    if not (is_owned_in net prefix) then Some NotOwned else
    if overlaps_owned_in net prefix || overlaps_link_in net prefix then Some Overlaps else None

-- why a property does not apply, the first cause that stands; none where it applies
unfoldable pub barred : NetValue → Property → Option Barred
barred net property =
    if not (has_router net property.router && has_routers_of net property.kind) then Some UnknownRouter
    else bar_by_prefix net property.prefix
